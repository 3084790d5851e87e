-- The letters, and behind them the words. Assumes nothing.
use mathlib.Core.Path.{refl, ◌∙◌}
use Prim.Native.Nat.{◌/◌, ◌%◌}
use mathlib.Core.List.{[], ◌∷◌}
use Rattle.wire_read.specs.Words.{bytes_of}
use Rattle.wire_read.proofs.Stores.{then_at}
use Rattle.ivtv_rules.specs.Block.{itv0}
use Rattle.ivtv_writer.proofs.Written.{all_lines, some_lines}
use Rattle.ivtv_writer.proofs.put_opening.Goals as goal

pub returns-then-n-eq36 : goal.returns-then-n-eq36
returns-then-n-eq36 c =
    let a = c.args in
    rw (all_lines a.n a.mask c.if-n-eq36.true) c.put_part.ensures

pub returns : goal.returns
returns c =
    let a = c.args in
    rw (some_lines a.n a.mask c.if-n-eq36.false)
    (c.put_words.ensures
    ∙ rw c.put_part-2.ensures (then_at itv0 (bytes_of (a.mask % 4294967296 ∷ a.mask / 4294967296 ∷ [])) a.block.now 4 refl))
