-- 0 where it was done, else the number of the refusal. Assumes nothing.
use mathlib.Core.Path.{◌≡◌, sym, ◌∙◌}
use mathlib.Core.Bool.{true, false}
use lib.ListN.{length}
use Rattle.ivtv_rules.specs.Writing.{packable, pack_number}
use Rattle.ivtv.proofs.pack.Goals as goal

pub returns-then-write : goal.returns-then-write
unfolding pack_number
returns-then-write c =
    let w = c.write in
    let a = c.args in
    let e : packable a.lines.now (length a.block.now) ≡ true = sym w.ensures.0 ∙ c.if-write.true in
    (rw e, w.ensures.1)

pub returns : goal.returns
unfolding pack_number
returns c =
    let w = c.write in
    let a = c.args in
    let e : packable a.lines.now (length a.block.now) ≡ false = sym w.ensures.0 ∙ c.if-write.false in
    (rw e, w.ensures.1)
