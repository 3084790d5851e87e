-- The copy reads as the line. Assumes nothing.
use mathlib.Core.Path.{ap, ◌∙◌}
use mathlib.Core.List.{List}
use Prim.Native.Nat.{ℕ}
use lib.ListN.{get_or}
use Rattle.ivtv_rules.proofs.Zeros.{copied, good_same}
use Rattle.ivtv_lines.proofs.good_line.Goals as goal

pub returns : goal.returns
returns c =
    let l = c.args.line.now in
    c.good_whole-2.ensures ∙ good_same l c.put_part.new.dst (λ j h. ap (λ (m : List ℕ). get_or m j 0) c.put_part.ensures ∙ copied l j h)
