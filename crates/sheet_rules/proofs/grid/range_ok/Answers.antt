-- The callees' tests, joined as in the definition. Assumes nothing.
use Prim.Native.Nat.{ℕ, ◌%◌}
use mathlib.Core.Path.{ap, ◌∙◌}
use mathlib.Core.Bool.{Bool, ◌&&◌}
use lib.Dec.{eqb, leb}
use Rattle.sheet_rules.specs.Rules.{range_ok}
use Rattle.sheet_rules.proofs.grid.range_ok.Goals as goal

pub returns : goal.returns
unfolding range_ok
returns c =
    let r = c.args.r in
    ap (λ (t : Bool). leb 2 r.least && leb r.greatest 8192 && leb r.least r.greatest && eqb (r.least % 2) 0 && eqb (r.step % 2) 0 && leb 2 r.step && t)
    (c.multiple_of.ensures ∙ ap (λ (n : ℕ). eqb (n % r.step) 0) c.saturating_sub.ensures)
