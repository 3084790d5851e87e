-- The invariant: found is what the formats passed say. Assumes nothing.
use mathlib.Core.Path.{refl, sym, ap, ap₂, ◌∙◌}
use Prim.Native.Nat.{ℕ, min}
use mathlib.Core.Bool.{◌||◌}
use lib.Dec.{eqb}
use native.Mathlib.Nat.{le_antisymm}
use Rattle.sheet_rules.specs.Folds.{any_below}
use Rattle.sheet_rules.proofs.Folding.{any_more}
use Rattle.negotiation_rules.specs.Negotiation.{offers_among, offered}
use Rattle.negotiation_rules.proofs.request.offers.Goals as goal

pub loop-k-init : goal.loop-k-init
unfolding offers_among any_below
loop-k-init c = refl

pub loop-k-preserved : goal.loop-k-preserved
unfolding offers_among
loop-k-preserved c =
    let code = c.args.code in
    ap₂ ◌||◌ c.loop-k.invariant (ap (λ (w : ℕ). eqb w code) c.format_code.ensures) ∙ sym (any_more _ _)

pub returns : goal.returns
unfolding offered
returns c =
    let l = c.loop-k in
    l.invariant ∙ ap (offers_among _ _) (le_antisymm l.auto.k-end c.loop-k-test.false ∙ c.min-k-end.ensures ∙ ap (λ (m : ℕ). min m 9) c.format_count.ensures)
