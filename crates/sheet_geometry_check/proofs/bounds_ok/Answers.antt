-- The words of the two directions. Assumes nothing.
use Prim.Native.Nat.{ℕ, ◌+◌}
use mathlib.Core.Path.{ap, ap₂, ◌∙◌}
use mathlib.Core.Bool.{Bool}
use Rattle.sheet_rules.specs.Rules.{bound_ok, bounds_ok}
use Rattle.sheet_geometry.specs.Geometry.{crop_bounds, rect_at}
use Rattle.wire_signed.specs.Signed.{signed, signed_at}
use Rattle.sheet_rules.proofs.Truth.{◌and◌}
use Rattle.sheet_geometry_check.proofs.bounds_ok.Goals as goal

pub returns : goal.returns
unfolding bounds_ok crop_bounds rect_at signed_at
returns c =
    let s = c.args.s.now in
    let words : ℕ → ℕ → Bool = λ v w. bound_ok (signed v) (signed w) in
    ((c.bound_ok.ensures ∙ ap₂ words c.word_at.ensures c.word_at-2.ensures)
    and (c.bound_ok-2.ensures ∙ ap₂ words c.word_at-3.ensures c.word_at-4.ensures))
    ∙ ap (λ (n : ℕ). bounds_ok (rect_at s (n + 28))) c.geometry_at-b.ensures.0
