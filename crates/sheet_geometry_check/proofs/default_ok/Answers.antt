-- The two directions. Assumes nothing.
use Prim.Native.Nat.{ℕ, ◌+◌}
use mathlib.Core.Path.{◌≡◌, ap, ◌∙◌}
use mathlib.Core.Bool.{Bool, ◌&&◌}
use mathlib.Core.List.{List}
use Rattle.wire_signed.specs.Signed.{signed_at}
use Rattle.sheet_rules.specs.Rules.{inside_ok, default_ok}
use Rattle.sheet_geometry.specs.Geometry.{crop_bounds, crop_default, rect_at}
use Rattle.sheet_rules.proofs.Truth.{◌and◌}
use Rattle.sheet_geometry_check.proofs.default_ok.Goals as goal

-- the two directions, by the places of their numbers
by_parts : (s : List ℕ) (g h : ℕ) {x y : Bool} → g ≡ h
    → x ≡ inside_ok (signed_at s (g + 28)) (signed_at s (g + 28 + 8)) (signed_at s (g + 44)) (signed_at s (g + 44 + 8))
    → y ≡ inside_ok (signed_at s (g + 28 + 4)) (signed_at s (g + 28 + 12)) (signed_at s (g + 44 + 4)) (signed_at s (g + 44 + 12))
    → (x && y) ≡ default_ok (rect_at s (h + 28)) (rect_at s (h + 44))
unfolding default_ok rect_at
by_parts s g h e p q = (p and q) ∙ ap (λ (n : ℕ). default_ok (rect_at s (n + 28)) (rect_at s (n + 44))) e

pub returns : goal.returns
unfolding crop_bounds crop_default
returns c = by_parts c.args.s.now _ _ c.geometry_at-g.ensures.0 c.inside_at.ensures c.inside_at-2.ensures
