-- The rectangle at its place. Assumes nothing.
use mathlib.Core.Path.{ap, ◌∙◌}
use Prim.Native.Nat.{ℕ, ◌+◌}
use Rattle.sheet_geometry.specs.Geometry.{rect_at, crop_bounds}
use Rattle.sheet_crop.proofs.crop_bounds.Goals as goal

pub returns : goal.returns
unfolding crop_bounds
returns c =
    let s = c.args.s.now in
    c.rect_at.ensures ∙ ap (λ (n : ℕ). rect_at s (n + 28)) c.geometry_at.ensures.0
