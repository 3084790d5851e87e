-- The range at its place. Assumes nothing.
use mathlib.Core.Path.{ap, ◌∙◌}
use Prim.Native.Nat.{ℕ, ◌+◌}
use Rattle.sheet_geometry.specs.Geometry.{range_at, heights_of}
use Rattle.sheet_geometry.proofs.heights.Goals as goal

pub returns : goal.returns
unfolding heights_of
returns c =
    let s = c.args.s.now in
    c.range_at.ensures ∙ ap (λ (n : ℕ). range_at s (n + 12)) c.geometry_at.ensures.0
