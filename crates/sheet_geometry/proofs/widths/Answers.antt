-- The range at its place. Assumes nothing.
use mathlib.Core.Path.{ap, ◌∙◌}
use Rattle.sheet_geometry.specs.Geometry.{range_at, widths_of}
use Rattle.sheet_geometry.proofs.widths.Goals as goal

pub returns : goal.returns
unfolding widths_of
returns c = c.range_at.ensures ∙ ap (range_at _) c.geometry_at.ensures.0
