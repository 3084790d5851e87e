-- The callees' tests, joined as in the definition. Assumes nothing.
use mathlib.Core.Path.{ap, ◌∙◌}
use Rattle.sheet_rules.specs.Rules.{range_ok, alignment_ok, geometry_ok}
use Rattle.sheet_rules.proofs.Truth.{◌and◌}
use Rattle.sheet_geometry_check.proofs.geometry_ok.Goals as goal

pub returns : goal.returns
unfolding geometry_ok
returns c =
    (c.range_ok.ensures ∙ ap range_ok c.widths.ensures)
    and (c.range_ok-2.ensures ∙ ap range_ok c.heights.ensures)
    and (c.alignment_ok.ensures ∙ ap alignment_ok c.line_alignment.ensures)
    and c.bounds_ok.ensures
    and c.default_ok.ensures
    and c.aspect_ok.ensures
