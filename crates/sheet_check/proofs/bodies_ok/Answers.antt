-- The callees' tests, joined as in the definition. Assumes nothing.
use mathlib.Core.Path.{ap, ◌∙◌}
use Rattle.sheet_rules.specs.Rules.{formats_ok, controls_ok, bodies_ok}
use Rattle.sheet_rules.proofs.Truth.{◌and◌}
use Rattle.sheet_check.proofs.bodies_ok.Goals as goal

pub returns : goal.returns
unfolding bodies_ok
returns c =
    c.identity_ok.ensures
    and (c.formats_ok.ensures ∙ ap (formats_ok _) c.format_count.ensures)
    and c.geometry_ok.ensures
    and (c.controls_ok.ensures ∙ ap (controls_ok _) c.control_count.ensures)
