-- The callees' tests, joined as in the definition. Assumes nothing.
use mathlib.Core.Path.{ap, ◌∙◌}
use Rattle.sheet_rules.specs.Rules.{has_zero, known_code, format_ok}
use Rattle.sheet_rules.proofs.Truth.{◌and◌}
use Rattle.sheet_check.proofs.format_ok.Goals as goal

pub returns : goal.returns
unfolding format_ok
returns c =
    (c.known_code.ensures ∙ ap known_code c.format_code.ensures)
    and c.new_code.ensures
    and (c.has_zero.ensures ∙ ap has_zero c.format_description.ensures)
