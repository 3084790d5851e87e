-- The sheet's own numbers. Assumes nothing.
use mathlib.Core.Path.{ap}
use Rattle.sheet_geometry.specs.declared.Range.{Range}
use Rattle.negotiation_rules.specs.Negotiation.{opening_format}
use Rattle.negotiation_rules.proofs.Fields.{same_format}
use Rattle.negotiation_rules.proofs.request.at_opening.Goals as goal

pub returns : goal.returns
unfolding opening_format
returns c =
    same_format (ap (λ (r : Range). r.greatest) c.widths-w.ensures) (ap (λ (r : Range). r.greatest) c.heights-h.ensures) c.format_code.ensures
