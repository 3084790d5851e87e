-- Sizes and code, each by its own rule. Assumes nothing.
use mathlib.Core.Path.{ap, ◌∙◌}
use Rattle.sheet_geometry.specs.declared.Range.{Range}
use Rattle.grid_rules.specs.Grid.{nearest_size}
use Rattle.negotiation_rules.specs.Negotiation.{negotiated}
use Rattle.negotiation_rules.proofs.Fields.{same_format}
use Rattle.negotiation_rules.proofs.request.negotiate.Goals as goal

pub returns : goal.returns
unfolding negotiated
returns c =
    let f = c.args.asked in
    same_format
    (c.nearest_size.ensures ∙ ap (λ (r : Range). nearest_size r f.width) c.widths.ensures)
    (c.nearest_size-2.ensures ∙ ap (λ (r : Range). nearest_size r f.height) c.heights.ensures)
    c.chosen.ensures
