-- The code asked for where it is offered. Assumes nothing.
use mathlib.Core.Path.{sym, ◌∙◌}
use Rattle.negotiation_rules.specs.Negotiation.{chosen_code}
use Rattle.negotiation_rules.proofs.request.chosen.Goals as goal

pub returns-then-offers : goal.returns-then-offers
unfolding chosen_code
returns-then-offers c = rw (sym c.offers.ensures ∙ c.if-offers.true)

pub returns : goal.returns
unfolding chosen_code
returns c = rw (sym c.offers.ensures ∙ c.if-offers.false) c.format_code.ensures
