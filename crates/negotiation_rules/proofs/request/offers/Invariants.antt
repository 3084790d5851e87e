-- The invariant: found is what the formats passed say. Assumes nothing.
use mathlib.Core.Path.{◌≡◌}
use Rattle.negotiation_rules.specs.Negotiation.{offers_among}
use Rattle.negotiation_rules.proofs.request.offers.Given as goal

abbrev pub invariant-loop-k : goal.invariant-loop-k
invariant-loop-k l = l.found ≡ offers_among l.s l.code l.k
