-- Three words. Assumes nothing.
use Rattle.negotiation_rules.specs.Negotiation.{asked_format}
use Rattle.negotiation_rules.proofs.Fields.{same_format}
use Rattle.negotiation_rules.proofs.request.asked.Goals as goal

pub returns : goal.returns
unfolding asked_format
returns c = same_format c.word_at.ensures c.word_at-2.ensures c.word_at-3.ensures
