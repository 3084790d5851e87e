-- Each service by the tests of both sets. Assumes nothing.
use mathlib.Core.Bool.{◌&&◌}
use borrow.Author.Rules.{rules}
use Rattle.service_rules.specs.Services.{has}
use Rattle.service_rules.specs.Negotiation.{common}
use Rattle.service_rules.proofs.sets.common.Goals as goal

pub returns : goal.returns
unfolding common
returns c = c.gather.ensures (λ bit. has c.args.a bit && has c.args.b bit) (λ bit r m. search rules)
