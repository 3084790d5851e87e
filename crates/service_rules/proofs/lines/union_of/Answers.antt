-- Each service by the lines. Assumes nothing.
use borrow.Author.Rules.{rules}
use lib.ListN.{get_or}
use Rattle.sheet_rules.specs.Folds.{any_below}
use Rattle.service_rules.specs.Services.{has}
use Rattle.service_rules.specs.Negotiation.{union_of}
use Rattle.service_rules.proofs.lines.union_of.Goals as goal

pub returns : goal.returns
unfolding union_of
returns c = c.gather.ensures (λ bit. any_below 48 (λ k. has (get_or c.args.lines.now k 0) bit)) (λ bit r m. search rules)
