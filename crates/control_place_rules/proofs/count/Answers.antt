-- The lesser of two. Assumes nothing.
use Rattle.std.proofs.Common.{rules}
use Rattle.control_place_rules.specs.Find.{present}
use Rattle.control_place_rules.proofs.count.Goals as goal

pub returns : goal.returns
unfolding present
returns c = search rules
