-- The table of the services computes to these lines. Assumes nothing.
use mathlib.Core.Path.{refl}
use Rattle.wire_read.specs.Lists.{tab}
use Rattle.service_rules.specs.Services.{set_of, offered_at, capability_lines}
use Rattle.service_rules.proofs.lines.offered_lines.Goals as goal

pub returns : goal.returns
unfolding capability_lines offered_at set_of tab
returns c = refl
