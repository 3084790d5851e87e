-- A refusal with the closed device, as it is promised. Assumes nothing.
use mathlib.Core.Path.{◌∙◌}
use Rattle.device_opening.specs.Opening.{closed_by}
use Rattle.device_opening.proofs.open_device.Goals as goal

pub returns-in-Err : goal.returns-in-Err
unfolding closed_by
returns-in-Err c = rw (c.closed_device.ensures c.in-Err.why) c.in-Err.ensures
