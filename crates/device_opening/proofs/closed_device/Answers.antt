-- Each part as its callee promises. Assumes nothing.
use Rattle.device_state.specs.State.{closed_state}
use Rattle.device_opening.specs.Opening.{closed_by}
use Rattle.device_opening.proofs.closed_device.Goals as goal

pub returns : goal.returns
unfolding closed_by closed_state
returns c why =
    rw (c.closed.ensures, c.fresh.ensures, c.fresh-2.ensures)
