-- The one test; the planes of the present format as their function gives them. Assumes nothing.
use Rattle.device_state.specs.Setup.{setup_in}
use Rattle.device_state.specs.State.{with_setup}
use Rattle.device_planes.proofs.Cases.{plane_closed, plane_open}
use Rattle.device_planes.proofs.plane_place.Goals as goal

pub returns-then-setup-eq0 : goal.returns-then-setup-eq0
unfolding setup_in
returns-then-setup-eq0 c x = plane_closed (with_setup x (setup_in c.args.setup.now)) c.if-setup-eq0.true _ _ _ c.from-number.ensures

pub returns : goal.returns
unfolding setup_in
returns c x =
    let a = c.args in
    plane_open (with_setup x (setup_in a.setup.now)) c.if-setup-eq0.false _ _ _ c.line_alignment.ensures (rw c.format_in-f.ensures at c.plane_place.ensures)
