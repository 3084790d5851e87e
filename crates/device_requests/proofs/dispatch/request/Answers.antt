-- A closed device; else the call as it promises. Assumes nothing.
use Rattle.device_state.specs.Setup.{setup_in}
use Rattle.device_state.specs.State.{state_in}
use Rattle.request_topics.proofs.Cases.{request_closed, request_checked}
use Rattle.device_requests.proofs.dispatch.request.Goals as goal

pub returns-then-setup-eq0 : goal.returns-then-setup-eq0
unfolding setup_in
returns-then-setup-eq0 c =
    let a = c.args in
    request_closed _ (state_in a.setup.now a.values.now a.services.now a.video.now a.captions.now) _ _ c.if-setup-eq0.true

pub returns : goal.returns
unfolding setup_in
returns c =
    let a = c.args in
    request_checked _ (state_in a.setup.now a.values.now a.services.now a.video.now a.captions.now) _ _ c.if-setup-eq0.false c.lookup-r.ensures.row c.called.ensures
