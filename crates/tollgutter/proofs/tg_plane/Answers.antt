-- What plane_place promises of every state, of the one that is lent. Assumes nothing.
use Rattle.device_state.specs.State.{state_in}
use Rattle.tollgutter.proofs.tg_plane.Goals as goal

pub returns : goal.returns
returns c =
    let d = c.args.d.now in
    c.plane_place.ensures (state_in d.setup d.values d.services d.video d.captions)
