-- The tests in the order of the definition, then what the stream of the type promises. Assumes nothing.
use mathlib.Core.Path.{sym, ap, ◌∙◌}
use Rattle.std.specs.Prelude.{Ok}
use Rattle.device_state.proofs.ReadTypes.{pictures_is, captions_is, neither_is}
use Rattle.device_state.specs.Setup.{setup_in}
use Rattle.device_state.specs.State.{state_in}
use Rattle.device_film.proofs.Cases.{arrives_closed, arrives_picture, arrives_captions, arrives_other}
use Rattle.device_film.proofs.arrive.Goals as goal

pub returns-then-setup-eq0 : goal.returns-then-setup-eq0
unfolding setup_in
returns-then-setup-eq0 c v =
    let a = c.args in
    let d = state_in a.setup.now v a.services.now a.video.now a.captions.now in
    arrives_closed d a.kind a.memory.now a.frame.now a.time c.if-setup-eq0.true

pub returns-in-Ok-Pictures : goal.returns-in-Ok-Pictures
unfolding setup_in
returns-in-Ok-Pictures c v =
    let a = c.args in
    let d = state_in a.setup.now v a.services.now a.video.now a.captions.now in
    let is = pictures_is a.kind (sym c.try_from.ensures ∙ c.in-Ok-Pictures.is ∙ ap Ok c.in-Ok-Pictures.field-0-is) in
    let r = c.picture.ensures in
    arrives_picture d a.kind a.memory.now a.frame.now a.time c.if-setup-eq0.false is r.video_after r.memory_after

pub returns-in-Ok-Captions : goal.returns-in-Ok-Captions
unfolding setup_in
returns-in-Ok-Captions c v =
    let a = c.args in
    let d = state_in a.setup.now v a.services.now a.video.now a.captions.now in
    let is = captions_is a.kind (sym c.try_from.ensures ∙ c.in-Ok-Captions.is ∙ ap Ok c.in-Ok-Captions.field-0-is) in
    let r = c.lines.ensures in
    arrives_captions d a.kind a.memory.now a.frame.now a.time c.if-setup-eq0.false is.0 is.1 r.captions_after r.memory_after

pub returns-in-Err : goal.returns-in-Err
unfolding setup_in
returns-in-Err c v =
    let a = c.args in
    let d = state_in a.setup.now v a.services.now a.video.now a.captions.now in
    let is = neither_is a.kind c.in-Err.why (sym c.try_from.ensures ∙ c.in-Err.is) in
    rw (← is.2) (arrives_other d a.kind a.memory.now a.frame.now a.time c.if-setup-eq0.false is.0 is.1)
