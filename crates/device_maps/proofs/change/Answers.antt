-- The tests in the order of the definition, then what the stream of the type promises. Assumes nothing.
use Rattle.stream_run.proofs.Given.{done_number}
use mathlib.Core.Path.{refl, sym, ap, ◌∙◌}
use Rattle.std.specs.Prelude.{Ok}
use Rattle.ioctl_table.specs.Refusal.{errno_of}
use Rattle.ioctl_table.proofs.Raised.{raised}
use Rattle.device_state.proofs.ReadTypes.{pictures_is, captions_is, neither_is}
use Prim.Native.Nat.{ℕ}
use Rattle.stream_mmap.specs.Mapping.{change_of}
use Rattle.device_state.specs.Setup.{setup_in}
use Rattle.device_state.specs.State.{state_in}
use Rattle.device_maps.proofs.Cases.{maps_closed, maps_picture, maps_captions, maps_other}
use Rattle.device_maps.proofs.change.Goals as goal

pub returns-then-setup-eq0 : goal.returns-then-setup-eq0
unfolding setup_in
returns-then-setup-eq0 c v =
    let a = c.args in
    let d = state_in a.setup.now v a.services.now a.video.now a.captions.now in
    maps_closed a.c d a.kind a.offset a.length _ c.if-setup-eq0.true refl

pub returns-in_err-try_from : goal.returns-in_err-try_from
unfolding setup_in
returns-in_err-try_from c v =
    let a = c.args in
    let d = state_in a.setup.now v a.services.now a.video.now a.captions.now in
    let why = c.in_err-try_from.field-0.0 in
    let is = neither_is a.kind why (sym c.try_from.ensures ∙ c.in_err-try_from.was) in
    maps_other a.c d a.kind a.offset a.length _ c.if-setup-eq0.false is.0 is.1 (raised c.from_residual.result why c.from_residual.ensures.1 ∙ ap errno_of (sym is.2))

pub returns-in-Pictures : goal.returns-in-Pictures
unfolding setup_in
returns-in-Pictures c v =
    let a = c.args in
    let d = state_in a.setup.now v a.services.now a.video.now a.captions.now in
    let is = pictures_is a.kind (sym c.try_from.ensures ∙ c.in_ok-try_from.was ∙ ap Ok c.in-Pictures.is) in
    maps_picture a.c d a.kind a.offset a.length _ c.if-setup-eq0.false is c.change.ensures (done_number _)

pub returns-in-Captions : goal.returns-in-Captions
unfolding setup_in
returns-in-Captions c v =
    let a = c.args in
    let d = state_in a.setup.now v a.services.now a.video.now a.captions.now in
    let is = captions_is a.kind (sym c.try_from.ensures ∙ c.in_ok-try_from.was ∙ ap Ok c.in-Captions.is) in
    maps_captions a.c d a.kind a.offset a.length _ c.if-setup-eq0.false is.0 is.1
    (c.change-in-Captions.ensures ∙ ap (λ (n : ℕ). change_of a.c d.captions n a.offset a.length) c.io_size.ensures) (done_number _)
