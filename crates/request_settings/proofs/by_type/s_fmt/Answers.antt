-- Of pictures, what their handler promises. Assumes nothing.
use mathlib.Core.Path.{◌∙◌, ap, sym}
use Rattle.std.specs.Prelude.{Ok}
use Rattle.device_state.proofs.Typed.{named_pictures}
use Rattle.device_state.specs.Setup.{setup_in}
use Rattle.device_state.specs.State.{with_settings}
use Rattle.request_settings.proofs.by_type.s_fmt.Goals as goal

pub returns-in-Pictures : goal.returns-in-Pictures
returns-in-Pictures c x h k =
    let a = c.args in
    let d = with_settings x (setup_in a.setup.now) a.services.now in
    (c.s_fmt.ensures d h) ∙ sym (named_pictures 0 d a.argument.now _ _ c.word_at.ensures c.try_from.ensures (c.in_ok-try_from.was ∙ ap Ok c.in-Pictures.is))
