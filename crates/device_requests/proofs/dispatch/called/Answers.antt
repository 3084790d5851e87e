-- What the calls about the topic promise. Assumes nothing.
use mathlib.Core.Path.{◌∙◌, refl, sym, ap}
use Rattle.std.specs.Prelude.{Some}
use Rattle.stream_words.proofs.Record.{granted_is}
use Rattle.device_state.specs.Setup.{setup_in}
use Rattle.device_state.specs.State.{state_in}
use Rattle.request_topics.specs.declared.About.TheVariants.{Settings, Streams, Controls}
use Rattle.request_topics.proofs.Cases.{topic_called, topic_nothing}
use Rattle.device_requests.proofs.dispatch.called.Goals as goal

pub returns-in-Some-Settings : goal.returns-in-Some-Settings
returns-in-Some-Settings c =
    let a = c.args in
    let d = state_in a.setup.now a.values.now a.services.now a.video.now a.captions.now in
    topic_called Settings a.call a.sheet.now d a.argument.now (ap Some (sym c.in-Some-Settings.field-0-is) ∙ sym c.in-Some-Settings.is ∙ c.topic.ensures) (c.setting_request.ensures d (granted_is a.video.now) (granted_is a.captions.now))

pub returns-in-Some-Streams : goal.returns-in-Some-Streams
unfolding setup_in
returns-in-Some-Streams c =
    let a = c.args in
    let d = state_in a.setup.now a.values.now a.services.now a.video.now a.captions.now in
    topic_called Streams a.call a.sheet.now d a.argument.now (ap Some (sym c.in-Some-Streams.field-0-is) ∙ sym c.in-Some-Streams.is ∙ c.topic.ensures) (c.stream_request.ensures a.sheet.now d refl refl)

pub returns-in-Some-Controls : goal.returns-in-Some-Controls
returns-in-Some-Controls c =
    let a = c.args in
    let d = state_in a.setup.now a.values.now a.services.now a.video.now a.captions.now in
    topic_called Controls a.call a.sheet.now d a.argument.now (ap Some (sym c.in-Some-Controls.field-0-is) ∙ sym c.in-Some-Controls.is ∙ c.topic.ensures) (c.control_request.ensures d)

pub returns-in-None : goal.returns-in-None
returns-in-None c =
    let a = c.args in
    let d = state_in a.setup.now a.values.now a.services.now a.video.now a.captions.now in
    topic_nothing a.call a.sheet.now d a.argument.now (sym c.in-None.is ∙ c.topic.ensures)
