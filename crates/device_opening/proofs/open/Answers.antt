-- The number and the device of what was made, and a closed device behind a refusal. Assumes nothing.
use mathlib.Core.Path.{◌≡◌, ap, ◌∙◌}
use Rattle.device_opening.specs.Opening.{Opened, closed_by, opened_of}
use Rattle.device_opening.proofs.open.Goals as goal

pub returns-in-Ok : goal.returns-in-Ok
returns-in-Ok c =
    let e = c.in-Ok.ensures in
    (ap (λ (o : Opened). o.number) e, ap (λ (o : Opened). o.device) e)

pub returns-in-Err : goal.returns-in-Err
unfolding closed_by
returns-in-Err c =
    let a = c.args in
    let why = c.in-Err.why in
    let e : closed_by why ≡ opened_of a.sheet.now a.pictures a.captions = c.in-Err.ensures in
    (ap (λ (o : Opened). o.number) e, c.closed_device.ensures why ∙ ap (λ (o : Opened). o.device) e)
