-- Each arm as its call promises. Assumes nothing.
use mathlib.Core.Bool.{false}
use mathlib.Core.Path.{◌≡◌, refl}
use Rattle.device_state.specs.State.{with_values}
use Rattle.ioctl_table.specs.declared.table.Call.{Call}
use Rattle.ioctl_table.specs.declared.table.Call.TheVariants.{GCtrl, SCtrl, Queryctrl}
use Rattle.request_topics.specs.declared.About.TheVariants.{Controls}
use Rattle.request_topics.specs.Request.{topic_of, is_about}
use Rattle.request_topics.proofs.Cases.{arm_length, arm_called, topic_other}
use Rattle.request_controls.proofs.control_request.Goals as goal

pub returns-in_err-of_length-in-GCtrl : goal.returns-in_err-of_length-in-GCtrl
returns-in_err-of_length-in-GCtrl c x =
    let a = c.args in
    let d = with_values x a.values.now in
    let e = c.in_err-of_length-in-GCtrl.ensures in
    arm_length Controls GCtrl a.sheet.now d a.argument.now c.in-GCtrl.is refl refl e.of_length e.refused c.from_residual.result c.from_residual.ensures.1

pub returns-in_err-of_length-in-SCtrl : goal.returns-in_err-of_length-in-SCtrl
returns-in_err-of_length-in-SCtrl c x =
    let a = c.args in
    let d = with_values x a.values.now in
    let e = c.in_err-of_length-in-SCtrl.ensures in
    arm_length Controls SCtrl a.sheet.now d a.argument.now c.in-SCtrl.is refl refl e.of_length e.refused c.from_residual-in_err-of_length-in-SCtrl.result c.from_residual-in_err-of_length-in-SCtrl.ensures.1

pub returns-in_err-of_length-in-Queryctrl : goal.returns-in_err-of_length-in-Queryctrl
returns-in_err-of_length-in-Queryctrl c x =
    let a = c.args in
    let d = with_values x a.values.now in
    let e = c.in_err-of_length-in-Queryctrl.ensures in
    arm_length Controls Queryctrl a.sheet.now d a.argument.now c.in-Queryctrl.is refl refl e.of_length e.refused c.from_residual-in_err-of_length-in-Queryctrl.result c.from_residual-in_err-of_length-in-Queryctrl.ensures.1

pub returns-in_ok-of_length-in-GCtrl : goal.returns-in_ok-of_length-in-GCtrl
returns-in_ok-of_length-in-GCtrl c x =
    let a = c.args in
    let d = with_values x a.values.now in
    arm_called Controls GCtrl a.sheet.now d a.argument.now c.in-GCtrl.is refl refl c.in_ok-of_length-in-GCtrl.ensures.of_length.0 (c.g_ctrl.ensures x)

pub returns-in_ok-of_length-in-SCtrl : goal.returns-in_ok-of_length-in-SCtrl
returns-in_ok-of_length-in-SCtrl c x =
    let a = c.args in
    let d = with_values x a.values.now in
    arm_called Controls SCtrl a.sheet.now d a.argument.now c.in-SCtrl.is refl refl c.in_ok-of_length-in-SCtrl.ensures.of_length.0 (c.s_ctrl.ensures x)

pub returns-in_ok-of_length-in-Queryctrl : goal.returns-in_ok-of_length-in-Queryctrl
returns-in_ok-of_length-in-Queryctrl c x =
    let a = c.args in
    let d = with_values x a.values.now in
    arm_called Controls Queryctrl a.sheet.now d a.argument.now c.in-Queryctrl.is refl refl c.in_ok-of_length-in-Queryctrl.ensures.of_length.0 (c.queryctrl.ensures d)

-- a call that is none of these is about another topic
another_topic : (k : Call) → (k ≡ GCtrl → ⊥) → (k ≡ SCtrl → ⊥) → (k ≡ Queryctrl → ⊥) → is_about Controls (topic_of k) ≡ false
another_topic GCtrl n0 n1 n2 = absurd (n0 refl)
another_topic SCtrl n0 n1 n2 = absurd (n1 refl)
another_topic Queryctrl n0 n1 n2 = absurd (n2 refl)
another_topic _ n0 n1 n2 = refl

pub returns-in_default : goal.returns-in_default
returns-in_default c x =
    let a = c.args in
    let d = with_values x a.values.now in
    topic_other Controls a.call a.sheet.now d a.argument.now (another_topic a.call c.in_default.not-GCtrl c.in_default.not-SCtrl c.in_default.not-Queryctrl)
