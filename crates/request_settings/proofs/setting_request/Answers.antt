-- Each arm as its call promises. Assumes nothing.
use mathlib.Core.Bool.{false}
use mathlib.Core.Path.{◌≡◌, refl, ap}
use Rattle.device_state.specs.Setup.{setup_in}
use Rattle.device_state.specs.State.{with_settings}
use Rattle.ioctl_table.specs.declared.table.Call.{Call}
use Rattle.ioctl_table.specs.declared.table.Call.TheVariants.{Querycap, EnumFmt, GFmt, SFmt, TryFmt, Cropcap, GCrop, SCrop, GSlicedVbiCap}
use Rattle.request_topics.specs.declared.About.TheVariants.{Settings}
use Rattle.request_topics.specs.Request.{by_services, topic_of, is_about}
use Rattle.request_topics.proofs.Cases.{arm_length, arm_called, topic_other}
use Rattle.request_settings.proofs.setting_request.Goals as goal

pub returns-in_err-of_length-in-Querycap : goal.returns-in_err-of_length-in-Querycap
returns-in_err-of_length-in-Querycap c x h k =
    let a = c.args in
    let d = with_settings x (setup_in a.setup.now) a.services.now in
    let e = c.in_err-of_length-in-Querycap.ensures in
    arm_length Settings Querycap a.sheet.now d a.argument.now c.in-Querycap.is refl refl e.of_length e.refused c.from_residual.result c.from_residual.ensures.1

pub returns-in_err-of_length-in-EnumFmt : goal.returns-in_err-of_length-in-EnumFmt
returns-in_err-of_length-in-EnumFmt c x h k =
    let a = c.args in
    let d = with_settings x (setup_in a.setup.now) a.services.now in
    let e = c.in_err-of_length-in-EnumFmt.ensures in
    arm_length Settings EnumFmt a.sheet.now d a.argument.now c.in-EnumFmt.is refl refl e.of_length e.refused c.from_residual-in_err-of_length-in-EnumFmt.result c.from_residual-in_err-of_length-in-EnumFmt.ensures.1

pub returns-in_err-of_length-in-GFmt : goal.returns-in_err-of_length-in-GFmt
returns-in_err-of_length-in-GFmt c x h k =
    let a = c.args in
    let d = with_settings x (setup_in a.setup.now) a.services.now in
    let e = c.in_err-of_length-in-GFmt.ensures in
    arm_length Settings GFmt a.sheet.now d a.argument.now c.in-GFmt.is refl refl e.of_length e.refused c.from_residual-in_err-of_length-in-GFmt.result c.from_residual-in_err-of_length-in-GFmt.ensures.1

pub returns-in_err-of_length-in-SFmt : goal.returns-in_err-of_length-in-SFmt
returns-in_err-of_length-in-SFmt c x h k =
    let a = c.args in
    let d = with_settings x (setup_in a.setup.now) a.services.now in
    let e = c.in_err-of_length-in-SFmt.ensures in
    arm_length Settings SFmt a.sheet.now d a.argument.now c.in-SFmt.is refl refl e.of_length e.refused c.from_residual-in_err-of_length-in-SFmt.result c.from_residual-in_err-of_length-in-SFmt.ensures.1

pub returns-in_err-of_length-in-TryFmt : goal.returns-in_err-of_length-in-TryFmt
returns-in_err-of_length-in-TryFmt c x h k =
    let a = c.args in
    let d = with_settings x (setup_in a.setup.now) a.services.now in
    let e = c.in_err-of_length-in-TryFmt.ensures in
    arm_length Settings TryFmt a.sheet.now d a.argument.now c.in-TryFmt.is refl refl e.of_length e.refused c.from_residual-in_err-of_length-in-TryFmt.result c.from_residual-in_err-of_length-in-TryFmt.ensures.1

pub returns-in_err-of_length-in-Cropcap : goal.returns-in_err-of_length-in-Cropcap
returns-in_err-of_length-in-Cropcap c x h k =
    let a = c.args in
    let d = with_settings x (setup_in a.setup.now) a.services.now in
    let e = c.in_err-of_length-in-Cropcap.ensures in
    arm_length Settings Cropcap a.sheet.now d a.argument.now c.in-Cropcap.is refl refl e.of_length e.refused c.from_residual-in_err-of_length-in-Cropcap.result c.from_residual-in_err-of_length-in-Cropcap.ensures.1

pub returns-in_err-of_length-in-GCrop : goal.returns-in_err-of_length-in-GCrop
returns-in_err-of_length-in-GCrop c x h k =
    let a = c.args in
    let d = with_settings x (setup_in a.setup.now) a.services.now in
    let e = c.in_err-of_length-in-GCrop.ensures in
    arm_length Settings GCrop a.sheet.now d a.argument.now c.in-GCrop.is refl refl e.of_length e.refused c.from_residual-in_err-of_length-in-GCrop.result c.from_residual-in_err-of_length-in-GCrop.ensures.1

pub returns-in_err-of_length-in-SCrop : goal.returns-in_err-of_length-in-SCrop
returns-in_err-of_length-in-SCrop c x h k =
    let a = c.args in
    let d = with_settings x (setup_in a.setup.now) a.services.now in
    let e = c.in_err-of_length-in-SCrop.ensures in
    arm_length Settings SCrop a.sheet.now d a.argument.now c.in-SCrop.is refl refl e.of_length e.refused c.from_residual-in_err-of_length-in-SCrop.result c.from_residual-in_err-of_length-in-SCrop.ensures.1

pub returns-in_err-of_length-in-GSlicedVbiCap : goal.returns-in_err-of_length-in-GSlicedVbiCap
returns-in_err-of_length-in-GSlicedVbiCap c x h k =
    let a = c.args in
    let d = with_settings x (setup_in a.setup.now) a.services.now in
    let e = c.in_err-of_length-in-GSlicedVbiCap.ensures in
    arm_length Settings GSlicedVbiCap a.sheet.now d a.argument.now c.in-GSlicedVbiCap.is refl refl e.of_length e.refused c.from_residual-in_err-of_length-in-GSlicedVbiCap.result c.from_residual-in_err-of_length-in-GSlicedVbiCap.ensures.1

pub returns-in_ok-of_length-in-Querycap : goal.returns-in_ok-of_length-in-Querycap
returns-in_ok-of_length-in-Querycap c x h k =
    let a = c.args in
    let d = with_settings x (setup_in a.setup.now) a.services.now in
    arm_called Settings Querycap a.sheet.now d a.argument.now c.in-Querycap.is refl refl c.in_ok-of_length-in-Querycap.ensures.of_length.0 (c.querycap.ensures d)

pub returns-in_ok-of_length-in-EnumFmt : goal.returns-in_ok-of_length-in-EnumFmt
returns-in_ok-of_length-in-EnumFmt c x h k =
    let a = c.args in
    let d = with_settings x (setup_in a.setup.now) a.services.now in
    arm_called Settings EnumFmt a.sheet.now d a.argument.now c.in-EnumFmt.is refl refl c.in_ok-of_length-in-EnumFmt.ensures.of_length.0 (c.enum_fmt.ensures d)

pub returns-in_ok-of_length-in-GFmt : goal.returns-in_ok-of_length-in-GFmt
returns-in_ok-of_length-in-GFmt c x h k =
    let a = c.args in
    let d = with_settings x (setup_in a.setup.now) a.services.now in
    arm_called Settings GFmt a.sheet.now d a.argument.now c.in-GFmt.is refl refl c.in_ok-of_length-in-GFmt.ensures.of_length.0 (c.g_fmt.ensures a.sheet.now x)

pub returns-in_ok-of_length-in-SFmt : goal.returns-in_ok-of_length-in-SFmt
returns-in_ok-of_length-in-SFmt c x h k =
    let a = c.args in
    let d = with_settings x (setup_in a.setup.now) a.services.now in
    arm_called Settings SFmt a.sheet.now d a.argument.now c.in-SFmt.is refl refl c.in_ok-of_length-in-SFmt.ensures.of_length.0 (c.s_fmt.ensures x h k)

pub returns-in_ok-of_length-in-TryFmt : goal.returns-in_ok-of_length-in-TryFmt
returns-in_ok-of_length-in-TryFmt c x h k =
    let a = c.args in
    let d = with_settings x (setup_in a.setup.now) a.services.now in
    arm_called Settings TryFmt a.sheet.now d a.argument.now c.in-TryFmt.is refl refl c.in_ok-of_length-in-TryFmt.ensures.of_length.0 (c.try_fmt.ensures d)

pub returns-in_ok-of_length-in-Cropcap : goal.returns-in_ok-of_length-in-Cropcap
returns-in_ok-of_length-in-Cropcap c x h k =
    let a = c.args in
    let d = with_settings x (setup_in a.setup.now) a.services.now in
    arm_called Settings Cropcap a.sheet.now d a.argument.now c.in-Cropcap.is refl refl c.in_ok-of_length-in-Cropcap.ensures.of_length.0 (c.cropcap.ensures d)

pub returns-in_ok-of_length-in-GCrop : goal.returns-in_ok-of_length-in-GCrop
returns-in_ok-of_length-in-GCrop c x h k =
    let a = c.args in
    let d = with_settings x (setup_in a.setup.now) a.services.now in
    arm_called Settings GCrop a.sheet.now d a.argument.now c.in-GCrop.is refl refl c.in_ok-of_length-in-GCrop.ensures.of_length.0 (c.g_crop.ensures d)

pub returns-in_ok-of_length-in-SCrop : goal.returns-in_ok-of_length-in-SCrop
returns-in_ok-of_length-in-SCrop c x h k =
    let a = c.args in
    let d = with_settings x (setup_in a.setup.now) a.services.now in
    arm_called Settings SCrop a.sheet.now d a.argument.now c.in-SCrop.is refl refl c.in_ok-of_length-in-SCrop.ensures.of_length.0 (c.s_crop.ensures d)

pub returns-in_ok-of_length-in-GSlicedVbiCap : goal.returns-in_ok-of_length-in-GSlicedVbiCap
returns-in_ok-of_length-in-GSlicedVbiCap c x h k =
    let a = c.args in
    let d = with_settings x (setup_in a.setup.now) a.services.now in
    arm_called Settings GSlicedVbiCap a.sheet.now d a.argument.now c.in-GSlicedVbiCap.is refl refl c.in_ok-of_length-in-GSlicedVbiCap.ensures.of_length.0
    (ap (by_services d) (c.g_sliced_vbi_cap.ensures a.services.now))

-- a call that is none of these is about another topic
another_topic : (k : Call) → (k ≡ Querycap → ⊥) → (k ≡ EnumFmt → ⊥) → (k ≡ GFmt → ⊥) → (k ≡ SFmt → ⊥) → (k ≡ TryFmt → ⊥) → (k ≡ Cropcap → ⊥) → (k ≡ GCrop → ⊥) → (k ≡ SCrop → ⊥) → (k ≡ GSlicedVbiCap → ⊥) → is_about Settings (topic_of k) ≡ false
another_topic Querycap n0 n1 n2 n3 n4 n5 n6 n7 n8 = absurd (n0 refl)
another_topic EnumFmt n0 n1 n2 n3 n4 n5 n6 n7 n8 = absurd (n1 refl)
another_topic GFmt n0 n1 n2 n3 n4 n5 n6 n7 n8 = absurd (n2 refl)
another_topic SFmt n0 n1 n2 n3 n4 n5 n6 n7 n8 = absurd (n3 refl)
another_topic TryFmt n0 n1 n2 n3 n4 n5 n6 n7 n8 = absurd (n4 refl)
another_topic Cropcap n0 n1 n2 n3 n4 n5 n6 n7 n8 = absurd (n5 refl)
another_topic GCrop n0 n1 n2 n3 n4 n5 n6 n7 n8 = absurd (n6 refl)
another_topic SCrop n0 n1 n2 n3 n4 n5 n6 n7 n8 = absurd (n7 refl)
another_topic GSlicedVbiCap n0 n1 n2 n3 n4 n5 n6 n7 n8 = absurd (n8 refl)
another_topic _ n0 n1 n2 n3 n4 n5 n6 n7 n8 = refl

pub returns-in_default : goal.returns-in_default
returns-in_default c x h k =
    let a = c.args in
    let d = with_settings x (setup_in a.setup.now) a.services.now in
    topic_other Settings a.call a.sheet.now d a.argument.now (another_topic a.call c.in_default.not-Querycap c.in_default.not-EnumFmt c.in_default.not-GFmt c.in_default.not-SFmt c.in_default.not-TryFmt c.in_default.not-Cropcap c.in_default.not-GCrop c.in_default.not-SCrop c.in_default.not-GSlicedVbiCap)
