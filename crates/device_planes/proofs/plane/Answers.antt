-- The one test; the planes of the present format as their function gives them. Assumes nothing.
use mathlib.Core.Path.{refl, sym, ap}
use lib.ListN.{length}
use Rattle.format_rules.specs.declared.Format.{Format}
use Rattle.plane_rules.specs.Planes.{plane_of}
use Rattle.device_state.specs.Setup.{setup_in}
use Rattle.device_state.specs.State.{with_setup}
use Rattle.device_planes.proofs.Cases.{plane_closed, plane_open}
use Rattle.device_planes.proofs.plane.Goals as goal

pub returns-then-setup-eq0-clause-refusal : goal.returns-then-setup-eq0-clause-refusal
unfolding setup_in
returns-then-setup-eq0-clause-refusal c x = sym (plane_closed (with_setup x (setup_in c.args.setup.now)) c.if-setup-eq0.true _ _ _ refl)

pub returns-clause-part : goal.returns-clause-part
unfolding setup_in
returns-clause-part c x =
    let a = c.args in
    let d = with_setup x (setup_in a.setup.now) in
    let same = ap (λ (f : Format). plane_of f c.line_alignment.result (length a.frame.now) a.k) c.format_in-f.ensures in
    let q = plane_open d c.if-setup-eq0.false a.sheet.now (length a.frame.now) a.k c.line_alignment.ensures same in
    rw (← q) c.plane.ensures.part

pub returns-clause-refusal : goal.returns-clause-refusal
unfolding setup_in
returns-clause-refusal c x =
    let a = c.args in
    let d = with_setup x (setup_in a.setup.now) in
    let same = ap (λ (f : Format). plane_of f c.line_alignment.result (length a.frame.now) a.k) c.format_in-f.ensures in
    let q = plane_open d c.if-setup-eq0.false a.sheet.now (length a.frame.now) a.k c.line_alignment.ensures same in
    rw (← q) c.plane.ensures.refusal
