-- A value is kept and shown, a button changes nothing, a refusal is handed on. Assumes nothing.
use mathlib.Core.Path.{ap, ◌∙◌}
use Rattle.std.specs.Prelude.{Ok}
use Rattle.ioctl_table.proofs.Raised.{raised}
use Rattle.control_calls.proofs.Cases.{set_stored, set_pressed, set_refused}
use Rattle.control_calls.proofs.s_ctrl.Goals as goal

pub returns-in_err-setting : goal.returns-in_err-setting
returns-in_err-setting c x =
    set_refused _ _ _ c.word_at-id.ensures c.word_at.ensures c.set.ensures _ c.in_err-setting.was (raised c.from_residual.result _ c.from_residual.ensures.1)

pub returns-in-Stored : goal.returns-in-Stored
returns-in-Stored c x =
    rw c.put_value.ensures
    (set_stored _ _ _ c.word_at-id.ensures c.word_at.ensures c.set.ensures c.in-Stored.k c.in-Stored.v (c.in_ok-setting.was ∙ ap Ok c.in-Stored.is) c.keep.ensures)

pub returns-in-Pressed : goal.returns-in-Pressed
returns-in-Pressed c x = set_pressed _ _ _ c.word_at-id.ensures c.word_at.ensures c.set.ensures (c.in_ok-setting.was ∙ ap Ok c.in-Pressed.is)
