-- A value is shown, a refusal handed on. Assumes nothing.
use Rattle.ioctl_table.proofs.Raised.{raised}
use Rattle.control_calls.proofs.Cases.{read_value, read_refused}
use Rattle.control_calls.proofs.g_ctrl.Goals as goal

pub returns-in_err-v : goal.returns-in_err-v
returns-in_err-v c x =
    read_refused _ _ _ c.word_at-id.ensures c.read.ensures _ c.in_err-v.was (raised c.from_residual.result _ c.from_residual.ensures.1)

pub returns : goal.returns
returns c x =
    rw c.put_value.ensures
    (read_value _ _ _ c.word_at-id.ensures c.read.ensures c.in_ok-v.v c.in_ok-v.was)
