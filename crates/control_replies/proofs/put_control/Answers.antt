-- The bytes stored are the sheet's. Assumes nothing.
use Rattle.sheet_records.specs.Records.{control_record}
use Rattle.control_replies.specs.Replies.{control_reply}
use Rattle.control_replies.proofs.put_control.Goals as goal

pub returns : goal.returns
unfolding control_reply control_record
returns c = rw (c.put_part.ensures, c.control_at.ensures.0)
