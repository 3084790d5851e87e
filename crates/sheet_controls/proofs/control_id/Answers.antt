-- The word at the control's place. Assumes nothing.
use mathlib.Core.Path.{ap, ◌∙◌}
use Rattle.wire_read.specs.Words.{word_at}
use Rattle.sheet_records.specs.Records.{control_id}
use Rattle.sheet_controls.proofs.control_id.Goals as goal

pub returns : goal.returns
unfolding control_id
returns c = c.word_at.ensures ∙ ap (word_at _) c.control_at.ensures.0
