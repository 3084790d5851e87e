-- The word itself. Assumes nothing.
use Rattle.sheet_contents.specs.Contents.{control_count}
use Rattle.sheet_contents.proofs.control_count.Goals as goal

pub returns : goal.returns
unfolding control_count
returns c = c.word_at.ensures
