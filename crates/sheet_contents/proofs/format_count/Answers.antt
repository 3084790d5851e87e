-- The word itself. Assumes nothing.
use Rattle.sheet_contents.specs.Contents.{format_count}
use Rattle.sheet_contents.proofs.format_count.Goals as goal

pub returns : goal.returns
unfolding format_count
returns c = c.word_at.ensures
