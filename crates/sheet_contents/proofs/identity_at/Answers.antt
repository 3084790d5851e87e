-- The word itself. Assumes nothing.
use Rattle.sheet_contents.specs.Contents.{identity_at}
use Rattle.sheet_contents.proofs.identity_at.Goals as goal

pub returns : goal.returns
unfolding identity_at
returns c = c.word_at.ensures
