-- Stored over zeros. Assumes nothing.
use Rattle.sheet_copy.specs.Copy.{kept_of}
use Rattle.sheet_copy.proofs.kept.Goals as goal

pub returns : goal.returns
unfolding kept_of
returns c = cc
