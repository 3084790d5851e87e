-- The place and the bits as the callees promise. Assumes nothing.
use Rattle.stream_words.specs.Words.{index_in}
use Rattle.stream_words.proofs.index.Goals as goal

pub returns : goal.returns
unfolding index_in
returns c = rw (c.low.ensures, c.place-p.ensures)
