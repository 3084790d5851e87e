-- The place and the bits as the callees promise. Assumes nothing.
use Rattle.stream_words.specs.Words.{frame_in}
use Rattle.stream_frames.proofs.frame.Goals as goal

pub returns : goal.returns
unfolding frame_in
returns c =
    rw (c.low-4.ensures, c.low-3.ensures, c.time_of-time.ensures, c.low-2.ensures, c.low.ensures, c.place-p.ensures, c.index-index.ensures)
