-- The one test. Assumes nothing.
use Rattle.stream_status.specs.Buffer.{query_of}
use Rattle.stream_words.proofs.Record.{granted_is}
use borrow.Author.Tests.{le-leb, lt-leb}
use Rattle.stream_status.proofs.query.Goals as goal

pub returns-then-s-k : goal.returns-then-s-k
unfolding query_of
returns-then-s-k c = simp (granted_is, le-leb _ _ c.if-s-k.true)

pub returns : goal.returns
unfolding query_of
returns c = simp (granted_is, lt-leb _ _ c.if-s-k.false, c.of_buffer.ensures)
