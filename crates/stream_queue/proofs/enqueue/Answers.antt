-- The tests in the order of the definition, each as its callee promises. Assumes nothing.
use Rattle.stream_queue.specs.Queueing.{enqueue_of}
use Rattle.stream_words.proofs.Record.{granted_is}
use Rattle.std.proofs.Common.{sym, le-leb}
use borrow.Author.Tests.{lt-leb}
use Rattle.stream_queue.proofs.enqueue.Goals as goal

pub returns-then-s-k : goal.returns-then-s-k
unfolding enqueue_of
returns-then-s-k c = simp (granted_is, le-leb _ _ c.if-s-k.true)

pub returns-then-in_line : goal.returns-then-in_line
unfolding enqueue_of
returns-then-in_line c = simp (granted_is, lt-leb _ _ c.if-s-k.false, sym c.in_line.ensures, c.if-in_line.true)

pub returns : goal.returns
unfolding enqueue_of
returns c =
    simp (granted_is, lt-leb _ _ c.if-s-k.false, sym c.in_line.ensures, c.if-in_line.false, c.push.ensures)
