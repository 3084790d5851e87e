-- The tests in the order of the definition. Assumes nothing.
use Rattle.stream_run.specs.Switches.{start_of}
use Rattle.stream_words.specs.Words.{stream_in, queues_in}
use borrow.Author.Tests.{eq-eqb, ne_eqb}
use Rattle.stream_run.proofs.switches.start.Goals as goal

pub returns-then-s-eq0 : goal.returns-then-s-eq0
unfolding start_of stream_in queues_in
returns-then-s-eq0 c = simp (eq-eqb _ _ c.if-s-eq0.true)

pub returns-then-s-ne0 : goal.returns-then-s-ne0
unfolding start_of stream_in queues_in
returns-then-s-ne0 c = simp (ne_eqb _ _ c.if-s-eq0.false, ne_eqb _ _ c.if-s-ne0.true)

pub returns : goal.returns
unfolding start_of stream_in queues_in
returns c = simp (ne_eqb _ _ c.if-s-eq0.false, eq-eqb _ _ c.if-s-ne0.false, c.begin.ensures)
