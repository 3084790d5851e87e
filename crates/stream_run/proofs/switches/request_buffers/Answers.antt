-- The tests in the order of the definition, then the grant and the stop. Assumes nothing.
use mathlib.Core.Path.{sym, ◌∙◌}
use Rattle.stream_run.specs.Switches.{request_buffers_of}
use Rattle.stream_words.proofs.Record.{length_is, streaming_is}
use Rattle.stream_run.proofs.switches.request_buffers.Goals as goal

pub returns-then-any_mapped : goal.returns-then-any_mapped
unfolding request_buffers_of
returns-then-any_mapped c = simp (sym c.any_mapped.ensures ∙ c.if-any_mapped.true)

pub returns-then-s-count : goal.returns-then-s-count
unfolding request_buffers_of
returns-then-s-count c = simp (sym c.any_mapped.ensures ∙ c.if-any_mapped.false, streaming_is, c.if-s-count.true)

pub returns : goal.returns
unfolding request_buffers_of
returns c =
    simp (sym c.any_mapped.ensures ∙ c.if-any_mapped.false, length_is, streaming_is, c.if-s-count.false, c.end.ensures, c.grant-n.ensures)
