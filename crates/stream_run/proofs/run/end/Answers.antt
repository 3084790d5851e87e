-- Two stores where a run is on, none where it is not; the queues as `empty` promises. Assumes nothing.
use Rattle.stream_run.proofs.Ends.{idle_end, run_end}
use Rattle.stream_words.proofs.Record.{stream_set_2, streaming_is}
use Rattle.stream_words.specs.Moves.{emptied}
use Rattle.stream_words.specs.Words.{stream_in}
use Rattle.stream_words.specs.Stream.{Stream, on_queues}
use lib.ListN.{length}
use native.Mathlib.Omega.{arith}
use mathlib.Core.Path.{◌≡◌, sym, ◌∙◌, ap}
use borrow.Author.Rules.{rules}
use Rattle.stream_run.proofs.run.end.Goals as goal

pub returns-then-s-eq0 : goal.returns-then-s-eq0
returns-then-s-eq0 c =
    let w = c.args.s.now in
    c.empty.ensures ∙ idle_end (stream_in w) c.args.granted (streaming_is w ∙ c.if-s-eq0.true)

pub returns : goal.returns
returns c =
    let w = c.args.s.now in
    let n = c.outgoing_count-n in
    let long : length w ≡ 208 = search rules in
    c.empty-2.ensures
    ∙ ap (λ (x : Stream). on_queues (λ q. emptied c.args.granted) x) (stream_set_2 w 1 0 7 n.result long (omega arith) (omega arith))
    ∙ run_end (stream_in w) c.args.granted n.result (λ e. c.if-s-eq0.false (sym (streaming_is w) ∙ e)) n.ensures
