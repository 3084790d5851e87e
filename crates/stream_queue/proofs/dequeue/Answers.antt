-- The tests in the order of the definition; the queues and the count as the callees promise. Assumes nothing.
use Rattle.stream_queue.proofs.Handed.{one_handed}
use Rattle.stream_queue.specs.Queueing.{dequeue_of}
use Rattle.stream_words.proofs.Record.{granted_is, streaming_is}
use Rattle.stream_words.specs.Words.{stream_in}
use Rattle.std.proofs.Common.{◌≡◌, length, refl, sym, ◌∙◌, Some, None, Err, rules, eq-eqb, ne_eqb}
use Rattle.ioctl_table.specs.declared.refusals.Refusal.TheVariants.{NothingOutgoing}
use Rattle.stream_queue.proofs.dequeue.Goals as goal

pub returns-then-s-eq0 : goal.returns-then-s-eq0
unfolding dequeue_of
returns-then-s-eq0 c = simp (granted_is, eq-eqb _ _ c.if-s-eq0.true)

pub returns-then-s-eq0-2 : goal.returns-then-s-eq0-2
unfolding dequeue_of
returns-then-s-eq0-2 c = simp (granted_is, streaming_is, ne_eqb _ _ c.if-s-eq0.false, eq-eqb _ _ c.if-s-eq0-2.true)

pub returns-in_err-f : goal.returns-in_err-f
unfolding dequeue_of
returns-in_err-f c =
    let none : c.oldest_outgoing.result ≡ None = rw c.in_err-f.was at c.ok_or.ensures.ok_part in
    let e : c.from_residual.result ≡ Err NothingOutgoing = search rules in
    rw e
    (simp (
      granted_is,
      streaming_is,
      ne_eqb _ _ c.if-s-eq0.false,
      ne_eqb _ _ c.if-s-eq0-2.false,
      sym c.oldest_outgoing.ensures ∙ none,
    ))

pub returns : goal.returns
unfolding dequeue_of
returns c =
    let w = c.args.s.now in
    let long : length c.pop.new.s ≡ 208 = search rules in
    let some : c.oldest_outgoing.result ≡ Some c.in_ok-f.f = rw c.in_ok-f.was at c.ok_or.ensures.ok_part in
    rw (one_handed c.pop.new.s (stream_in w) _ long c.pop.ensures refl)
    (simp (
      granted_is,
      streaming_is,
      ne_eqb _ _ c.if-s-eq0.false,
      ne_eqb _ _ c.if-s-eq0-2.false,
      sym c.oldest_outgoing.ensures ∙ some,
    ))
