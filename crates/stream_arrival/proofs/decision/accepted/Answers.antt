-- The one test, which also says that the length fits 32 bits; the count after it by `stream_set`. Assumes nothing.
use Rattle.stream_arrival.specs.Arrivals.{arrived_as, accepted_of}
use Rattle.stream_arrival.specs.declared.Arrival.TheVariants.{Damaged}
use Rattle.stream_words.proofs.Record.{stream_set, damaged_is}
use Rattle.stream_words.specs.Stream.{Stream}
use Rattle.std.proofs.Common.{◌≡◌, length, ap, ◌∙◌, arith, rules}
use Rattle.stream_arrival.proofs.decision.accepted.Goals as goal

pub returns-then-whole-n : goal.returns-then-whole-n
unfolding accepted_of
returns-then-whole-n c = c.placed.ensures ∙ simp c.if-whole-n.true

pub returns : goal.returns
unfolding accepted_of
returns c =
    let w = c.args.s.now in
    let long : length w ≡ 208 = search rules in
    ap (λ (s : Stream). arrived_as Damaged s) (stream_set w 5 _ long (omega arith))
    ∙ simp (c.if-whole-n.false, damaged_is)
