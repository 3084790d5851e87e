-- By the buffer that has waited longest; the count after it by `stream_set`, the queues after it as `fill` promises. Assumes nothing.
use Rattle.stream_arrival.specs.Arrivals.{arrived_as, placed_of}
use Rattle.stream_arrival.specs.declared.Arrival.TheVariants.{Dropped}
use Rattle.stream_words.proofs.Record.{stream_set, dropped_is}
use Rattle.stream_words.specs.Stream.{Stream}
use Rattle.std.proofs.Common.{◌≡◌, length, sym, ap, ◌∙◌, arith, rules}
use Rattle.stream_arrival.proofs.decision.placed.Goals as goal

pub returns-in_default : goal.returns-in_default
unfolding placed_of
returns-in_default c =
    let w = c.args.s.now in
    let long : length w ≡ 208 = search rules in
    ap (λ (s : Stream). arrived_as Dropped s) (stream_set w 6 _ long (omega arith))
    ∙ simp (sym c.in_default.ensures, dropped_is)

pub returns : goal.returns
unfolding placed_of
returns c =
    simp (sym c.in-Some.ensures, c.fill.ensures)
