-- The tests in the order of the definition; the last case is what `accepted` promises of the stream with the arrival counted. Assumes nothing.
use Rattle.stream_arrival.proofs.Cases.{counted_words, arrival_accepted}
use Rattle.stream_arrival.specs.Arrivals.{arrival_of}
use Rattle.stream_words.specs.Words.{stream_in}
use Rattle.std.proofs.Common.{◌≡◌, length, refl, rules, eq-eqb, ne_eqb, le-leb}
use borrow.Author.Tests.{lt-leb}
use Rattle.stream_arrival.proofs.decision.decide.Goals as goal

pub returns-then-lent-s : goal.returns-then-lent-s
unfolding arrival_of stream_in
returns-then-lent-s c = simp (ne_eqb _ _ c.if-lent-s.true)

pub returns-then-s-eq0 : goal.returns-then-s-eq0
unfolding arrival_of stream_in
returns-then-s-eq0 c = simp (eq-eqb _ _ c.if-lent-s.false, eq-eqb _ _ c.if-s-eq0.true)

pub returns-then-count-ge-LIMIT : goal.returns-then-count-ge-LIMIT
unfolding arrival_of stream_in
returns-then-count-ge-LIMIT c =
    simp (eq-eqb _ _ c.if-lent-s.false, ne_eqb _ _ c.if-s-eq0.false, le-leb _ _ c.if-count-ge-LIMIT.true)

pub returns : goal.returns
unfolding stream_in
returns c =
    let a = c.args in
    let w = a.s.now in
    let long : length w ≡ 208 = search rules in
    arrival_accepted (stream_in w) a.lent a.n a.whole a.size a.time (eq-eqb _ _ c.if-lent-s.false) (ne_eqb _ _ c.if-s-eq0.false) (lt-leb _ _ c.if-count-ge-LIMIT.false)
    _ (counted_words w c.low-number.result _ long c.low-number.ensures refl)
    _ c.low-number.ensures _ c.accepted.ensures
