-- The tests in the order of the definition. Assumes nothing.
use borrow.Author.Tests.{eq-eqb, ne_eqb}
use Rattle.stream_words.specs.Words.{stream_in}
use Rattle.stream_verdict.specs.Film.{verdict_of, verdict_after}
use Rattle.stream_verdict.proofs.film_verdict.Goals as goal

pub returns-then-s-ne0 : goal.returns-then-s-ne0
unfolding verdict_of stream_in
returns-then-s-ne0 c = simp (ne_eqb _ _ c.if-s-ne0.true)

pub returns-then-s-eq0 : goal.returns-then-s-eq0
unfolding verdict_of verdict_after stream_in
returns-then-s-eq0 c = simp (eq-eqb _ _ c.if-s-ne0.false, eq-eqb _ _ c.if-s-eq0.true)

pub returns-then-handed-eq0 : goal.returns-then-handed-eq0
unfolding verdict_of verdict_after stream_in
returns-then-handed-eq0 c =
    simp (eq-eqb _ _ c.if-s-ne0.false, ne_eqb _ _ c.if-s-eq0.false, eq-eqb _ _ c.if-handed-eq0.true)

pub returns-then-handed-s : goal.returns-then-handed-s
unfolding verdict_of verdict_after stream_in
returns-then-handed-s c =
    simp (eq-eqb _ _ c.if-s-ne0.false, ne_eqb _ _ c.if-s-eq0.false, ne_eqb _ _ c.if-handed-eq0.false, eq-eqb _ _ c.if-handed-s.true)

pub returns : goal.returns
unfolding verdict_of verdict_after stream_in
returns c =
    simp (eq-eqb _ _ c.if-s-ne0.false, ne_eqb _ _ c.if-s-eq0.false, ne_eqb _ _ c.if-handed-eq0.false, ne_eqb _ _ c.if-handed-s.false)
