-- One test after the other, as in the definition. Assumes nothing.
use borrow.Author.Tests.{eq-eqb, ne_eqb}
use Rattle.control_value_rules.specs.Values.{reading_at}
use Rattle.control_value_rules.proofs.reading_at.Goals as goal

pub returns-then-c-eq1 : goal.returns-then-c-eq1
unfolding reading_at
returns-then-c-eq1 c = rw (eq-eqb _ _ c.if-c-eq1.true)

pub returns-then-c-eq4 : goal.returns-then-c-eq4
unfolding reading_at
returns-then-c-eq4 c = rw (ne_eqb _ _ c.if-c-eq1.false, eq-eqb _ _ c.if-c-eq4.true)

pub returns : goal.returns
unfolding reading_at
returns c = rw (ne_eqb _ _ c.if-c-eq1.false, ne_eqb _ _ c.if-c-eq4.false)
