-- The first control has none before it. Assumes nothing.
use mathlib.Core.Path.{ap₂}
use lib.Dec.{ltb}
use borrow.Author.Tests.{eq-eqb, ne_eqb}
use Rattle.sheet_rules.specs.Rules.{rising_at}
use Rattle.sheet_control_check.proofs.rising.Goals as goal

pub returns-then-k-eq0 : goal.returns-then-k-eq0
unfolding rising_at
returns-then-k-eq0 c = simp (eq-eqb _ _ c.if-k-eq0.true)

pub returns : goal.returns
unfolding rising_at
returns c = rw (ne_eqb c.args.k 0 c.if-k-eq0.false) (ap₂ ltb c.control_id.ensures c.control_id-2.ensures)
