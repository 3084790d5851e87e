-- The least of three, where there is a slot. Assumes nothing.
use mathlib.Core.Path.{sym}
use native.Mathlib.Omega.{arith}
use borrow.Author.Tests.{eq-eqb, ne_eqb}
use Rattle.stream_run.specs.Switches.{grant_of}
use Rattle.stream_run.proofs.switches.grant.Goals as goal

pub returns-then-slot-eq0 : goal.returns-then-slot-eq0
unfolding grant_of
returns-then-slot-eq0 c = simp (sym c.slot_size-slot.ensures, eq-eqb _ _ c.if-slot-eq0.true)

pub returns : goal.returns
unfolding grant_of
returns c =
    simp (sym c.slot_size-slot.ensures, ne_eqb _ _ c.if-slot-eq0.false) (omega (arith, c.min-2.ensures, c.min.ensures))
