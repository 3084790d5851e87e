-- None of the controls passed is the one. Assumes nothing.
use Prim.Native.Nat.{ℕ}
use native.Mathlib.Omega.{arith}
use borrow.Author.Tests.{lt-ltb, le-ltb}
use lib.Dec.{ltb}
use Rattle.std.proofs.Common.{below_more}
use Rattle.std.specs.Prelude.{Some, None}
use Rattle.sheet_records.specs.Records.{control_id}
use Rattle.control_place_rules.specs.Find.{found_place, place_above}
use Rattle.control_place_rules.proofs.Search.{found_first}
use Rattle.control_place_rules.proofs.place_above.Goals as goal

pub loop-k-init : goal.loop-k-init
loop-k-init c j h = absurd (omega arith)

pub returns-then-id-control_id : goal.returns-then-id-control_id
unfolding found_place place_above
returns-then-id-control_id c =
    let s = c.args.s.now in
    let id = c.args.id in
    rw (← c.count-k-end.ensures) (found_first (λ (k : ℕ). ltb id (control_id s k)) c.count-k-end.result (Some c.loop-k.k) (omega arith, lt-ltb _ _ (rw c.control_id.ensures at c.if-id-control_id.true), c.loop-k.invariant))

pub loop-k-preserved : goal.loop-k-preserved
loop-k-preserved c = below_more _ _ c.loop-k.invariant (le-ltb _ _ (rw c.control_id.ensures at c.if-id-control_id.false))

pub returns : goal.returns
unfolding found_place place_above
returns c =
    let s = c.args.s.now in
    let id = c.args.id in
    rw (← c.count-k-end.ensures) (found_first (λ (k : ℕ). ltb id (control_id s k)) c.count-k-end.result None (λ j h. c.loop-k.invariant j (omega arith)))
