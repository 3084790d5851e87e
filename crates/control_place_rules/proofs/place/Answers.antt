-- None of the controls passed is the one. Assumes nothing.
use Prim.Native.Nat.{ℕ}
use mathlib.Core.Path.{sym, ◌∙◌}
use native.Mathlib.Omega.{arith}
use borrow.Author.Tests.{eq-eqb, ne_eqb}
use lib.Dec.{eqb}
use Rattle.std.proofs.Common.{below_more}
use Rattle.std.specs.Prelude.{Some, None}
use Rattle.sheet_records.specs.Records.{control_id}
use Rattle.control_place_rules.specs.Find.{found_place, place_of}
use Rattle.control_place_rules.proofs.Search.{found_first}
use Rattle.control_place_rules.proofs.place.Goals as goal

pub loop-k-init : goal.loop-k-init
loop-k-init c j h = absurd (omega arith)

pub returns-then-control_id-id : goal.returns-then-control_id-id
unfolding found_place place_of
returns-then-control_id-id c =
    let s = c.args.s.now in
    let id = c.args.id in
    rw (← c.count-k-end.ensures) (found_first (λ (k : ℕ). eqb (control_id s k) id) c.count-k-end.result (Some c.loop-k.k) (omega arith, eq-eqb _ _ (sym c.control_id.ensures ∙ c.if-control_id-id.true), c.loop-k.invariant))

pub loop-k-preserved : goal.loop-k-preserved
loop-k-preserved c = below_more _ _ c.loop-k.invariant (ne_eqb _ _ (λ q. c.if-control_id-id.false (c.control_id.ensures ∙ q)))

pub returns : goal.returns
unfolding found_place place_of
returns c =
    let s = c.args.s.now in
    let id = c.args.id in
    rw (← c.count-k-end.ensures) (found_first (λ (k : ℕ). eqb (control_id s k) id) c.count-k-end.result None (λ j h. c.loop-k.invariant j (omega arith)))
