-- The value and the limits go through their bits unchanged. Assumes nothing.
use Prim.Native.Nat.{ℕ}
use mathlib.Core.Path.{ap}
use Rattle.std.specs.Prelude.{Ok}
use Rattle.wire_signed.proofs.Integers.{again}
use Rattle.control_value_rules.specs.declared.Setting.TheVariants.{Stored}
use Rattle.control_value_rules.specs.Values.{ranged_at}
use Rattle.control_value_rules.proofs.ranged.Goals as goal

pub returns-then-v-l : goal.returns-then-v-l
unfolding ranged_at
returns-then-v-l c =
    let r = c.as_signed-v in
    let l = c.args.l in
    let e = rw (again r.result r.type_inv, again l.minimum c.struct_told-1.given.0.1, r.ensures) at c.if-v-l.true in
    rw e

pub returns-then-l-v : goal.returns-then-l-v
unfolding ranged_at
returns-then-l-v c =
    let r = c.as_signed-v in
    let l = c.args.l in
    let e = rw (again r.result r.type_inv, again l.minimum c.struct_told-1.given.0.1, r.ensures) at c.if-v-l.false in
    let f = rw (again r.result r.type_inv, again l.maximum c.struct_told-2-1.given.1.0.1, r.ensures) at c.if-l-v.true in
    rw (e, f)

pub returns : goal.returns
unfolding ranged_at
returns c =
    let r = c.as_signed-v in
    let l = c.args.l in
    let n = c.nearest_value-nearest in
    let e = rw (again r.result r.type_inv, again l.minimum c.struct_told-1.given.0.1, r.ensures) at c.if-v-l.false in
    let f = rw (again r.result r.type_inv, again l.maximum c.struct_told-2-1.given.1.0.1, r.ensures) at c.if-l-v.false in
    let k = c.args.k in
    rw (e, f) (ap (λ (b : ℕ). Ok (Stored k b)) (rw (again n.result n.type_inv, n.ensures, again r.result r.type_inv, r.ensures) at c.as_bits.ensures))
