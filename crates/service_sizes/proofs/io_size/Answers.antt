-- The invariant: n counts the lines passed that carry something. Assumes nothing.
use mathlib.Core.Path.{◌≡◌, refl}
use mathlib.Core.Bool.{Bool, true, false, not, cond}
use Prim.Native.Nat.{◌≤◌}
use native.Mathlib.Omega.{arith}
use lib.Dec.{eqb}
use lib.ListN.{get_or}
use Rattle.std.specs.Int.{from_bool}
use Rattle.service_rules.specs.Negotiation.{count_below, io_size}
use Rattle.service_rules.proofs.Counts.{count_more}
use Rattle.service_sizes.proofs.io_size.Goals as goal

one : (b : Bool) → (from_bool b ≡ cond b 1 0) × (from_bool b ≤ 1)
one true = (refl, omega arith)
one false = (refl, omega arith)

pub loop-line-init : goal.loop-line-init
unfolding count_below
loop-line-init c = (omega arith, refl)

pub loop-line-preserved : goal.loop-line-preserved
loop-line-preserved c =
    let o = one (not (eqb (get_or c.args.lines.now c.loop-line.line-index 0) 0)) in
    (omega (arith, c.from-n.ensures, o.1), rw (count_more, c.from-n.ensures, o.0, c.loop-line.invariant.1))

pub returns : goal.returns
unfolding io_size
returns c = let e : c.loop-line.line-index ≡ 48 = omega arith in rw (c.loop-line.invariant.1, e)
