-- The least multiple of a step that is not below the number. Assumes nothing.
use Prim.Native.Nat.{ℕ, zero, ◌+◌, ◌-◌, ◌*◌, ◌/◌, ◌%◌, ◌≤◌, ◌<◌}
use mathlib.Core.Path.{◌≡◌, sym}
use native.Mathlib.Omega.{arith}
use native.Mathlib.Nat.{mul-zero, mod-lt, div-add-mod', div-eq_of_lt-le}
use Rattle.format_rules.specs.Size.{round_up}
use Rattle.format_rules.proofs.layout.round_up.Goals as goal

-- the only multiple of s from x up to less than s above it
only_multiple : (x s m : ℕ) → 0 < s → x ≤ m → m < x + s → m % s ≡ 0 → m ≡ round_up x s
unfolding round_up
only_multiple x s m p l h e =
    let whole : m / s * s ≡ m = omega (arith, div-add-mod' m s, e) in
    let low : m / s * s ≤ x + (s - 1) = omega (arith, whole) in
    let high : x + (s - 1) < (m / s + 1) * s = omega (arith, whole) in
    let q : (x + (s - 1)) / s ≡ m / s = div-eq_of_lt-le s low high in
    rw q (sym whole)

pub returns-then-step-eq0 : goal.returns-then-step-eq0
unfolding round_up
returns-then-step-eq0 c = rw c.if-step-eq0.true (sym (mul-zero _))

pub next_multiple_of-requires : goal.next_multiple_of-requires
next_multiple_of-requires c =
    let s = c.args.step in
    let p : zero < s = omega (arith, c.if-step-eq0.false) in
    record { nonzero = p; fits = omega (arith, mod-lt (s - c.args.x % s) p) }

pub returns : goal.returns
returns c =
    let e = c.next_multiple_of.ensures in
    only_multiple c.args.x c.args.step _ (omega (arith, c.if-step-eq0.false)) e.lower_bound e.upper_bound e.multiple
