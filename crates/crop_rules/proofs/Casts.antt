-- Signed numbers of 32 bits in 64: there and back, and the range of their sums. Assumes nothing.
use Prim.Native.Nat.{ℕ, zero, suc, ◌+◌, ◌-◌, ◌≤◌, ◌<◌, ◌^◌}
use mathlib.Core.Path.{◌≡◌}
use mathlib.Core.Bool.{Bool, true, false, cond, false≢true}
use native.Mathlib.Omega.{arith}
use borrow.Author.Tests.{leb-true}
use lib.Dec.{ltb}
use lib.IntN.{ℤ, pos, negsuc, neg_ℤ, ◌+ℤ◌, ◌-ℤ◌}
use lib.Signed.{mag, le_z}
use mir.Syntax.{w32, w64}
use mir.Val.{SFits, to_z, of_z}
use mir.Facts.{sfits_widen, to_z-of_z}
use Rattle.wire_signed.specs.Signed.{above, distance}
use Rattle.wire_signed.proofs.Integers.{under_fits, distance_counts}

-- what 32 bits hold, 64 hold
pub widen : {z : ℤ} → SFits w32 z → SFits w64 z
widen h = sfits_widen tt h

-- an i32 cast to an i64
pub back : {z : ℤ} → SFits w32 z → to_z w64 (of_z w64 (to_z w32 (of_z w32 z))) ≡ z
back h = rw (to_z-of_z h) (to_z-of_z (widen h))

-- a number between two that 32 bits hold
pub between : (low z high : ℤ) → le_z low z ≡ true → le_z z high ≡ true → SFits w32 low → SFits w32 high → SFits w32 z
between low (pos n) (pos m) e f l h = record { sfits = omega (arith, leb-true n m f, h.sfits) }
between low (pos n) (negsuc m) e f l h = absurd (false≢true f)
between (pos k) (negsuc n) high e f l h = absurd (false≢true e)
between (negsuc k) (negsuc n) high e f l h = record { sfits = omega (arith, leb-true n k e, l.sfits) }

-- the magnitude of a sum and of a number negated
mag_sub : (t : Bool) (a b : ℕ) → mag (cond t (negsuc (b - suc a)) (pos (a - b))) ≤ a + b
mag_sub true a b = omega arith
mag_sub false a b = omega arith

mag_add : (x y : ℤ) → mag (x +ℤ y) ≤ mag x + mag y + 1
mag_add (pos a) (pos b) = omega arith
mag_add (pos a) (negsuc b) = omega (arith, mag_sub (ltb a (suc b)) a (suc b))
mag_add (negsuc a) (pos b) = omega (arith, mag_sub (ltb b (suc a)) b (suc a))
mag_add (negsuc a) (negsuc b) = omega arith

mag_neg : (x : ℤ) → mag (neg_ℤ x) ≤ mag x + 1
mag_neg (pos zero) = omega arith
mag_neg (pos (suc n)) = omega arith
mag_neg (negsuc n) = omega arith

-- 64 bits hold a difference of such numbers, and the sum of one and a difference
pub sub_fits : {x y : ℤ} → SFits w32 x → SFits w32 y → SFits w64 (x -ℤ y)
sub_fits {x} {y} hx hy = record { sfits = omega (arith, mag_add x (neg_ℤ y), mag_neg y, hx.sfits, hy.sfits) }

pub add_sub_fits : {x y z : ℤ} → SFits w32 x → SFits w32 y → SFits w32 z → SFits w64 (x +ℤ (y -ℤ z))
add_sub_fits {x} {y} {z} hx hy hz =
    record { sfits = omega (arith, mag_add x (y -ℤ z), mag_add y (neg_ℤ z), mag_neg z, hx.sfits, hy.sfits, hz.sfits) }

-- 32 bits hold how far apart two such numbers are
count_fits : (z : ℤ) → SFits w32 z → above 2147483648 z < 2 ^ 32
unfolding above
count_fits (pos n) h = omega (arith, h.sfits)
count_fits (negsuc n) h = omega arith

pub distance_fits : {x y : ℤ} → SFits w32 x → SFits w32 y → distance x y < 2 ^ 32
distance_fits {x} {y} hx hy =
    omega (arith, distance_counts 2147483648 x y (under_fits x hx.sfits) (under_fits y hy.sfits), count_fits x hx, count_fits y hy)

-- what closes a cast to 64 bits and a difference there
pub ruleset casts = (to_z-of_z, widen, sub_fits)
