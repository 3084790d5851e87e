-- Signed numbers counted from -k: a number some steps up, the distance of two, and the way back from a word. Assumes nothing.
use Prim.Native.Nat.{ℕ, suc, ◌+◌, ◌-◌, ◌≤◌, ◌<◌, ◌^◌}
use mathlib.Core.Path.{◌≡◌, ap, ◌∙◌}
use mathlib.Core.Bool.{true, false≢true}
use native.Mathlib.Omega.{arith}
use native.Mathlib.Nat.{add-zero}
use borrow.Author.Tests.{leb-true, le-leb}
use lib.IntN.{ℤ, pos, negsuc, ◌+ℤ◌, ◌-ℤ◌, +ℤ_idr}
use lib.Signed.{le_z}
use Rattle.wire_signed.specs.Signed.{signed, above, distance}
use Rattle.wire_signed.proofs.Integers.{under, above_order, above_sum, gap, distance_counts, signed_low, signed_high}
use Rattle.grid_rules.specs.Grid.{apart}

-- the count of a number n further up
pub above_up : (k : ℕ) (z : ℤ) (n : ℕ) → under z ≤ k → (above k (z +ℤ pos n) ≡ above k z + n) × (under (z +ℤ pos n) ≤ k)
unfolding above
above_up k z n h =
    let e = rw (add-zero k) at (above_sum k 0 z (pos n) h (omega arith)) in
    (omega (arith, e.0), e.1)

-- two numbers up from one are in the order of how far up they are
pub up_order : (z : ℤ) (a b : ℕ) → a ≤ b → le_z (z +ℤ pos a) (z +ℤ pos b) ≡ true
up_order z a b h =
    let k = under z in
    let e = above_up k z a (omega arith) in
    let f = above_up k z b (omega arith) in
    above_order k (z +ℤ pos a) (z +ℤ pos b) e.1 f.1 ∙ le-leb (above k (z +ℤ pos a)) (above k (z +ℤ pos b)) (omega (arith, e.0, f.0))

-- a number is not above one that is further up
pub up_from : (z : ℤ) (n : ℕ) → le_z z (z +ℤ pos n) ≡ true
up_from z n = rw (+ℤ_idr z) at (up_order z 0 n (omega arith))

-- the difference from a number n further up
pub up_gap : (z : ℤ) (n : ℕ) → above 0 ((z +ℤ pos n) -ℤ z) ≡ n
up_gap z n =
    let e = above_up (under z) z n (omega arith) in
    gap (under z) (z +ℤ pos n) z e.1 (omega arith) ∙ omega (arith, e.0)

-- a step of 1 or more is not 0
pub stride : (z : ℤ) → le_z (pos 1) z ≡ true → 0 < above 0 z
unfolding above
stride (pos n) e = omega (arith, leb-true 1 n e)
stride (negsuc n) e = absurd (false≢true e)

-- the distance of two numbers is that of their counts
pub apart_counts : (k : ℕ) (x y : ℤ) → under x ≤ k → under y ≤ k → distance x y ≡ apart (above k x) (above k y)
unfolding apart
apart_counts k x y h l = distance_counts k x y h l

-- the distance of a number from one n further up than another, by the counts
pub apart_up : (k : ℕ) (x y : ℤ) (n : ℕ) → under x ≤ k → under y ≤ k → distance (x +ℤ pos n) y ≡ apart (above k x + n) (above k y)
apart_up k x y n h l = let e = above_up k x n h in apart_counts k (x +ℤ pos n) y e.1 l ∙ rw e.0

-- the distance of a number from one n further up
pub apart_from : (z : ℤ) (n : ℕ) → distance (z +ℤ pos n) z ≡ n
unfolding apart
apart_from z n = apart_up (under z) z z n (omega arith) (omega arith) ∙ omega arith

-- the count from -2^31, taken for a word and counted once more, is the word of the number
back : (z : ℤ) → under z ≤ 2147483648 → above 2147483648 z < 2 ^ 32 → signed (above 2147483648 (signed (above 2147483648 z))) ≡ z
unfolding above
back (pos n) u h =
    let e : 2147483648 - suc (4294967295 - (2147483648 + n)) ≡ n = omega arith in
    rw (signed_high (2147483648 + n) (omega arith) h, e) (signed_low n (omega arith))
back (negsuc n) u h =
    let e : 4294967295 - (2147483648 + (2147483648 - suc n)) ≡ n = omega arith in
    rw (signed_low (2147483648 - suc n) (omega arith)) (signed_high (2147483648 + (2147483648 - suc n)) (omega arith) (omega arith) ∙ ap negsuc e)

-- the same for a number n further up
pub back_up : (z : ℤ) (n : ℕ) → under z ≤ 2147483648 → above 2147483648 z + n < 2 ^ 32
    → signed (above 2147483648 (signed (above 2147483648 z + n))) ≡ z +ℤ pos n
back_up z n u h =
    let e = above_up 2147483648 z n u in
    rw (← e.0) (back (z +ℤ pos n) e.1 (omega (arith, e.0)))
