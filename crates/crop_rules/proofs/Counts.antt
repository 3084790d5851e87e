-- Signed numbers by their counts from -k, over the laws of wire: order as a fact of naturals, and back. Assumes nothing.
use Prim.Native.Nat.{ℕ, ◌+◌, ◌≤◌, ◌<◌}
use mathlib.Core.Path.{◌≡◌, refl, sym, ap, ◌∙◌}
use mathlib.Core.Bool.{Bool, true, false}
use native.Mathlib.Omega.{arith}
use borrow.Author.Tests.{leb-true, leb-false, le-leb, lt-leb}
use lib.Dec.{leb}
use lib.IntN.{ℤ, pos, negsuc, ◌+ℤ◌, ◌-ℤ◌, +ℤ_assoc, -ℤ-+ℤ_cancel}
use lib.Signed.{le_z}
use Rattle.wire_signed.specs.Signed.{above}
use Rattle.wire_signed.proofs.Integers.{under, above_order, sums_order}

module _ (k : ℕ) (x y : ℤ) (hx : under x ≤ k) (hy : under y ≤ k) where
  -- a test of order, from the numbers to the counts and back
  pub le_counts : le_z x y ≡ true → above k x ≤ above k y
  le_counts e = leb-true (above k x) (above k y) (sym (above_order k x y hx hy) ∙ e)

  pub gt_counts : le_z x y ≡ false → above k y < above k x
  gt_counts e = leb-false (above k x) (above k y) (sym (above_order k x y hx hy) ∙ e)

  pub counts_le : above k x ≤ above k y → le_z x y ≡ true
  counts_le h = above_order k x y hx hy ∙ le-leb (above k x) (above k y) h

pub le_same : (x : ℤ) → le_z x x ≡ true
le_same x = counts_le (under x) x x (omega arith) (omega arith) (omega arith)

-- of two numbers that one is above the other
pub le_turned : (x y : ℤ) → le_z x y ≡ false → le_z y x ≡ true
le_turned x y e =
    let k = under x + under y in
    let hx : under x ≤ k = omega arith in
    let hy : under y ≤ k = omega arith in
    counts_le k y x hy hx (omega (arith, gt_counts k x y hx hy e))

-- one up to another, and that up to a third
pub le_then : (x y z : ℤ) → le_z x y ≡ true → le_z y z ≡ true → le_z x z ≡ true
le_then x y z e f =
    let k = under x + under y + under z in
    let hx : under x ≤ k = omega arith in
    let hy : under y ≤ k = omega arith in
    let hz : under z ≤ k = omega arith in
    counts_le k x z hx hz (omega (arith, le_counts k x y hx hy e, le_counts k y z hy hz f))

-- numbers with one count are one
pub same_count : (k : ℕ) (x y : ℤ) → under x ≤ k → under y ≤ k → above k x ≡ above k y → x ≡ y
unfolding above
same_count k (pos a) (pos b) hx hy e = ap pos (omega arith)
same_count k (pos a) (negsuc b) hx hy e = absurd (omega arith)
same_count k (negsuc a) (pos b) hx hy e = absurd (omega arith)
same_count k (negsuc a) (negsuc b) hx hy e = ap negsuc (omega arith)

-- the same length added to both
moved : (a b n : ℕ) → leb a b ≡ leb (a + n) (b + n)
moved a b n = by (leb a b) refl
  where
    by : (t : Bool) → leb a b ≡ t → t ≡ leb (a + n) (b + n)
    by true e = sym (le-leb (a + n) (b + n) (omega (arith, leb-true a b e)))
    by false e = sym (lt-leb (a + n) (b + n) (omega (arith, leb-false a b e)))

pub le_moved : (x y n : ℤ) → le_z x y ≡ le_z (x +ℤ n) (y +ℤ n)
le_moved x y n =
    let k = under x + under y + under n in
    let hx : under x ≤ k = omega arith in
    let hy : under y ≤ k = omega arith in
    let hn : under n ≤ k = omega arith in
    above_order k x y hx hy ∙ moved (above k x) (above k y) (above k n) ∙ sym (sums_order k x n y n hx hn hy hn)

-- a place is at most start + (size - long) exactly if what is so long there ends at most at start + size
pub ends : (start size long at : ℤ) → le_z at (start +ℤ (size -ℤ long)) ≡ le_z (at +ℤ long) (start +ℤ size)
ends start size long at =
    le_moved at (start +ℤ (size -ℤ long)) long ∙ rw (+ℤ_assoc start (size -ℤ long) long, -ℤ-+ℤ_cancel size long)
