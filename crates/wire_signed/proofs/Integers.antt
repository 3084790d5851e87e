-- Signed numbers of 32 bits: there and back, and their order, sums and differences by unsigned numbers, counted from -k.
-- Assumes nothing.
use Prim.Native.Nat.{ℕ, zero, suc, ◌+◌, ◌-◌, ◌≤◌, ◌<◌, ◌^◌}
use mathlib.Core.Path.{◌≡◌, refl, sym, ap, ◌∙◌}
use mathlib.Core.Bool.{Bool, true, false, cond, false≢true}
use native.Mathlib.Omega.{arith}
use borrow.Author.Tests.{ltb-true, ltb-false, le-ltb, lt-ltb, leb-true, le-leb, lt-leb}
use lib.Dec.{ltb, leb}
use lib.IntN.{ℤ, pos, negsuc, ◌+ℤ◌, ◌-ℤ◌, sub_ℕ}
use lib.Signed.{mag, le_z}
use mir.Syntax.{w32}
use mir.Val.{to_z, of_z}
use mir.Facts.{to_z-of_z, of_z-to_z, to_z-neg, to_z_pos, sfits_to_z}
use Rattle.wire_read.proofs.Tests.{same_leb}
use Rattle.wire_signed.specs.Signed.{signed, bits, above, distance}

-- ---- there and back

-- a number of 32 bits goes through its bits unchanged, as each use of an i32 does
pub again : (z : ℤ) → mag z < 2 ^ 31 → to_z w32 (of_z w32 z) ≡ z
again z h = to_z-of_z {w = w32} {z = z} (record { sfits = h })

pub signed_bits : (z : ℤ) → mag z < 2 ^ 31 → signed (bits z) ≡ z
unfolding signed bits
signed_bits z h = again z h

-- the same of bits that as_bits gave
pub bits_back : (z : ℤ) (r : ℕ) → mag z < 2 ^ 31 → r ≡ bits (to_z w32 (of_z w32 z)) → signed r ≡ z
bits_back z r h e = rw (e, again z h) (signed_bits z h)

pub bits_signed : (w : ℕ) → w < 2 ^ 32 → bits (signed w) ≡ w
unfolding signed bits
bits_signed w h = of_z-to_z {w = w32} {n = w} (record { fits = h })

-- what a word stands for is in the range of 32 signed bits
pub signed_fits : (w : ℕ) → w < 2 ^ 32 → mag (signed w) < 2 ^ 31
unfolding signed
signed_fits w h = (sfits_to_z {w = w32} {n = w} (record { fits = h })).sfits

-- the lower half of the words, and the upper half
pub signed_low : (w : ℕ) → w < 2 ^ 31 → signed w ≡ pos w
unfolding signed
signed_low w h = to_z_pos w32 h

pub signed_high : (w : ℕ) → 2 ^ 31 ≤ w → w < 2 ^ 32 → signed w ≡ negsuc (4294967295 - w)
unfolding signed
signed_high w h k =
    let e : w ≡ 2 ^ 32 - suc (4294967295 - w) = omega arith in
    ap (to_z w32) e ∙ to_z-neg w32 (4294967295 - w) (omega arith)

-- ---- counted from -k

-- how far a number lies under zero
abbrev pub under : ℤ → ℕ
under (pos n) = 0
under (negsuc n) = suc n

-- a number of 32 bits lies at most 2^31 under zero
pub under_fits : (z : ℤ) → mag z < 2 ^ 31 → under z ≤ 2147483648
under_fits (pos n) h = omega arith
under_fits (negsuc n) h = omega arith

pub word_under : (w : ℕ) → w < 2 ^ 32 → under (signed w) ≤ 2147483648
word_under w h = under_fits (signed w) (signed_fits w h)

-- the order of two numbers is that of their counts
pub above_order : (k : ℕ) (x y : ℤ) → under x ≤ k → under y ≤ k → le_z x y ≡ leb (above k x) (above k y)
unfolding above
above_order k (pos a) (pos b) h l = same_leb a b (k + a) (k + b) (λ e. omega arith) (λ e. omega arith)
above_order k (pos a) (negsuc b) h l = sym (lt-leb (k + a) (k - suc b) (omega arith))
above_order k (negsuc a) (pos b) h l = sym (le-leb (k - suc a) (k + b) (omega arith))
above_order k (negsuc a) (negsuc b) h l = same_leb b a (k - suc a) (k - suc b) (λ e. omega arith) (λ e. omega arith)

-- the count of a difference of two naturals
above_sub : (k a b : ℕ) → b ≤ k → (above k (sub_ℕ a b) ≡ k + a - b) × (under (sub_ℕ a b) ≤ b)
unfolding above
above_sub k a b h = by (ltb a b) refl
  where
    by : (t : Bool) → ltb a b ≡ t → (above k (cond t (negsuc (b - suc a)) (pos (a - b))) ≡ k + a - b) × (under (cond t (negsuc (b - suc a)) (pos (a - b))) ≤ b)
    by true e = let l = ltb-true a b e in (omega arith, omega arith)
    by false e = let l = ltb-false a b e in (omega arith, omega arith)

-- the count of a sum is the sum of the counts
pub above_sum : (j k : ℕ) (x y : ℤ) → under x ≤ j → under y ≤ k → (above (j + k) (x +ℤ y) ≡ above j x + above k y) × (under (x +ℤ y) ≤ j + k)
unfolding above
above_sum j k (pos a) (pos b) h l = (omega arith, omega arith)
above_sum j k (pos a) (negsuc b) h l = let e = above_sub (j + k) a (suc b) (omega arith) in (omega arith, omega arith)
above_sum j k (negsuc a) (pos b) h l = let e = above_sub (j + k) b (suc a) (omega arith) in (omega arith, omega arith)
above_sum j k (negsuc a) (negsuc b) h l = (omega arith, omega arith)

-- the order of two sums is that of the sums of their counts
pub sums_order : (k : ℕ) (x y u v : ℤ) → under x ≤ k → under y ≤ k → under u ≤ k → under v ≤ k
    → le_z (x +ℤ y) (u +ℤ v) ≡ leb (above k x + above k y) (above k u + above k v)
sums_order k x y u v hx hy hu hv =
    let e = above_sum k k x y hx hy in
    let f = above_sum k k u v hu hv in
    above_order (k + k) (x +ℤ y) (u +ℤ v) e.1 f.1 ∙ rw (e.0, f.0)

-- a difference of naturals, counted from 0
natural_sub : (a b : ℕ) → above 0 (sub_ℕ a b) ≡ a - b
unfolding above
natural_sub a b = by (ltb a b) refl
  where
    by : (t : Bool) → ltb a b ≡ t → above 0 (cond t (negsuc (b - suc a)) (pos (a - b))) ≡ a - b
    by true e = let l = ltb-true a b e in omega arith
    by false e = omega arith

-- a difference, counted from 0, is the difference of the counts
pub gap : (k : ℕ) (x y : ℤ) → under x ≤ k → under y ≤ k → above 0 (x -ℤ y) ≡ above k x - above k y
unfolding above
gap k (pos a) (pos zero) h l = omega arith
gap k (pos a) (pos (suc b)) h l = natural_sub a (suc b) ∙ omega arith
gap k (pos a) (negsuc b) h l = omega arith
gap k (negsuc a) (pos zero) h l = natural_sub 0 (suc a) ∙ omega arith
gap k (negsuc a) (pos (suc b)) h l = omega arith
gap k (negsuc a) (negsuc b) h l = natural_sub (suc b) (suc a) ∙ omega arith

-- a number itself, counted from 0
pub natural_count : (k : ℕ) (x : ℤ) → under x ≤ k → above 0 x ≡ above k x - k
unfolding above
natural_count k (pos n) h = omega arith
natural_count k (negsuc n) h = omega arith

-- a number not below another is that number and the difference
pub reach : (x y : ℤ) → le_z x y ≡ true → y ≡ x +ℤ pos (above 0 (y -ℤ x))
unfolding above
reach (pos a) (pos b) e =
    let g = gap 0 (pos b) (pos a) (omega arith) (omega arith) in
    let n : b ≡ a + above 0 (pos b -ℤ pos a) = omega (arith, leb-true a b e) in ap pos n
reach (pos a) (negsuc b) e = absurd (false≢true e)
reach (negsuc a) (pos b) e =
    let g = gap (suc a) (pos b) (negsuc a) (omega arith) (omega arith) in
    let n : above 0 (pos b -ℤ negsuc a) ≡ suc a + b = omega arith in
    rw (n, le-ltb (suc a + b) (suc a) (omega arith)) (ap pos (omega arith))
reach (negsuc a) (negsuc b) e =
    let g = gap (suc a) (negsuc b) (negsuc a) (omega (arith, leb-true b a e)) (omega arith) in
    let n : above 0 (negsuc b -ℤ negsuc a) ≡ a - b = omega (arith, leb-true b a e) in
    rw (n, lt-ltb (a - b) (suc a) (omega arith)) (ap negsuc (omega (arith, leb-true b a e)))

-- the distance of two numbers is that of their counts
pub distance_counts : (k : ℕ) (x y : ℤ) → under x ≤ k → under y ≤ k → distance x y ≡ (above k x - above k y) + (above k y - above k x)
unfolding distance
distance_counts k x y hx hy = rw (gap k x y hx hy, gap k y x hy hx)
