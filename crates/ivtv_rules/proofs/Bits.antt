-- The set bits of a mask, from the lowest up. Assumes nothing.
use mathlib.Core.Path.{◌≡◌, refl, sym, ap, ap₂, ◌∙◌}
use mathlib.Core.Bool.{Bool, true, false, cond, false≢true}
use mathlib.Core.List.{List, [], ◌++◌, append-nil}
use Prim.Native.Nat.{ℕ, zero, suc, ◌+◌, ◌-◌, ◌/◌, ◌%◌, ◌^◌, ◌≤◌, ◌<◌}
use native.Mathlib.Nat.{zero-div, div-one, div-eq_of_lt, mod-eq_of_lt, mod-lt, add-zero, add_comm}
use native.Mathlib.Numerals.{one-add}
use native.Mathlib.Omega.{arith}
use borrow.Author.Tests.{eqb-true, eqb-false, ltb-true, ltb-false}
use lib.Count.{count_trailing_zeros, ones, ones_in, under, ones_cat}
use lib.Dec.{eqb, ltb}
use lib.Pow.{shr-shr, shr_lt, shr_le, pow_pos, split}
use Rattle.service_rules.specs.Services.{has}
use Rattle.service_rules.specs.Negotiation.{count_below}
use Rattle.service_rules.proofs.Counts.{count_same}
use Rattle.ivtv_rules.specs.Block.{joined, mask_below}
use Rattle.ivtv_rules.specs.Reading.{bit_on, count_in}
use Rattle.ivtv_rules.proofs.Masks.{low_bit, mask_same}

-- a bit counts for as much as it is
pub bit_counts : (m k : ℕ) → m / 2 ^ k % 2 ≡ cond (bit_on m k) 1 0
unfolding has
bit_counts m k = by (m / 2 ^ k % 2) (omega arith) (eqb (m / 2 ^ k % 2) 1) refl
  where
    by : (x : ℕ) → x < 2 → (t : Bool) → eqb x 1 ≡ t → x ≡ cond t 1 0
    by x h true e = eqb-true x 1 e
    by x h false e = omega (arith, eqb-false x 1 e)

-- what is left of a number without its k lowest bits has the bits above them
pub bit_shifted : (m k i : ℕ) → bit_on (m / 2 ^ k) i ≡ bit_on m (k + i)
unfolding has
bit_shifted m k i = rw (shr-shr m k i)

-- the low bits of a number are its own
pub bit_low : (m n k : ℕ) → k < n → bit_on (m % 2 ^ n) k ≡ bit_on m k
unfolding has
bit_low m n k h = rw (low_bit m k n h)

-- where nothing is left, no bit is set from there on
pub none_left : (m k i : ℕ) → m / 2 ^ k ≡ 0 → k ≤ i → bit_on m i ≡ false
unfolding has
none_left m k i e h =
    let q : k + (i - k) ≡ i = omega arith in
    rw (← q, ← shr-shr m k (i - k), e, zero-div (2 ^ (i - k)))

-- a set bit of a number below 2 ^ n is one of the n lowest
pub bit_below : (m n i : ℕ) → m < 2 ^ n → bit_on m i ≡ true → i < n
bit_below m n i h e = by (ltb i n) refl
  where
    by : (t : Bool) → ltb i n ≡ t → i < n
    by true t = ltb-true i n t
    by false t = absurd (false≢true (sym (none_left m n i (div-eq_of_lt h) (ltb-false i n t)) ∙ e))

-- the zeros below the lowest set bit, without the lowest of them
abbrev rest : ℕ → ℕ → ℕ
rest d n = count_trailing_zeros d (n / 2)

-- the lowest set bit
pub lowest : (d n : ℕ) → 0 < n → n < 2 ^ d → (bit_on n (count_trailing_zeros d n) ≡ true) × ((i : ℕ) → i < count_trailing_zeros d n → bit_on n i ≡ false)
unfolding count_trailing_zeros has
lowest zero n h l = absurd (omega arith)
lowest (suc d) n h l = by (n % 2) refl (omega arith) (lowest d (n / 2))
  where
    each : n % 2 ≡ 0 → ((i : ℕ) → i < rest d n → eqb (n / 2 / 2 ^ i % 2) 1 ≡ false) → (i : ℕ) → i < suc (rest d n) → eqb (n / 2 ^ i % 2) 1 ≡ false
    each e f zero g = rw (div-one n, e)
    each e f (suc i) g = rw (← one-add i, ← shr-shr n 1 i) (f i (omega arith))

    by : (x : ℕ) → n % 2 ≡ x → x < 2 → (0 < n / 2 → n / 2 < 2 ^ d → (eqb (n / 2 / 2 ^ rest d n % 2) 1 ≡ true) × ((i : ℕ) → i < rest d n → eqb (n / 2 / 2 ^ i % 2) 1 ≡ false))
        → (eqb (n / 2 ^ under x (rest d n) % 2) 1 ≡ true) × ((i : ℕ) → i < under x (rest d n) → eqb (n / 2 ^ i % 2) 1 ≡ false)
    by zero e b f =
        let q : n < 2 ^ (d + 1) = let z : d + 1 ≡ suc d = omega arith in rw z l in
        let r = f (omega arith) (shr_lt d 1 q) in
        (rw (← one-add (rest d n), ← shr-shr n 1 (rest d n)) r.0, each e r.1)
    by (suc zero) e b f = (rw (div-one n, e), λ i g. absurd (omega arith))
    by (suc (suc x)) e b f = absurd (omega arith)

-- ---- numbers that are passed over

pub count_skip : (p : ℕ → Bool) (k n : ℕ) → k ≤ n → ((i : ℕ) → k ≤ i → i < n → p i ≡ false) → count_below n p ≡ count_below k p
unfolding count_below
count_skip p k zero h f = let e : k ≡ 0 = omega arith in rw e
count_skip p k (suc n) h f = by (ltb n k) refl (count_skip p k n)
  where
    by : (t : Bool) → ltb n k ≡ t → (k ≤ n → ((i : ℕ) → k ≤ i → i < n → p i ≡ false) → count_below n p ≡ count_below k p) → count_below n p + cond (p n) 1 0 ≡ count_below k p
    by true e g = let q : k ≡ suc n = omega (arith, ltb-true n k e) in rw q
    by false e g =
        let l : k ≤ n = ltb-false n k e in
        rw (f n l (omega arith), add-zero (count_below n p)) (g l (λ i a b. f i a (omega arith)))

pub joined_skip : (f : ℕ → List ℕ) (k n : ℕ) → k ≤ n → ((i : ℕ) → k ≤ i → i < n → f i ≡ []) → joined f n ≡ joined f k
unfolding joined
joined_skip f k zero h e = let q : k ≡ 0 = omega arith in rw q
joined_skip f k (suc n) h e = by (ltb n k) refl (joined_skip f k n)
  where
    by : (t : Bool) → ltb n k ≡ t → (k ≤ n → ((i : ℕ) → k ≤ i → i < n → f i ≡ []) → joined f n ≡ joined f k) → joined f n ++ f n ≡ joined f k
    by true t g = let q : k ≡ suc n = omega (arith, ltb-true n k t) in rw q
    by false t g =
        let l : k ≤ n = ltb-false n k t in
        rw (e n l (omega arith), append-nil (joined f n)) (g l (λ i a b. e i a (omega arith)))

-- ---- the next set bit of a mask of 36 bits: r is what is left of it without the k bits that were passed

module _ (m k r : ℕ) (fits : m < 2 ^ 36) (e : r ≡ m / 2 ^ k) (some : r ≡ 0 → ⊥) where
  found : (bit_on r (count_trailing_zeros 64 r) ≡ true) × ((i : ℕ) → i < count_trailing_zeros 64 r → bit_on r i ≡ false)
  found = lowest 64 r (omega arith) (omega (arith, e, shr_le m k))

  -- it is set, and one of the 36; those before it are not
  pub next_set : bit_on m (k + count_trailing_zeros 64 r) ≡ true
  next_set = sym (bit_shifted m k (count_trailing_zeros 64 r)) ∙ rw (← e) found.0

  pub next_below : k + count_trailing_zeros 64 r < 36
  next_below = bit_below m 36 (k + count_trailing_zeros 64 r) fits next_set

  pub next_first : (i : ℕ) → k ≤ i → i < k + count_trailing_zeros 64 r → bit_on m i ≡ false
  next_first i h l =
      let q : k + (i - k) ≡ i = omega arith in
      rw (← q) (sym (bit_shifted m k (i - k)) ∙ rw (← e) (found.1 (i - k) (omega arith)))

  -- so what stands there only where a bit is set is passed over
  pub next_joined : (f : ℕ → List ℕ) → ((i : ℕ) → bit_on m i ≡ false → f i ≡ []) → joined f (k + count_trailing_zeros 64 r) ≡ joined f k
  next_joined f none = joined_skip f k (k + count_trailing_zeros 64 r) (omega arith) (λ i h l. none i (next_first i h l))

  pub next_count : count_in m (k + count_trailing_zeros 64 r) ≡ count_in m k
  next_count = count_skip (bit_on m) k (k + count_trailing_zeros 64 r) (omega arith) next_first

-- where nothing is left, all that follow are passed over
pub last_joined : (m k r : ℕ) → r ≡ m / 2 ^ k → r ≡ 0 → k ≤ 36 → (f : ℕ → List ℕ) → ((i : ℕ) → bit_on m i ≡ false → f i ≡ []) → joined f 36 ≡ joined f k
last_joined m k r e z h f none = joined_skip f k 36 h (λ i l g. none i (none_left m k i (sym e ∙ z) l))

-- ---- how many bits are set

small_ones : (x : ℕ) → x < 2 → ones x ≡ x
unfolding ones ones_in
small_ones zero h = refl
small_ones (suc zero) h = refl
small_ones (suc (suc x)) h = absurd (omega arith)

pub ones_counted : (n m : ℕ) → m < 2 ^ n → ones m ≡ count_in m n
unfolding count_below
ones_counted zero m h = let e : m ≡ 0 = omega arith in rw e (small_ones 0 (omega arith))
ones_counted (suc n) m h =
    let q : m < 2 ^ (1 + n) = rw (one-add n) h in
    let l : m / 2 ^ n < 2 = shr_lt 1 n q in
    ap ones (sym (split m n)) ∙ ones_cat n (m / 2 ^ n) (m % 2 ^ n) (mod-lt m (pow_pos n))
    ∙ ap₂ ◌+◌ (small_ones (m / 2 ^ n) l ∙ sym (mod-eq_of_lt l) ∙ bit_counts m n)
    (ones_counted n (m % 2 ^ n) (mod-lt m (pow_pos n)) ∙ count_same n (bit_on (m % 2 ^ n)) (bit_on m) (λ k g. bit_low m n k g))
    ∙ add_comm (cond (bit_on m n) 1 0) (count_in m n)

-- ---- one bit more in a mask

pub mask_joined : (n : ℕ) (p q : ℕ → Bool) (x : ℕ) → x < n → p x ≡ false → q x ≡ true → ((k : ℕ) → k < n → (k ≡ x → ⊥) → q k ≡ p k) → mask_below n q ≡ mask_below n p + 2 ^ x
unfolding mask_below
mask_joined zero p q x h f t o = absurd (omega arith)
mask_joined (suc n) p q x h f t o = by (ltb x n) refl (λ l. mask_joined n p q x l f t (λ k m e. o k (omega arith) e))
  where
    by : (b : Bool) → ltb x n ≡ b → (x < n → mask_below n q ≡ mask_below n p + 2 ^ x) → mask_below n q + cond (q n) (2 ^ n) 0 ≡ (mask_below n p + cond (p n) (2 ^ n) 0) + 2 ^ x
    by true l i =
        let s : q n ≡ p n = o n (omega arith) (λ e. omega (arith, ltb-true x n l)) in
        rw (i (ltb-true x n l), s) (omega arith)
    by false l i =
        let e : x ≡ n = omega (arith, ltb-false x n l) in
        let c : mask_below n q ≡ mask_below n p = mask_same n q p (λ k m. o k (omega arith) (λ d. omega arith)) in
        let u : p n ≡ false = rw e at f in
        let v : q n ≡ true = rw e at t in
        rw (c, u, v, e) (omega arith)
