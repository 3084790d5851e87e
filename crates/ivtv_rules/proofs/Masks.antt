-- Masks, and the bits that they have. Assumes nothing.
use mathlib.Core.Path.{◌≡◌, refl, sym, ap, ◌∙◌}
use mathlib.Core.Bool.{Bool, true, false, cond}
use Prim.Native.Nat.{ℕ, zero, suc, ◌+◌, ◌*◌, ◌-◌, ◌/◌, ◌%◌, ◌^◌, ◌<◌}
use native.Mathlib.Nat.{add_comm, zero-mul, one-mul, two-pow-succ}
use native.Mathlib.Numerals.{one-add}
use native.Mathlib.Omega.{arith}
use borrow.Author.Tests.{ltb-true, ltb-false}
use lib.Dec.{eqb, ltb}
use lib.Pow.{pow_pos, high, low, field, mod-mod-pow, mod-pow-add}
use Rattle.service_rules.specs.Services.{has}
use Rattle.service_rules.specs.Negotiation.{count_below}
use Rattle.service_rules.proofs.Ranks.{count_all, all_counted}
use Rattle.ivtv_rules.specs.Block.{mask_below}

-- a mask of n bits
pub mask_fits : (n : ℕ) (p : ℕ → Bool) → mask_below n p < 2 ^ n
unfolding mask_below
mask_fits zero p = omega arith
mask_fits (suc n) p = rw (two-pow-succ n) (by (p n) (mask_fits n p))
  where
    by : (b : Bool) → mask_below n p < 2 ^ n → mask_below n p + cond b (2 ^ n) 0 < 2 ^ n + 2 ^ n
    by true h = omega arith
    by false h = omega (arith, pow_pos n)

-- the highest bit apart
mask_split : (n : ℕ) (p : ℕ → Bool) → mask_below (suc n) p ≡ cond (p n) 1 0 * 2 ^ n + mask_below n p
unfolding mask_below
mask_split n p = by (p n)
  where
    by : (b : Bool) → mask_below n p + cond b (2 ^ n) 0 ≡ cond b 1 0 * 2 ^ n + mask_below n p
    by true = rw one-mul (add_comm (mask_below n p) (2 ^ n))
    by false = rw zero-mul (add_comm (mask_below n p) 0)

-- a bit is one of those that are left with the higher ones gone
pub low_bit : (m k n : ℕ) → k < n → m / 2 ^ k % 2 ≡ m % 2 ^ n / 2 ^ k % 2
low_bit m k n h =
    let e : n - (1 + k) + (1 + k) ≡ n = omega arith in
    rw (← e) (sym (field m 1 k) ∙ ap (λ (x : ℕ). x / 2 ^ k) (sym (mod-mod-pow m (n - (1 + k)) (1 + k))) ∙ field (m % 2 ^ (n - (1 + k) + (1 + k))) 1 k)

one_bit : (b : Bool) → eqb (cond b 1 0 % 2) 1 ≡ b
one_bit true = refl
one_bit false = refl

-- a mask has the bits of the numbers that pass, of the first n
pub mask_has : (n : ℕ) (p : ℕ → Bool) (k : ℕ) → k < n → has (mask_below n p) (2 ^ k) ≡ p k
unfolding has
mask_has zero p k h = absurd (omega arith)
mask_has (suc n) p k h = by (ltb k n) refl (mask_has n p k)
  where
    by : (b : Bool) → ltb k n ≡ b → (k < n → eqb (mask_below n p / 2 ^ k % 2) 1 ≡ p k) → eqb (mask_below (suc n) p / 2 ^ k % 2) 1 ≡ p k
    by true l f =
        let u = ltb-true k n l in
        rw (mask_split n p, low_bit (cond (p n) 1 0 * 2 ^ n + mask_below n p) k n u, low (cond (p n) 1 0) n (mask_fits n p)) (f u)
    by false l f =
        let q : k ≡ n = omega (arith, ltb-false k n l) in
        rw (q, mask_split n p, high (cond (p n) 1 0) n (mask_fits n p)) (one_bit (p n))

bit_back : (x m : ℕ) → x < 2 → cond (eqb x 1) m 0 ≡ x * m
bit_back zero m h = sym (zero-mul m)
bit_back (suc zero) m h = sym (one-mul m)
bit_back (suc (suc x)) m h = absurd (omega arith)

-- the mask of the bits that a number has is the number, of n bits
pub mask_back : (n m : ℕ) → mask_below n (λ k. has m (2 ^ k)) ≡ m % 2 ^ n
unfolding mask_below has
mask_back zero m = omega arith
mask_back (suc n) m =
    rw (mask_back n m, bit_back (m / 2 ^ n % 2) (2 ^ n) (omega arith), add_comm (m % 2 ^ n) (m / 2 ^ n % 2 * 2 ^ n))
    (rw one-add at (sym (mod-pow-add m 1 n)))

-- masks of tests that agree
pub mask_same : (n : ℕ) (p q : ℕ → Bool) → ((k : ℕ) → k < n → p k ≡ q k) → mask_below n p ≡ mask_below n q
unfolding mask_below
mask_same zero p q h = refl
mask_same (suc n) p q h = rw (h n (omega arith), mask_same n p q (λ k l. h k (omega arith)))

-- all bits
mask_ones : (n : ℕ) → mask_below n (λ k. true) ≡ 2 ^ n - 1
unfolding mask_below
mask_ones zero = refl
mask_ones (suc n) = rw (mask_ones n, two-pow-succ n) (omega (arith, pow_pos n))

-- the highest mask is that of n numbers that pass, and of no fewer
pub mask_full : (n : ℕ) (p : ℕ → Bool) → count_below n p ≡ n → mask_below n p ≡ 2 ^ n - 1
mask_full n p e = mask_same n p (λ k. true) (all_counted n p e) ∙ mask_ones n

pub full_mask : (n : ℕ) (p : ℕ → Bool) → mask_below n p ≡ 2 ^ n - 1 → count_below n p ≡ n
full_mask n p e =
    count_all n p (λ k h. sym (mask_has n p k h) ∙ rw (e, ← mask_ones n) (mask_has n (λ k. true) k h))
