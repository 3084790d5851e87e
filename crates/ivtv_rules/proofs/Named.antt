-- Which record names a line. Assumes nothing.
use mathlib.Core.Path.{◌≡◌, refl, sym}
use mathlib.Core.Bool.{Bool, true, false, cond, not, ◌&&◌}
use mathlib.Core.List.{List}
use Prim.Native.Nat.{ℕ, zero, suc, ◌+◌, ◌-◌, ◌≤◌, ◌<◌}
use native.Mathlib.Numerals.{add-one}
use native.Mathlib.Omega.{arith}
use borrow.Author.Tests.{eqb-true, eqb-false, eq-eqb, ne_eqb, ltb-true, lt-ltb}
use lib.Dec.{eqb, ltb}
use Rattle.sheet_rules.specs.Folds.{all_below}
use Rattle.sheet_rules.proofs.Truth.{both, all_at, all_of, all_not}
use Rattle.sheet_rules.proofs.Folding.{all_more}
use Rattle.service_rules.specs.Negotiation.{count_below}
use Rattle.service_rules.proofs.Counts.{count_none, count_most, count_joined}
use Rattle.ivtv_rules.specs.Lines.{record_bit}
use Rattle.ivtv_rules.specs.Writing.{record64, naming, good_lines}

-- the bit that record i names
abbrev pub bit_at : List ℕ → ℕ → ℕ
bit_at s i = record_bit (record64 s i)

-- one of the first n records names the line of bit k
abbrev pub named : List ℕ → ℕ → ℕ → Bool
named s n k = not (eqb (naming s n k) 0)

-- one record more
pub naming_more : (s : List ℕ) (i k : ℕ) → naming s (i + 1) k ≡ cond (eqb (bit_at s i) k) (i + 1) (naming s i k)
unfolding naming
naming_more s i k = rw add-one

pub naming_most : (s : List ℕ) (n k : ℕ) → naming s n k ≤ n
unfolding naming
naming_most s zero k = omega arith
naming_most s (suc n) k = by (eqb (bit_at s n) k) (naming_most s n k)
  where
    by : (b : Bool) → naming s n k ≤ n → cond b (suc n) (naming s n k) ≤ suc n
    by true h = omega arith
    by false h = omega arith

-- the record that is found names the line
pub naming_names : (s : List ℕ) (n k : ℕ) → 0 < naming s n k → bit_at s (naming s n k - 1) ≡ k
unfolding naming
naming_names s zero k h = absurd (omega arith)
naming_names s (suc n) k h = by (eqb (bit_at s n) k) refl h (naming_names s n k)
  where
    by : (b : Bool) → eqb (bit_at s n) k ≡ b → 0 < cond b (suc n) (naming s n k) → (0 < naming s n k → bit_at s (naming s n k - 1) ≡ k)
        → bit_at s (cond b (suc n) (naming s n k) - 1) ≡ k
    by true e l f = let z : suc n - 1 ≡ n = omega arith in rw z (eqb-true (bit_at s n) k e)
    by false e l f = f l

-- where no record is found, none names the line
pub naming_none : (s : List ℕ) (n k i : ℕ) → naming s n k ≡ 0 → i < n → bit_at s i ≡ k → ⊥
unfolding naming
naming_none s zero k i e h q = omega arith
naming_none s (suc n) k i e h q = by (eqb (bit_at s n) k) refl e (λ z l. naming_none s n k i z l q)
  where
    by : (b : Bool) → eqb (bit_at s n) k ≡ b → cond b (suc n) (naming s n k) ≡ 0 → (naming s n k ≡ 0 → i < n → ⊥) → ⊥
    by true f z r = omega arith
    by false f z r = let d : i ≡ n → ⊥ = λ w. eqb-false (bit_at s n) k f (rw w at q) in r z (omega arith)

-- a record more that is good
pub good_more : (s : List ℕ) (i : ℕ) → good_lines s (i + 1) ≡ (good_lines s i && (ltb (bit_at s i) 36 && eqb (naming s i (bit_at s i)) 0))
unfolding good_lines
good_more s i = all_more i (λ j. ltb (bit_at s j) 36 && eqb (naming s j (bit_at s j)) 0)

-- what each good record is
pub good_at_law : (s : List ℕ) (n : ℕ) → good_lines s n ≡ true → (i : ℕ) → i < n → (bit_at s i < 36) × (naming s i (bit_at s i) ≡ 0)
unfolding good_lines
good_at_law s n g i h =
    let e = both (ltb (bit_at s i) 36) (eqb (naming s i (bit_at s i)) 0) (all_at n (λ j. ltb (bit_at s j) 36 && eqb (naming s j (bit_at s j)) 0) g i h) in
    (ltb-true (bit_at s i) 36 e.0, eqb-true (naming s i (bit_at s i)) 0 e.1)

-- records each of which is that are good
pub good_of : (s : List ℕ) (n : ℕ) → ((i : ℕ) → i < n → (bit_at s i < 36) × (naming s i (bit_at s i) ≡ 0)) → good_lines s n ≡ true
unfolding good_lines
good_of s n f =
    all_of n (λ j. ltb (bit_at s j) 36 && eqb (naming s j (bit_at s j)) 0)
    (λ i h. rw (lt-ltb (bit_at s i) 36 (f i h).0, eq-eqb (naming s i (bit_at s i)) 0 (f i h).1))

-- one that is not
pub good_not : (s : List ℕ) (n i : ℕ) → i < n → (ltb (bit_at s i) 36 && eqb (naming s i (bit_at s i)) 0) ≡ false → good_lines s n ≡ false
unfolding good_lines
good_not s n i h e = all_not n (λ j. ltb (bit_at s j) 36 && eqb (naming s j (bit_at s j)) 0) i h e

-- the first of them are good
good_first : (s : List ℕ) (n : ℕ) → good_lines s (suc n) ≡ true → good_lines s n ≡ true
unfolding good_lines all_below
good_first s n g = (both (good_lines s n) (ltb (bit_at s n) 36 && eqb (naming s n (bit_at s n)) 0) g).0

-- n good records name n lines
pub named_many : (s : List ℕ) (n : ℕ) → good_lines s n ≡ true → count_below 36 (named s n) ≡ n
unfolding naming
named_many s zero g = count_none 36 (named s 0) (λ k h. refl)
named_many s (suc n) g =
    let e = good_at_law s (suc n) g n (omega arith) in
    let i = named_many s n (good_first s n g) in
    let j = count_joined 36 (named s n) (named s (suc n)) (bit_at s n) e.0 (rw e.1) (rw (eq-eqb (bit_at s n) (bit_at s n) refl, ne_eqb (suc n) 0 (λ q. omega arith)))
    (λ k h d. rw (ne_eqb (bit_at s n) k (λ q. d (sym q)))) in
    omega (arith, i, j)

-- so there are never more than 36
pub good_most : (s : List ℕ) (n : ℕ) → good_lines s n ≡ true → n ≤ 36
good_most s n g = omega (arith, named_many s n g, count_most 36 (named s n))
