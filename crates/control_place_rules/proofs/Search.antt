-- A search from the first number on: what it found. Assumes nothing.
use Prim.Native.Nat.{ℕ, zero, suc, ◌+◌, ◌≤◌, ◌<◌}
use mathlib.Core.Path.{◌≡◌, refl, sym, ◌∙◌}
use mathlib.Core.Bool.{Bool, true, false, cond, false≢true}
use borrow.Author.Tests.{ltb-true, ltb-false, lt-ltb, le-ltb}
use lib.Dec.{ltb}
use native.Mathlib.Omega.{arith}
use Rattle.std.specs.Prelude.{Option, Some, None, MatchOption}
use Rattle.control_place_rules.specs.First.{first_from, first_below}

module _ (p : ℕ → Bool) where
  -- the answer lies from k to the end; what it passed over fails the test, and what it found passes
  from_start : (k n : ℕ) → k ≤ first_from p k n
  unfolding first_from
  from_start k zero = omega arith
  from_start k (suc n) = by (p k) (from_start (suc k) n)
    where
      by : (t : Bool) → suc k ≤ first_from p (suc k) n → k ≤ cond t k (first_from p (suc k) n)
      by true h = omega arith
      by false h = omega arith

  from_end : (k n : ℕ) → first_from p k n ≤ k + n
  unfolding first_from
  from_end k zero = omega arith
  from_end k (suc n) = by (p k) (from_end (suc k) n)
    where
      by : (t : Bool) → first_from p (suc k) n ≤ suc k + n → cond t k (first_from p (suc k) n) ≤ k + suc n
      by true h = omega arith
      by false h = omega arith

  from_passes : (k n : ℕ) → first_from p k n < k + n → p (first_from p k n) ≡ true
  unfolding first_from
  from_passes k zero h = absurd (omega arith)
  from_passes k (suc n) h = by (p k) refl h (λ l. from_passes (suc k) n l)
    where
      by : (t : Bool) → p k ≡ t → cond t k (first_from p (suc k) n) < k + suc n → (first_from p (suc k) n < suc k + n → p (first_from p (suc k) n) ≡ true)
          → p (cond t k (first_from p (suc k) n)) ≡ true
      by true e h f = e
      by false e h f = f (omega arith)

  from_fails : (k n j : ℕ) → k ≤ j → j < first_from p k n → p j ≡ false
  unfolding first_from
  from_fails k zero j h l = absurd (omega arith)
  from_fails k (suc n) j h l = by (p k) refl l (λ g m. from_fails (suc k) n j g m)
    where
      by : (t : Bool) → p k ≡ t → j < cond t k (first_from p (suc k) n) → (suc k ≤ j → j < first_from p (suc k) n → p j ≡ false) → p j ≡ false
      by true e l f = absurd (omega arith)
      by false e l f = at (ltb k j) refl
        where
          at : (u : Bool) → ltb k j ≡ u → p j ≡ false
          at true m = f (ltb-true k j m) l
          at false m = let q : j ≡ k = omega (arith, ltb-false k j m) in rw q e

  pub first_within : (n : ℕ) → first_below p n ≤ n
  unfolding first_below
  first_within n = omega (arith, from_end 0 n)

  pub first_passes : (n : ℕ) → first_below p n < n → p (first_below p n) ≡ true
  unfolding first_below
  first_passes n h = from_passes 0 n (omega arith)

  pub first_fails : (n j : ℕ) → j < first_below p n → p j ≡ false
  unfolding first_below
  first_fails n j h = from_fails 0 n j (omega arith) h

  -- the only number that passes while all before it fail, and the end where none passes
  pub first_is : (n k : ℕ) → k < n → p k ≡ true → ((j : ℕ) → j < k → p j ≡ false) → first_below p n ≡ k
  first_is n k h e f = by (ltb (first_below p n) k) refl (ltb k (first_below p n)) refl
    where
      by : (t : Bool) → ltb (first_below p n) k ≡ t → (u : Bool) → ltb k (first_below p n) ≡ u → first_below p n ≡ k
      by true l u m =
          let w = ltb-true (first_below p n) k l in
          absurd (false≢true (sym (f (first_below p n) w) ∙ first_passes n (omega arith)))
      by false l true m = absurd (false≢true (sym (first_fails n k (ltb-true k (first_below p n) m)) ∙ e))
      by false l false m = omega (arith, ltb-false (first_below p n) k l, ltb-false k (first_below p n) m)

  pub first_none : (n : ℕ) → ((j : ℕ) → j < n → p j ≡ false) → first_below p n ≡ n
  first_none n f = by (ltb (first_below p n) n) refl
    where
      by : (t : Bool) → ltb (first_below p n) n ≡ t → first_below p n ≡ n
      by true l =
          let w = ltb-true (first_below p n) n l in
          absurd (false≢true (sym (f (first_below p n) w) ∙ first_passes n w))
      by false l = omega (arith, first_within n, ltb-false (first_below p n) n l)

  -- what a search says of its result, as the answer of a look-up
  pub found_first : (n : ℕ) (r : Option ℕ)
      → MatchOption r ((j : ℕ) → j < n → p j ≡ false) (λ k. (k < n) × (p k ≡ true) × ((j : ℕ) → j < k → p j ≡ false))
      → r ≡ cond (ltb (first_below p n) n) (Some (first_below p n)) None
  found_first n (Some k) m =
      let (h, e, f) = m in
      let q = first_is n k h e f in
      rw (q, lt-ltb k n h)
  found_first n None m = let q = first_none n m in rw (q, le-ltb n n (omega arith))
