-- How many of the numbers below a bound pass a test. Assumes nothing.
use mathlib.Core.Path.{◌≡◌, refl}
use mathlib.Core.Bool.{Bool, true, false, cond, false≢true}
use Prim.Native.Nat.{ℕ, zero, suc, ◌+◌, ◌≤◌, ◌<◌}
use native.Mathlib.Omega.{arith}
use native.Mathlib.Numerals.{add-one}
use borrow.Author.Tests.{ltb-true, ltb-false}
use lib.Dec.{ltb}
use Rattle.service_rules.specs.Negotiation.{count_below}

-- one number more
pub count_more : (n : ℕ) (p : ℕ → Bool) → count_below (n + 1) p ≡ count_below n p + cond (p n) 1 0
unfolding count_below
count_more n p = rw add-one

one_most : (b : Bool) → cond b 1 0 ≤ 1
one_most true = omega arith
one_most false = omega arith

-- no more than there are
pub count_most : (n : ℕ) (p : ℕ → Bool) → count_below n p ≤ n
unfolding count_below
count_most zero p = omega arith
count_most (suc n) p = omega (arith, count_most n p, one_most (p n))

-- none
pub count_none : (n : ℕ) (p : ℕ → Bool) → ((k : ℕ) → k < n → p k ≡ false) → count_below n p ≡ 0
unfolding count_below
count_none zero p h = refl
count_none (suc n) p h = rw (h n (omega arith), count_none n p (λ k l. h k (omega arith)))

-- tests that agree
pub count_same : (n : ℕ) (p q : ℕ → Bool) → ((k : ℕ) → k < n → p k ≡ q k) → count_below n p ≡ count_below n q
unfolding count_below
count_same zero p q h = refl
count_same (suc n) p q h = rw (h n (omega arith), count_same n p q (λ k l. h k (omega arith)))

weaker : (x y : Bool) → (x ≡ true → y ≡ true) → cond x 1 0 ≤ cond y 1 0
weaker true true f = omega arith
weaker true false f = absurd (false≢true (f refl))
weaker false y f = omega arith

-- a weaker test
pub count_weaker : (n : ℕ) (p q : ℕ → Bool) → ((k : ℕ) → k < n → p k ≡ true → q k ≡ true) → count_below n p ≤ count_below n q
unfolding count_below
count_weaker zero p q h = omega arith
count_weaker (suc n) p q h = omega (arith, count_weaker n p q (λ k l. h k (omega arith)), weaker (p n) (q n) (h n (omega arith)))

-- one number more passes, and nothing else changes
pub count_joined : (n : ℕ) (p q : ℕ → Bool) (x : ℕ) → x < n → p x ≡ false → q x ≡ true → ((k : ℕ) → k < n → (k ≡ x → ⊥) → q k ≡ p k) → count_below n q ≡ count_below n p + 1
unfolding count_below
count_joined zero p q x h f t o = absurd (omega arith)
count_joined (suc n) p q x h f t o = by (ltb x n) refl (λ l. count_joined n p q x l f t (λ k m e. o k (omega arith) e))
  where
    by : (b : Bool) → ltb x n ≡ b → (x < n → count_below n q ≡ count_below n p + 1) → count_below n q + cond (q n) 1 0 ≡ (count_below n p + cond (p n) 1 0) + 1
    by true l i =
        let s : q n ≡ p n = o n (omega arith) (λ e. omega (arith, ltb-true x n l)) in
        rw (i (ltb-true x n l), s) (omega arith)
    by false l i =
        let e : x ≡ n = omega (arith, ltb-false x n l) in
        let c : count_below n q ≡ count_below n p = count_same n q p (λ k m. o k (omega arith) (λ d. omega arith)) in
        let u : p n ≡ false = rw e at f in
        let v : q n ≡ true = rw e at t in
        rw (c, u, v) (omega arith)
