-- The numbers that pass a test, by how many pass before them. Assumes nothing.
use mathlib.Core.Path.{◌≡◌, refl}
use mathlib.Core.Bool.{Bool, true, false, cond}
use Prim.Native.Nat.{ℕ, zero, suc, ◌+◌, ◌≤◌, ◌<◌}
use native.Mathlib.Omega.{arith}
use borrow.Author.Tests.{ltb-true, ltb-false}
use lib.Dec.{ltb}
use Rattle.service_rules.specs.Negotiation.{count_below}
use Rattle.service_rules.proofs.Counts.{count_most}

-- a number that passes counts
count_pass : (n : ℕ) (p : ℕ → Bool) → p n ≡ true → count_below (suc n) p ≡ suc (count_below n p)
unfolding count_below
count_pass n p e = rw e (omega arith)

-- up to a later number as many pass or more
pub count_later : (p : ℕ → Bool) (k n : ℕ) → k ≤ n → count_below k p ≤ count_below n p
unfolding count_below
count_later p k zero h = let e : k ≡ 0 = omega arith in rw e (omega arith)
count_later p k (suc n) h = by (ltb k (suc n)) refl (count_later p k n)
  where
    by : (b : Bool) → ltb k (suc n) ≡ b → (k ≤ n → count_below k p ≤ count_below n p) → count_below k p ≤ count_below n p + cond (p n) 1 0
    by true l f = omega (arith, f (omega (arith, ltb-true k (suc n) l)))
    by false l f = let e : k ≡ suc n = omega (arith, ltb-false k (suc n) l) in rw e (omega arith)

-- behind one that passes more
pub count_rises : (p : ℕ → Bool) (k n : ℕ) → k < n → p k ≡ true → count_below k p < count_below n p
count_rises p k n h e = omega (arith, count_pass k p e, count_later p (suc k) n h)

-- so of two that pass one stands first
pub rank_apart : (p : ℕ → Bool) (k l : ℕ) → p k ≡ true → p l ≡ true → count_below k p ≡ count_below l p → k ≡ l
rank_apart p k l e f h = by (ltb k l) (ltb l k) refl refl
  where
    by : (a b : Bool) → ltb k l ≡ a → ltb l k ≡ b → k ≡ l
    by true b t u = absurd (omega (arith, h, count_rises p k l (ltb-true k l t) e))
    by false true t u = absurd (omega (arith, h, count_rises p l k (ltb-true l k u) f))
    by false false t u = omega (arith, ltb-false k l t, ltb-false l k u)

-- each rank is that of a number that passes
pub ranked : (n : ℕ) (p : ℕ → Bool) (j : ℕ) → j < count_below n p → (k : ℕ) × (k < n) × (p k ≡ true) × (count_below k p ≡ j)
unfolding count_below
ranked zero p j h = absurd (omega arith)
ranked (suc n) p j h = by (p n) refl (ltb j (count_below n p)) refl (ranked n p j)
  where
    by : (a : Bool) → p n ≡ a → (b : Bool) → ltb j (count_below n p) ≡ b
        → (j < count_below n p → (k : ℕ) × (k < n) × (p k ≡ true) × (count_below k p ≡ j))
        → (k : ℕ) × (k < suc n) × (p k ≡ true) × (count_below k p ≡ j)
    by a e true l f = let r = f (ltb-true j (count_below n p) l) in (r.0, omega (arith, r.1), r.2, r.3)
    by true e false l f = (n, omega arith, e, omega (arith, ltb-false j (count_below n p) l, rw e at h))
    by false e false l f = absurd (omega (arith, ltb-false j (count_below n p) l, rw e at h))

-- all pass
pub count_all : (n : ℕ) (p : ℕ → Bool) → ((k : ℕ) → k < n → p k ≡ true) → count_below n p ≡ n
unfolding count_below
count_all zero p h = refl
count_all (suc n) p h = rw (h n (omega arith), count_all n p (λ k l. h k (omega arith))) (omega arith)

-- where as many pass as there are, each does
pub all_counted : (n : ℕ) (p : ℕ → Bool) → count_below n p ≡ n → (k : ℕ) → k < n → p k ≡ true
unfolding count_below
all_counted zero p e k h = absurd (omega arith)
all_counted (suc n) p e k h = by (p n) refl (ltb k n) refl (λ c. all_counted n p c k)
  where
    by : (a : Bool) → p n ≡ a → (b : Bool) → ltb k n ≡ b → (count_below n p ≡ n → k < n → p k ≡ true) → p k ≡ true
    by true f true l r = r (omega (arith, rw f at e)) (ltb-true k n l)
    by true f false l r = let q : k ≡ n = omega (arith, ltb-false k n l) in rw q f
    by false f b l r = absurd (omega (arith, rw f at e, count_most n p))
