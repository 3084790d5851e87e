-- What a test that passed says of its parts. Assumes nothing.
use Prim.Native.Nat.{ℕ, zero, suc, ◌<◌}
use mathlib.Core.Path.{◌≡◌, refl, sym, ap₂, ◌∙◌}
use mathlib.Core.Logic.{◌⊎◌, inl, inr, ⊎_elim}
use mathlib.Core.Bool.{Bool, true, false, not, ◌&&◌, ◌||◌, false≢true}
use native.Mathlib.Omega.{arith}
use native.Mathlib.Nat.{not-suc-le-zero}
use borrow.Author.Tests.{ltb-true, ltb-false}
use lib.Dec.{ltb}
use Rattle.sheet_rules.specs.Folds.{all_below, any_below}

-- two tests are joined as what they say is joined
infixl 35 ◌and◌
pub ◌and◌ : {a b c d : Bool} → a ≡ b → c ≡ d → (a && c) ≡ (b && d)
p and q = ap₂ ◌&&◌ p q

-- both parts of a conjunction
pub both : (a b : Bool) → (a && b) ≡ true → (a ≡ true) × (b ≡ true)
both true b e = (refl, e)
both false b e = (e, absurd (false≢true e))

-- one part of a disjunction
pub either : (a b : Bool) → (a || b) ≡ true → (a ≡ true) ⊎ (b ≡ true)
either true b e = inl refl
either false b e = inr e

-- a test that does not pass
pub denied : (a : Bool) → not a ≡ true → a ≡ false
denied true e = sym e
denied false e = refl

-- each number below the bound
pub all_at : (n : ℕ) (p : ℕ → Bool) → all_below n p ≡ true → (k : ℕ) → k < n → p k ≡ true
unfolding all_below
all_at zero p e k h = absurd (not-suc-le-zero h)
all_at (suc n) p e k h = by (ltb k n) refl (λ l. all_at n p (both (all_below n p) (p n) e).0 k l)
  where
    by : (b : Bool) → ltb k n ≡ b → (k < n → p k ≡ true) → p k ≡ true
    by true l f = f (ltb-true k n l)
    by false l f = let q : k ≡ n = omega (arith, ltb-false k n l) in rw q (both (all_below n p) (p n) e).1

pub all_of : (n : ℕ) (p : ℕ → Bool) → ((k : ℕ) → k < n → p k ≡ true) → all_below n p ≡ true
unfolding all_below
all_of zero p h = refl
all_of (suc n) p h = rw (all_of n p (λ k l. h k (omega arith)), h n (omega arith))

-- one that fails
pub all_not : (n : ℕ) (p : ℕ → Bool) (k : ℕ) → k < n → p k ≡ false → all_below n p ≡ false
all_not n p k h e = by (all_below n p) refl
  where
    by : (b : Bool) → all_below n p ≡ b → all_below n p ≡ false
    by true t = absurd (false≢true (sym e ∙ all_at n p t k h))
    by false t = t

-- some number below the bound
pub any_at : (n : ℕ) (p : ℕ → Bool) → any_below n p ≡ true → (k : ℕ) × (k < n) × (p k ≡ true)
unfolding any_below
any_at zero p e = absurd (false≢true e)
any_at (suc n) p e =
    ⊎_elim (λ l. let r = any_at n p l in (r.0, omega (arith, r.1), r.2)) (λ l. (n, omega arith, l)) (either (any_below n p) (p n) e)

pub any_of_law : (n : ℕ) (p : ℕ → Bool) (k : ℕ) → k < n → p k ≡ true → any_below n p ≡ true
unfolding any_below
any_of_law zero p k h e = absurd (not-suc-le-zero h)
any_of_law (suc n) p k h e = by (ltb k n) refl (λ l. any_of_law n p k l e)
  where
    or_true : (a : Bool) → (a || true) ≡ true
    or_true true = refl
    or_true false = refl

    by : (b : Bool) → ltb k n ≡ b → (k < n → any_below n p ≡ true) → (any_below n p || p n) ≡ true
    by true l f = rw (f (ltb-true k n l))
    by false l f = let q : k ≡ n = omega (arith, ltb-false k n l) in rw (← q, e) (or_true (any_below k p))
