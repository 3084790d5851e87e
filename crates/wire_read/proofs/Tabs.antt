-- The values of a function as a list. Assumes nothing.
use mathlib.Core.Path.{◌≡◌, refl, sym, ap, ◌∙◌}
use mathlib.Core.Bool.{Bool, true, false, cond, ◌||◌}
use Prim.Native.Nat.{ℕ, zero, suc, ◌+◌, ◌-◌, ◌<◌}
use native.Mathlib.Omega.{arith}
use native.Mathlib.Numerals.{add-one}
use mathlib.Core.List.{List, [], ◌∷◌, ◌++◌}
use borrow.Author.Tests.{eqb-true, eqb-false}
use lib.Dec.{eqb}
use lib.ListN.{length, get_or, set}
use lib.Seq.{get_or-set_same, get_or-set_other}
use Rattle.wire_read.specs.Lists.{tab, any, first}

module _ {A : Type 0} where
  pub tab_none : (f : ℕ → A) → tab f 0 ≡ []
  unfolding tab
  tab_none f = refl

  pub tab_length : (f : ℕ → A) (n : ℕ) → length (tab f n) ≡ n
  unfolding tab
  tab_length f zero = refl
  tab_length f (suc n) = ap suc (tab_length (λ i. f (suc i)) n)

  -- functions that agree
  pub tab_same : (f g : ℕ → A) (n : ℕ) → ((i : ℕ) → i < n → f i ≡ g i) → tab f n ≡ tab g n
  unfolding tab
  tab_same f g zero h = refl
  tab_same f g (suc n) h =
      ap (λ (x : A). x ∷ tab (λ i. f (suc i)) n) (h 0 (omega arith))
      ∙ ap (λ (l : List A). g 0 ∷ l) (tab_same (λ i. f (suc i)) (λ i. g (suc i)) n (λ i l. h (suc i) (omega arith)))

  snoc : (f : ℕ → A) (n : ℕ) → tab f (suc n) ≡ tab f n ++ (f n ∷ [])
  unfolding tab
  snoc f zero = refl
  snoc f (suc n) = ap (λ (l : List A). f 0 ∷ l) (snoc (λ i. f (suc i)) n)

  -- one more at the end
  pub tab_snoc : (f : ℕ → A) (n : ℕ) → tab f (n + 1) ≡ tab f n ++ (f n ∷ [])
  tab_snoc f n = rw add-one (snoc f n)

  -- the first apart
  pub tab_cons : (f : ℕ → A) (n : ℕ) → 0 < n → tab f n ≡ f 0 ∷ tab (λ i. f (suc i)) (n - 1)
  unfolding tab
  tab_cons f zero h = absurd (omega arith)
  tab_cons f (suc n) h = let e : suc n - 1 ≡ n = omega arith in rw e

  -- the value at a place
  pub tab_get : (f : ℕ → A) (n i : ℕ) (z : A) → i < n → get_or (tab f n) i z ≡ f i
  unfolding tab
  tab_get f zero i z h = absurd (omega arith)
  tab_get f (suc n) zero z h = refl
  tab_get f (suc n) (suc i) z h = tab_get (λ j. f (suc j)) n i z (omega arith)

  -- a list is what it reads as
  pub tab_listed : (l : List A) (z : A) → tab (λ i. get_or l i z) (length l) ≡ l
  unfolding tab
  tab_listed [] z = refl
  tab_listed (x ∷ l) z = ap (λ (m : List A). x ∷ m) (tab_listed l z)

  -- so it is a table if it reads as one
  pub tab_is : (l : List A) (z : A) (f : ℕ → A) (n : ℕ) → length l ≡ n → ((i : ℕ) → i < n → get_or l i z ≡ f i) → l ≡ tab f n
  tab_is l z f n e h = sym (tab_listed l z) ∙ ap (tab (λ i. get_or l i z)) e ∙ tab_same (λ i. get_or l i z) f n h

  -- a table that is filled from its start, by one more
  pub filled_more : (l : List A) (z : A) (f : ℕ → A) (k : ℕ) (x : A) → k < length l → x ≡ f k → ((i : ℕ) → i < k → get_or l i z ≡ f i)
      → (i : ℕ) → i < k + 1 → get_or (set l k x) i z ≡ f i
  filled_more l z f k x h e before i m = by (eqb i k) refl
    where
      by : (b : Bool) → eqb i k ≡ b → get_or (set l k x) i z ≡ f i
      by true q = rw (eqb-true i k q) (get_or-set_same l k x z h ∙ e)
      by false q = get_or-set_other l k i x z (eqb-false i k q) ∙ before i (omega (arith, eqb-false i k q))

  module _ (p : A → Bool) where
    pub any_none : (f : ℕ → A) (n : ℕ) → ((i : ℕ) → i < n → p (f i) ≡ false) → any p (tab f n) ≡ false
    unfolding tab any
    any_none f zero h = refl
    any_none f (suc n) h = rw (h 0 (omega arith)) (any_none (λ i. f (suc i)) n (λ i l. h (suc i) (omega arith)))

    pub any_found : (f : ℕ → A) (n i : ℕ) → i < n → p (f i) ≡ true → any p (tab f n) ≡ true
    unfolding tab any
    any_found f zero i h e = absurd (omega arith)
    any_found f (suc n) zero h e = rw e
    any_found f (suc n) (suc i) h e = go (p (f 0)) (any_found (λ j. f (suc j)) n i (omega arith) e)
      where
        go : (b : Bool) → any p (tab (λ j. f (suc j)) n) ≡ true → cond b true (any p (tab (λ j. f (suc j)) n)) ≡ true
        go true r = refl
        go false r = r

    pub first_found : (z : A) (f : ℕ → A) (n i : ℕ) → i < n → ((j : ℕ) → j < i → p (f j) ≡ false) → p (f i) ≡ true → first p z (tab f n) ≡ f i
    unfolding tab first
    first_found z f zero i h b e = absurd (omega arith)
    first_found z f (suc n) zero h b e = rw e
    first_found z f (suc n) (suc i) h b e = rw (b 0 (omega arith)) (first_found z (λ j. f (suc j)) n i (omega arith) (λ j l. b (suc j) (omega arith)) e)

    any_last : (f : ℕ → A) (n : ℕ) → any p (tab f (suc n)) ≡ (any p (tab f n) || p (f n))
    unfolding tab any
    any_last f zero = by (p (f 0))
      where
        by : (b : Bool) → cond b true false ≡ b
        by true = refl
        by false = refl
    any_last f (suc n) = by (p (f 0)) (any_last (λ i. f (suc i)) n)
      where
        by : (b : Bool) → any p (tab (λ i. f (suc i)) (suc n)) ≡ (any p (tab (λ i. f (suc i)) n) || p (f (suc n)))
            → cond b true (any p (tab (λ i. f (suc i)) (suc n))) ≡ (cond b true (any p (tab (λ i. f (suc i)) n)) || p (f (suc n)))
        by true e = refl
        by false e = e

    -- whether one of them passes, or one more
    pub any_more : (f : ℕ → A) (n : ℕ) → any p (tab f (n + 1)) ≡ (any p (tab f n) || p (f n))
    any_more f n = rw add-one (any_last f n)
