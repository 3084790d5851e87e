-- Every element of a list, no element twice, and what that says of lengths.
use mathlib.Core.Path.{◌≡◌, refl, sym, ap, ◌∙◌, subst}
use mathlib.Core.Logic.{◌≢◌}
use mathlib.Core.Bool.{Bool, true, false, cond, true≢false}
use Prim.Native.Nat.{ℕ, zero, suc, ◌+◌, ◌≤◌, ◌<◌}
use native.Mathlib.Omega.{arith}
use borrow.Author.Tests.{eqb-true, eqb-false, ne_eqb}
use lib.Dec.{eqb}
use mathlib.Core.List.{List, [], ◌∷◌, ◌++◌, map}
use lib.ListN.{length}
use Rattle.wire_read.specs.Lists.{any}
use Rattle.stream_history.specs.Paper.{numbers_below}
use Rattle.stream_history.specs.Claims.{times}

-- ---- every element

abbrev pub All : {A : Type 0} → (A → Type 0) → List A → Type 0
All P [] = Unit {0}
All P (x ∷ xs) = P x × All P xs

module _ {A : Type 0} (P : A → Type 0) where
  pub all_snoc : (l : List A) (x : A) → All P l → P x → All P (l ++ (x ∷ []))
  all_snoc [] x a h = (h, tt)
  all_snoc (y ∷ l) x a h = (a.0, all_snoc l x a.1 h)

  pub all_append : (l m : List A) → All P (l ++ m) → All P l × All P m
  all_append [] m a = (tt, a)
  all_append (y ∷ l) m a = let (x, y) = all_append l m a.1 in ((a.0, x), y)

pub all_join : {A : Type 0} (P : A → Type 0) (l m : List A) → All P l → All P m → All P (l ++ m)
all_join P [] m a b = b
all_join P (x ∷ l) m a b = (a.0, all_join P l m a.1 b)

pub all_map : {A : Type 0} (P Q : A → Type 0) → ((x : A) → P x → Q x) → (l : List A) → All P l → All Q l
all_map P Q f [] a = tt
all_map P Q f (x ∷ l) a = (f x a.0, all_map P Q f l a.1)

pub all_both : {A : Type 0} (P Q : A → Type 0) (l : List A) → All P l → All Q l → All (λ x. P x × Q x) l
all_both P Q [] a b = tt
all_both P Q (x ∷ l) a b = ((a.0, b.0), all_both P Q l a.1 b.1)

pub all_of_map : {A B : Type 0} (f : A → B) (P : B → Type 0) (l : List A) → All P (map f l) → All (λ x. P (f x)) l
all_of_map f P [] a = tt
all_of_map f P (x ∷ l) a = (a.0, all_of_map f P l a.1)

pub all_to_map : {A B : Type 0} (f : A → B) (P : B → Type 0) (l : List A) → All (λ x. P (f x)) l → All P (map f l)
all_to_map f P [] a = tt
all_to_map f P (x ∷ l) a = (a.0, all_to_map f P l a.1)

pub map_snoc : {A B : Type 0} (f : A → B) (l : List A) (x : A) → map f (l ++ (x ∷ [])) ≡ map f l ++ (f x ∷ [])
map_snoc f [] x = refl
map_snoc {B = B} f (y ∷ l) x = ap (λ (r : List B). f y ∷ r) (map_snoc f l x)

-- where none passes a test, each fails it
pub none_passes : {A : Type 0} (p : A → Bool) (l : List A) → any p l ≡ false → All (λ x. p x ≡ false) l
unfolding any
none_passes p [] h = tt
none_passes p (x ∷ l) h = go (p x) refl h (none_passes p l)
  where
    go : (b : Bool) → p x ≡ b → cond b true (any p l) ≡ false → (any p l ≡ false → All (λ x. p x ≡ false) l) → (p x ≡ false) × All (λ x. p x ≡ false) l
    go true e h ih = absurd (true≢false h)
    go false e h ih = (e, ih h)

-- ---- no element twice

abbrev pub NoDup : List ℕ → Type 0
NoDup [] = Unit {0}
NoDup (x ∷ xs) = All (λ y. y ≢ x) xs × NoDup xs

pub nodup_snoc : (l : List ℕ) (k : ℕ) → NoDup l → All (λ y. y ≢ k) l → NoDup (l ++ (k ∷ []))
nodup_snoc [] k d a = (tt, tt)
nodup_snoc (x ∷ l) k d a = (all_snoc (λ y. y ≢ x) l k d.0 (λ e. a.0 (sym e)), nodup_snoc l k d.1 a.1)

pub nodup_append : (l m : List ℕ) → NoDup (l ++ m) → NoDup l × NoDup m
nodup_append [] m d = (tt, d)
nodup_append (x ∷ l) m d = let (a, b) = nodup_append l m d.1 in (((all_append (λ y. y ≢ x) l m d.0).0, a), b)

-- what stands before k is not k
pub nodup_before : (l : List ℕ) (k : ℕ) (m : List ℕ) → NoDup (l ++ k ∷ m) → All (λ y. y ≢ k) l
nodup_before [] k m d = tt
nodup_before (x ∷ l) k m d = ((λ e. (all_append (λ y. y ≢ x) l (k ∷ m) d.0).1.0 (sym e)), nodup_before l k m d.1)

-- ---- distinct numbers below n are at most n

-- the list without n
without : ℕ → List ℕ → List ℕ
without n [] = []
without n (x ∷ l) = cond (eqb x n) (without n l) (x ∷ without n l)

all_without : (P : ℕ → Type 0) (n : ℕ) (l : List ℕ) → All P l → All P (without n l)
unfolding without
all_without P n [] a = tt
all_without P n (x ∷ l) a = elim (eqb x n) as (λ b. All P (cond b (without n l) (x ∷ without n l))) [ true ↦ all_without P n l a.1 | false ↦ (a.0, all_without P n l a.1) ]

nodup_without : (n : ℕ) (l : List ℕ) → NoDup l → NoDup (without n l)
unfolding without
nodup_without n [] d = tt
nodup_without n (x ∷ l) d = elim (eqb x n) as (λ b. NoDup (cond b (without n l) (x ∷ without n l))) [ true ↦ nodup_without n l d.1 | false ↦ (all_without (λ y. y ≢ x) n l d.0, nodup_without n l d.1) ]

-- none is n: nothing goes
without_none : (n : ℕ) (l : List ℕ) → All (λ y. y ≢ n) l → length (without n l) ≡ length l
unfolding without
without_none n [] a = refl
without_none n (x ∷ l) a = go (eqb x n) refl (without_none n l a.1)
  where
    go : (b : Bool) → eqb x n ≡ b → length (without n l) ≡ length l → length (cond b (without n l) (x ∷ without n l)) ≡ suc (length l)
    go true e h = absurd (a.0 (eqb-true x n e))
    go false e h = ap suc h

-- of distinct ones at most one goes
without_one : (n : ℕ) (l : List ℕ) → NoDup l → length l ≤ length (without n l) + 1
unfolding without
without_one n [] d = omega arith
without_one n (x ∷ l) d = go (eqb x n) refl (without_one n l d.1)
  where
    go : (b : Bool) → eqb x n ≡ b → length l ≤ length (without n l) + 1 → suc (length l) ≤ length (cond b (without n l) (x ∷ without n l)) + 1
    go true e h = omega (arith, without_none n l (subst (λ (m : ℕ). All (λ y. y ≢ m) l) (eqb-true x n e) d.0))
    go false e h = omega arith

below_without : (n : ℕ) (l : List ℕ) → All (λ y. y < suc n) l → All (λ y. y < n) (without n l)
unfolding without
below_without n [] a = tt
below_without n (x ∷ l) a = go (eqb x n) refl (below_without n l a.1)
  where
    go : (b : Bool) → eqb x n ≡ b → All (λ y. y < n) (without n l) → All (λ y. y < n) (cond b (without n l) (x ∷ without n l))
    go true e h = h
    go false e h = (omega (arith, a.0, eqb-false x n e), h)

pub pigeonhole : (n : ℕ) (l : List ℕ) → NoDup l → All (λ y. y < n) l → length l ≤ n
pigeonhole zero [] d a = omega arith
pigeonhole zero (x ∷ l) d a = absurd (omega (arith, a.0))
pigeonhole (suc n) l d a = omega (arith, pigeonhole n (without n l) (nodup_without n l d) (below_without n l a), without_one n l d)

-- ---- how often a number stands in a list

pub times_append : (k : ℕ) (l m : List ℕ) → times k (l ++ m) ≡ times k l + times k m
times_append k [] m = omega arith
times_append k (x ∷ l) m = omega (arith, times_append k l m)

-- another number
pub times_none : (k : ℕ) (l : List ℕ) → All (λ y. y ≢ k) l → times k l ≡ 0
times_none k [] a = refl
times_none k (x ∷ l) a = rw (ne_eqb x k a.0) (omega (arith, times_none k l a.1))

-- at most once
pub times_once : (k : ℕ) (l : List ℕ) → NoDup l → times k l ≤ 1
times_once k [] d = omega arith
times_once k (x ∷ l) d = go (eqb x k) refl (times_once k l d.1)
  where
    go : (b : Bool) → eqb x k ≡ b → times k l ≤ 1 → cond b 1 0 + times k l ≤ 1
    go true e h = omega (arith, times_none k l (subst (λ (m : ℕ). All (λ y. y ≢ m) l) (eqb-true x k e) d.0))
    go false e h = omega arith

-- past the bound of its elements
pub times_past : (k n : ℕ) (l : List ℕ) → All (λ y. y < n) l → n ≤ k → times k l ≡ 0
times_past k n l a h = times_none k l (all_map (λ y. y < n) (λ y. y ≢ k) (λ y b e. omega (arith, e)) l a)

-- a search finds it exactly where it stands
pub any_times : (k : ℕ) (l : List ℕ) → NoDup l → cond (any (λ x. eqb x k) l) 1 0 ≡ times k l
unfolding any
any_times k [] d = refl
any_times k (x ∷ l) d = go (eqb x k) refl (any_times k l d.1)
  where
    go : (b : Bool) → eqb x k ≡ b → cond (any (λ x. eqb x k) l) 1 0 ≡ times k l → cond (cond b true (any (λ x. eqb x k) l)) 1 0 ≡ cond b 1 0 + times k l
    go true e h = omega (arith, times_none k l (subst (λ (m : ℕ). All (λ y. y ≢ m) l) (eqb-true x k e) d.0))
    go false e h = omega (arith, h)

-- of the numbers below m none is m or more, and each stands there once
none_from : (n m : ℕ) → m ≤ n → times n (numbers_below m) ≡ 0
none_from n zero h = refl
none_from n (suc m) h = times_append n (numbers_below m) (m ∷ []) ∙ rw (ne_eqb m n (λ e. omega (arith, h, e))) (omega (arith, none_from n m (omega (arith, h))))

pub each_below : (n m : ℕ) → n < m → times n (numbers_below m) ≡ 1
each_below n zero h = absurd (omega (arith, h))
each_below n (suc m) h = times_append n (numbers_below m) (m ∷ []) ∙ go (eqb m n) refl (each_below n m)
  where
    go : (b : Bool) → eqb m n ≡ b → (n < m → times n (numbers_below m) ≡ 1) → times n (numbers_below m) + (cond b 1 0 + 0) ≡ 1
    go true e again = omega (arith, none_from n m (omega (arith, eqb-true m n e)))
    go false e again = omega (arith, again (omega (arith, h, eqb-false m n e)))
