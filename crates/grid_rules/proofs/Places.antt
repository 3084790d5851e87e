-- A grid of naturals, least + k * step for the places k = 0, 1, .. n: the first of the places that are nearest to a number.
-- The walk gives it, and so does the arithmetic. Assumes nothing.
use Prim.Native.Nat.{ℕ, suc, ◌+◌, ◌-◌, ◌*◌, ◌/◌, ◌≤◌, ◌<◌}
use mathlib.Core.Path.{◌≡◌, refl, sym, ap, ◌∙◌}
use mathlib.Core.Logic.{⊎_elim}
use mathlib.Core.Bool.{Bool, true, false, not}
use native.Mathlib.Omega.{arith}
use native.Mathlib.Nat.{eq-or-lt_of_le, mul-le-mul_right, min-eq_left, min-eq_right, div-add-mod', mod-lt, mul-add-div_right, div-eq_of_lt, add-zero}
use borrow.Author.Tests.{ltb-true, ltb-false, leb-true, leb-false, lt-ltb, le-ltb}
use lib.Dec.{leb, ltb}
use Rattle.wire_read.specs.Lists.{tab, any}
use Rattle.wire_read.proofs.Tabs.{any_none, any_found, first_found}
use Rattle.grid_rules.specs.Grid.{nearest_multiple, nearest_up_to, apart, first_unbeaten}

-- no place up to n is less far than k, and k is the first of those that are as far
pub record First (far : ℕ → ℕ) (n k : ℕ) : Type 0 where
  pub within : k ≤ n
  pub near : (j : ℕ) → j ≤ n → far k ≤ far j
  pub tie : (j : ℕ) → j ≤ n → far k ≡ far j → k ≤ j

-- the distance may be told in another way
pub first_same : (f g : ℕ → ℕ) (n k : ℕ) → ((j : ℕ) → f j ≡ g j) → First f n k → First g n k
first_same f g n k e a =
    record {
      within = a.within;
      near = λ j h. rw (← (e k), ← (e j)) (a.near j h);
      tie = λ j h q. a.tie j h (e k ∙ q ∙ sym (e j));
    }

-- ---- the walk

-- of the places up to n the walk of their list stops at the first of the nearest: those before it are beaten by it, and it is by none
pub walked : {A : Type 0} (far : A → ℕ) (z : A) (f : ℕ → A) (n k : ℕ) → First (λ j. far (f j)) n k → first_unbeaten far z (tab f (suc n)) ≡ f k
unfolding first_unbeaten
walked {A = A} far z f n k a =
    first_found (λ x. not (any (beats x) (tab f (suc n)))) z f (suc n) k (omega (arith, a.within))
    (λ j h. ap not (any_found (beats (f j)) f (suc n) k (omega (arith, a.within)) (lt-ltb (far (f k)) (far (f j)) (nearer j h))))
    (ap not (any_none (beats (f k)) f (suc n) (λ j h. le-ltb (far (f j)) (far (f k)) (a.near j (omega arith)))))
  where
    beats : A → A → Bool
    beats x y = ltb (far y) (far x)

    -- a place before it is farther
    nearer : (j : ℕ) → j < k → far (f k) < far (f j)
    nearer j h =
        let w : j ≤ n = omega (arith, a.within) in
        ⊎_elim (λ e. absurd (omega (arith, h, a.tie j w e))) (λ l. l) (eq-or-lt_of_le (a.near j w))

-- ---- the arithmetic

-- up to the middle of two numbers the lower is as near or nearer; above it the higher is nearer
lower : (asked x y : ℕ) → x ≤ y → 2 * asked ≤ x + y → apart x asked ≤ apart y asked
unfolding apart
lower asked x y h m = omega arith

higher : (asked x y : ℕ) → x < y → x + y < 2 * asked → apart y asked < apart x asked
unfolding apart
higher asked x y h m = omega arith

-- the nearest multiple lies less than half a step above the number and at most half a step below it
half : (step d : ℕ) → 0 < step → (2 * nearest_multiple step d < 2 * d + step) × (2 * d ≤ 2 * nearest_multiple step d + step)
unfolding nearest_multiple
half step d h =
    let e = div-add-mod' (d + (step - 1) / 2) step in
    let l = mod-lt (d + (step - 1) / 2) h in
    let f = div-add-mod' (step - 1) 2 in
    let m = mod-lt (step - 1) {m = 2} (omega arith) in
    (omega arith, omega arith)

-- a multiple is its own nearest one
pub multiple_kept : (step k : ℕ) → 0 < step → nearest_multiple step (k * step) ≡ k * step
unfolding nearest_multiple
multiple_kept step k h =
    let f = div-add-mod' (step - 1) 2 in
    let l : (step - 1) / 2 < step = omega arith in
    rw (mul-add-div_right h k ((step - 1) / 2), div-eq_of_lt l, add-zero k)

-- how far place k is from the number asked
abbrev far_from : ℕ → ℕ → ℕ → ℕ → ℕ
far_from least step asked k = apart (least + k * step) asked

module _ (least n step asked : ℕ) (some : 0 < step) where
  -- a place is the first of the nearest if the number asked is at most half a step above it and less than half a step below it;
  -- the last place need not mind what is above, nor the first what is below
  first_if : (k : ℕ) → k ≤ n → (k < n → 2 * asked ≤ 2 * (least + k * step) + step) → (0 < k → 2 * (least + k * step) < 2 * asked + step)
      → First (far_from least step asked) n k
  first_if k w up down =
      record { within = w; near = λ j h. (by j h (ltb j k) refl).0; tie = λ j h. (by j h (ltb j k) refl).1 }
    where
      beyond : (j : ℕ) → j ≤ n → k < j → far_from least step asked k ≤ far_from least step asked j
      beyond j h i =
          let m = mul-le-mul_right step i in
          let u = up (omega arith) in
          lower asked (least + k * step) (least + j * step) (omega arith) (omega arith)

      by : (j : ℕ) → j ≤ n → (t : Bool) → ltb j k ≡ t
          → (far_from least step asked k ≤ far_from least step asked j) × (far_from least step asked k ≡ far_from least step asked j → k ≤ j)
      by j h true e =
          let m = mul-le-mul_right step (ltb-true j k e) in
          let d = down (omega (arith, ltb-true j k e)) in
          let g = higher asked (least + j * step) (least + k * step) (omega arith) (omega arith) in
          (omega arith, λ q. absurd (omega arith))
      by j h false e =
          let l = ltb-false j k e in
          (⊎_elim (λ q. rw q (omega arith)) (λ i. beyond j h i) (eq-or-lt_of_le l), λ q. l)

-- how many steps the arithmetic goes up from the least number, and that this place is the first of the nearest
pub record Nearest (least n step asked : ℕ) : Type 0 where
  pub times : ℕ
  pub is : nearest_up_to (n * step) step (asked - least) ≡ times * step
  pub first : First (λ k. apart (least + k * step) asked) n times

pub nearest : (least n step asked : ℕ) → 0 < step → Nearest least n step asked
unfolding nearest_up_to nearest_multiple
nearest least n step asked s = by (leb t n) refl
  where
    t : ℕ
    t = (asked - least + (step - 1) / 2) / step

    by : (b : Bool) → leb t n ≡ b → Nearest least n step asked
    by true e =
        let l = leb-true t n e in
        let m = half step (asked - least) s in
        record {
          times = t;
          is = min-eq_left (mul-le-mul_right step l);
          first = first_if least n step asked s t l (λ _. omega arith) (λ (p : 0 < t). omega (arith, mul-le-mul_right step p));
        }
    by false e =
        let l = mul-le-mul_right step (leb-false t n e) in
        let m = half step (asked - least) s in
        record {
          times = n;
          is = min-eq_right (omega arith);
          first = first_if least n step asked s n (omega arith) (λ p. absurd (omega arith)) (λ _. omega arith);
        }
