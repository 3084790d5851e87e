-- What the look-ups find on a good sheet. Assumes nothing.
use Prim.Native.Nat.{ℕ, ◌≤◌, ◌<◌}
use mathlib.Core.Path.{◌≡◌, refl, sym, ◌∙◌}
use mathlib.Core.Bool.{Bool, true, false, cond, false≢true}
use mathlib.Core.List.{List}
use native.Mathlib.Nat.{min-eq_left}
use native.Mathlib.Omega.{arith}
use borrow.Author.Tests.{eqb-true, eq-eqb, ltb-true, ltb-false, lt-ltb}
use lib.Dec.{eqb, ltb}
use Rattle.std.specs.Prelude.{Some, None}
use Rattle.std.proofs.lemmas.Option.{same_Some, none-some}
use Rattle.sheet_contents.specs.Contents.{control_count}
use Rattle.sheet_records.specs.Records.{control_id}
use Rattle.sheet_rules.specs.Rules.{good_sheet}
use Rattle.sheet_rules.proofs.Good.{contents, ids_rise}
use Rattle.control_place_rules.specs.First.{first_below}
use Rattle.control_place_rules.specs.Find.{present, found_place, place_of, place_above}
use Rattle.control_place_rules.proofs.Search.{first_passes, first_fails}

-- a look-up that answers a place answers one of the controls
pub found_some : (s : List ℕ) (p k : ℕ) → found_place s p ≡ Some k → (p ≡ k) × (p < present s)
unfolding found_place
found_some s p k e = by (ltb p (present s)) refl e
  where
    by : (t : Bool) → ltb p (present s) ≡ t → cond t (Some p) None ≡ Some k → (p ≡ k) × (p < present s)
    by true l q = (same_Some p k q, ltb-true p (present s) l)
    by false l q = absurd (none-some k q)

-- a look-up that answers none has come to their end
pub found_none : (s : List ℕ) (p : ℕ) → found_place s p ≡ None → present s ≤ p
unfolding found_place
found_none s p e = by (ltb p (present s)) refl e
  where
    by : (t : Bool) → ltb p (present s) ≡ t → cond t (Some p) None ≡ None → present s ≤ p
    by true l q = absurd (none-some p (sym q))
    by false l q = ltb-false p (present s) l

-- what is found has the id, on any sheet
pub place_has_id : (s : List ℕ) (id : ℕ) → place_of s id < present s → control_id s (place_of s id) ≡ id
unfolding place_of
place_has_id s id h =
    eqb-true (control_id s (first_below (λ k. eqb (control_id s k) id) (present s))) id (first_passes (λ k. eqb (control_id s k) id) (present s) h)

-- what is found by bit 31 has a higher id, on any sheet
pub above_is_higher : (s : List ℕ) (id : ℕ) → place_above s id < present s → id < control_id s (place_above s id)
unfolding place_above
above_is_higher s id h =
    ltb-true id (control_id s (first_below (λ k. ltb id (control_id s k)) (present s))) (first_passes (λ k. ltb id (control_id s k)) (present s) h)

-- a search does not pass over a number that passes
not_past : (p : ℕ → Bool) (n k : ℕ) → p k ≡ true → first_below p n ≤ k
not_past p n k e = by (ltb k (first_below p n)) refl
  where
    by : (t : Bool) → ltb k (first_below p n) ≡ t → first_below p n ≤ k
    by true l = absurd (false≢true (sym (first_fails p n k (ltb-true k (first_below p n) l)) ∙ e))
    by false l = ltb-false k (first_below p n) l

place_most : (s : List ℕ) (id k : ℕ) → control_id s k ≡ id → place_of s id ≤ k
unfolding place_of
place_most s id k e = not_past (λ i. eqb (control_id s i) id) (present s) k (eq-eqb (control_id s k) id e)

above_most : (s : List ℕ) (id k : ℕ) → id < control_id s k → place_above s id ≤ k
unfolding place_above
above_most s id k l = not_past (λ i. ltb id (control_id s i)) (present s) k (lt-ltb id (control_id s k) l)

module _ (s : List ℕ) (good : good_sheet s ≡ true) where
  -- all of the sheet's controls are looked at
  pub present_all : present s ≡ control_count s
  unfolding present
  present_all = min-eq_left (contents s good).controls_most

  -- two controls with one id are one control
  pub ids_distinct : (j k : ℕ) → j < control_count s → k < control_count s → control_id s j ≡ control_id s k → j ≡ k
  ids_distinct j k hj hk e = by (ltb j k) refl (ltb k j) refl
    where
      by : (t : Bool) → ltb j k ≡ t → (u : Bool) → ltb k j ≡ u → j ≡ k
      by true l u m = absurd (omega (arith, ids_rise s good j k (ltb-true j k l) hk))
      by false l true m = absurd (omega (arith, ids_rise s good k j (ltb-true k j m) hj))
      by false l false m = omega (arith, ltb-false j k l, ltb-false k j m)

  -- a control is found by its id
  pub found : (k : ℕ) → k < control_count s → place_of s (control_id s k) ≡ k
  found k h =
      let w : place_of s (control_id s k) < present s = omega (arith, present_all, place_most s (control_id s k) k refl) in
      ids_distinct (place_of s (control_id s k)) k (omega (arith, present_all)) h (place_has_id s (control_id s k) w)

  -- no control between the id asked for and the one found
  pub next_higher : (id k : ℕ) → k < control_count s → id < control_id s k → control_id s (place_above s id) ≤ control_id s k
  next_higher id k h l = by (ltb (place_above s id) k) refl
    where
      m : place_above s id ≤ k
      m = above_most s id k l

      by : (t : Bool) → ltb (place_above s id) k ≡ t → control_id s (place_above s id) ≤ control_id s k
      by true u = omega (arith, ids_rise s good (place_above s id) k (ltb-true (place_above s id) k u) h)
      by false u = let q : place_above s id ≡ k = omega (arith, m, ltb-false (place_above s id) k u) in rw q (omega arith)
