-- What the nearest value is, of every control whose maximum is n steps up from the minimum, for every value, also one out of range.
-- Assumes nothing.
use Prim.Native.Nat.{ℕ, ◌+◌, ◌*◌, ◌≤◌}
use mathlib.Core.Path.{◌≡◌, sym, ap, ◌∙◌}
use mathlib.Core.Bool.{true}
use native.Mathlib.Omega.{arith}
use native.Mathlib.Nat.{mul-le-mul_right, mul-div_cancel, min-le_right, min-eq_left}
use lib.IntN.{ℤ, pos, ◌+ℤ◌, ◌-ℤ◌, +ℤ_assoc}
use lib.Signed.{le_z}
use Rattle.wire_signed.specs.Signed.{above, distance}
use Rattle.wire_signed.proofs.Integers.{under, gap, reach}
use Rattle.sheet_records.specs.declared.Limits.{Limits}
use Rattle.grid_rules.specs.Grid.{nearest_multiple, nearest_up_to, nearest_value, value_at, values_of, walk_values}
use Rattle.grid_rules.proofs.Places.{First, first_same, walked, multiple_kept, nearest}
use Rattle.grid_rules.proofs.Counts.{up_order, up_from, up_gap, stride, apart_up, apart_from}

-- it is the minimum or more, of every grid
pub value_from : (l : Limits) (v : ℤ) → le_z l.minimum (nearest_value l v) ≡ true
unfolding nearest_value
value_from l v = up_from l.minimum _

-- it is the maximum or less, if that is not below the minimum
pub value_to : (l : Limits) (v : ℤ) → le_z l.minimum l.maximum ≡ true → le_z (nearest_value l v) l.maximum ≡ true
unfolding nearest_value nearest_up_to
value_to l v h =
    let top = above 0 (l.maximum -ℤ l.minimum) in
    let d = nearest_multiple (above 0 l.step) (above 0 (v -ℤ l.minimum)) in
    ap (le_z (nearest_value l v)) (reach l.minimum l.maximum h) ∙ up_order l.minimum _ _ (min-le_right d top)

-- a value of the grid is kept
pub value_kept : (l : Limits) (k : ℕ) (v : ℤ) → le_z (pos 1) l.step ≡ true → v ≡ value_at l k → le_z v l.maximum ≡ true → nearest_value l v ≡ v
unfolding nearest_value nearest_up_to
value_kept l k v some e h =
    let m = l.minimum in
    let b = k * above 0 l.step in
    let rest = above 0 (l.maximum -ℤ v) in
    let d : above 0 (v -ℤ m) ≡ b = rw e (up_gap m b) in
    let q : l.maximum ≡ m +ℤ pos (b + rest) = reach v l.maximum h ∙ ap (λ (z : ℤ). z +ℤ pos rest) e ∙ +ℤ_assoc m (pos b) (pos rest) in
    let t : above 0 (l.maximum -ℤ m) ≡ b + rest = ap (λ (z : ℤ). above 0 (z -ℤ m)) q ∙ up_gap m (b + rest) in
    let u : b ≤ b + rest = omega arith in
    rw (d, t, multiple_kept (above 0 l.step) k (stride l.step some), min-eq_left u) (sym e)

module _ (l : Limits) (n : ℕ) (some : le_z (pos 1) l.step ≡ true) (whole : l.maximum ≡ l.minimum +ℤ pos (n * above 0 l.step)) where
  -- the way from the minimum to the maximum
  span : above 0 (l.maximum -ℤ l.minimum) ≡ n * above 0 l.step
  span = rw whole (up_gap l.minimum (n * above 0 l.step))

  -- how many steps up the answer is, and that this place is the first of the nearest
  record Placed (v : ℤ) : Type 0 where
    times : ℕ
    is : nearest_value l v ≡ value_at l times
    first : First (λ k. distance (value_at l k) v) n times

  module _ (v : ℤ) where
    placed : Placed v
    unfolding nearest_value
    placed =
        let m = l.minimum in
        let s = above 0 l.step in
        let k = under m + under v in
        let p = nearest (above k m) n s (above k v) (stride l.step some) in
        record {
          times = p.times;
          is = rw (span, gap k v m (omega arith) (omega arith), p.is);
          first = first_same _ _ n p.times (λ j. sym (apart_up k m v (j * s) (omega arith) (omega arith))) p.first;
        }

    -- it is on the grid
    pub value_on_grid : (k : ℕ) × (k ≤ n) × (nearest_value l v ≡ value_at l k)
    value_on_grid = (placed.times, placed.first.within, placed.is)

    -- no value of the grid is nearer
    pub value_nearest : (k : ℕ) → k ≤ n → distance (nearest_value l v) v ≤ distance (value_at l k) v
    value_nearest k h = rw placed.is (placed.first.near k h)

    -- of two that are as near it is the one nearer the minimum
    pub value_tie : (k : ℕ) → k ≤ n → distance (nearest_value l v) v ≡ distance (value_at l k) v
        → distance (nearest_value l v) l.minimum ≤ distance (value_at l k) l.minimum
    value_tie k h e =
        rw (placed.is, apart_from l.minimum (placed.times * above 0 l.step), apart_from l.minimum (k * above 0 l.step))
        (mul-le-mul_right (above 0 l.step) (placed.first.tie k h (rw placed.is at e)))

    -- it is what a walk of the whole grid gives
    pub value_walked : nearest_value l v ≡ walk_values l v
    unfolding walk_values values_of
    value_walked =
        rw (placed.is, span, mul-div_cancel n (stride l.step some)) (sym (walked (λ x. distance x v) l.minimum (value_at l) n placed.times placed.first))
