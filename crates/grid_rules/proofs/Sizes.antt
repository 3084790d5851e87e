-- What the nearest size is, of every grid whose greatest size is n steps up from the least, for every size asked. Assumes nothing.
use Prim.Native.Nat.{ℕ, suc, ◌+◌, ◌-◌, ◌*◌, ◌/◌, ◌%◌, ◌≤◌, ◌<◌}
use mathlib.Core.Path.{◌≡◌, sym, ap, ◌∙◌}
use native.Mathlib.Omega.{arith}
use native.Mathlib.Nat.{mul-le-mul_right, mul-div_cancel, div-add-mod', mul-mod_left}
use lib.ListN.{length, get_or}
use Rattle.wire_read.proofs.Tabs.{tab_length, tab_get}
use Rattle.sheet_geometry.specs.declared.Range.{Range}
use Rattle.grid_rules.specs.Grid.{nearest_up_to, nearest_size, apart, size_at, sizes_of, walk_sizes}
use Rattle.grid_rules.proofs.Places.{First, walked, multiple_kept, Nearest, nearest}

-- it is the least one or more, of every grid
pub size_from : (r : Range) (asked : ℕ) → r.least ≤ nearest_size r asked
unfolding nearest_size
size_from r asked = omega arith

-- it is the greatest one or less, if that is not below the least
pub size_to : (r : Range) (asked : ℕ) → r.least ≤ r.greatest → nearest_size r asked ≤ r.greatest
unfolding nearest_size nearest_up_to
size_to r asked h = omega arith

-- a size of the grid is kept
pub size_kept : (r : Range) (k asked : ℕ) → 0 < r.step → asked ≡ size_at r k → asked ≤ r.greatest → nearest_size r asked ≡ asked
unfolding nearest_size nearest_up_to
size_kept r k asked some e h =
    let d : asked - r.least ≡ k * r.step = omega arith in
    rw (d, multiple_kept r.step k some) (omega arith)

-- an even number is two halves
halves : (x : ℕ) → x % 2 ≡ 0 → x ≡ x / 2 * 2
halves x e = omega (arith, div-add-mod' x 2)

module _ (r : Range) (n : ℕ) (some : 0 < r.step) (whole : r.greatest ≡ r.least + n * r.step) where
  -- the way from the least size to the greatest
  span : r.greatest - r.least ≡ n * r.step
  span = omega arith

  -- the list has n sizes and one more, each a step up from the one before it, and it ends with the greatest
  pub sizes_length : length (sizes_of r) ≡ suc n
  unfolding sizes_of
  sizes_length = rw (span, mul-div_cancel n some) (tab_length (size_at r) (suc n))

  pub sizes_at : (k : ℕ) → k ≤ n → get_or (sizes_of r) k 0 ≡ size_at r k
  unfolding sizes_of
  sizes_at k h = rw (span, mul-div_cancel n some) (tab_get (size_at r) (suc n) k 0 (omega arith))

  pub sizes_end : get_or (sizes_of r) n 0 ≡ r.greatest
  sizes_end = sizes_at n (omega arith) ∙ sym whole

  module _ (asked : ℕ) where
    -- how many steps up the answer is
    place : Nearest r.least n r.step asked
    place = nearest r.least n r.step asked some

    answer : nearest_size r asked ≡ size_at r place.times
    unfolding nearest_size
    answer = rw (span, place.is)

    -- it is on the grid
    pub size_on_grid : (k : ℕ) × (k ≤ n) × (nearest_size r asked ≡ size_at r k)
    size_on_grid = (place.times, place.first.within, answer)

    -- it is even if the least one and the step are
    pub size_even : r.least % 2 ≡ 0 → r.step % 2 ≡ 0 → nearest_size r asked % 2 ≡ 0
    size_even e f =
        let k = place.times in
        let p = ap (λ (x : ℕ). k * x) (halves r.step f) in
        let q : size_at r k ≡ (r.least / 2 + k * (r.step / 2)) * 2 = omega (arith, halves r.least e) in
        rw (answer, q) (mul-mod_left (r.least / 2 + k * (r.step / 2)) 2)

    -- no size of the grid is nearer
    pub size_nearest : (k : ℕ) → k ≤ n → apart (nearest_size r asked) asked ≤ apart (size_at r k) asked
    size_nearest k h = rw answer (place.first.near k h)

    -- it is the smaller of two that are as near
    pub size_tie : (k : ℕ) → k ≤ n → apart (nearest_size r asked) asked ≡ apart (size_at r k) asked → nearest_size r asked ≤ size_at r k
    size_tie k h e = rw answer (omega (arith, mul-le-mul_right r.step (place.first.tie k h (rw answer at e))))

    -- the walk of the whole grid stops at the first of the nearest
    pub walk_stops : (k : ℕ) → First (λ j. apart (size_at r j) asked) n k → walk_sizes r asked ≡ size_at r k
    unfolding walk_sizes sizes_of
    walk_stops k first = rw (span, mul-div_cancel n some) (walked (λ x. apart x asked) r.least (size_at r) n k first)

    -- so the nearest size is what it gives
    pub size_walked : nearest_size r asked ≡ walk_sizes r asked
    size_walked = answer ∙ sym (walk_stops place.times place.first)
