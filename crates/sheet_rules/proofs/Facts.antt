-- What the rules of a good sheet say of its fields, for the layers above. Assumes nothing.
use Prim.Native.Nat.{ℕ, ◌+◌, ◌-◌, ◌*◌, ◌/◌, ◌%◌, ◌≤◌, ◌<◌}
use mathlib.Core.Path.{◌≡◌, refl, sym, ap}
use mathlib.Core.Logic.{⊎_elim}
use mathlib.Core.Bool.{Bool, true, false, not, ◌&&◌, ◌||◌, false≢true}
use mathlib.Core.List.{List}
use native.Mathlib.Omega.{arith}
use native.Mathlib.Nat.{div-add-mod'}
use borrow.Author.Tests.{leb-true, eqb-true, eq-eqb, ne_eqb}
use lib.Dec.{eqb}
use lib.ListN.{length, get_or}
use lib.IntN.{ℤ, pos, negsuc, ◌+ℤ◌, ◌-ℤ◌}
use lib.Signed.{le_z}
use Rattle.wire_signed.specs.Signed.{above}
use Rattle.wire_signed.proofs.Integers.{reach}
use Rattle.sheet_geometry.specs.declared.Range.{Range}
use Rattle.sheet_records.specs.declared.Limits.{Limits}
use Rattle.sheet_contents.specs.Contents.{identity_at, identity_count, formats_at, format_count, geometry_at, geometry_count, controls_at, control_count}
use Rattle.sheet_rules.specs.Rules.{has_zero, contents_ok, range_ok, alignment_ok, bound_ok, inside_ok, on_grid, grid_ok, exactly, limits_ok}
use Rattle.sheet_rules.proofs.Truth.{both, either, any_at}

-- ---- the table of contents

-- counts and places of the bodies, and the sheet's length
pub record Contents (s : List ℕ) : Type 0 where
  pub identity_at_law : identity_at s ≡ 32
  pub identity_one : identity_count s ≡ 1
  pub formats_at_law : formats_at s ≡ 116
  pub formats_some : 1 ≤ format_count s
  pub formats_most : format_count s ≤ 9
  pub geometry_at_law : geometry_at s ≡ 116 + 36 * format_count s
  pub geometry_one : geometry_count s ≡ 1
  pub controls_at_law : controls_at s ≡ 184 + 36 * format_count s
  pub controls_most : control_count s ≤ 32
  pub long : length s ≡ 184 + 36 * format_count s + 68 * control_count s

pub contents_of : (s : List ℕ) → contents_ok s ≡ true → Contents s
unfolding contents_ok
contents_of s e =
    let t9 = both _ _ e in
    let t8 = both _ _ t9.0 in
    let t7 = both _ _ t8.0 in
    let t6 = both _ _ t7.0 in
    let t5 = both _ _ t6.0 in
    let t4 = both _ _ t5.0 in
    let t3 = both _ _ t4.0 in
    let t2 = both _ _ t3.0 in
    let t1 = both _ _ t2.0 in
    record {
      identity_at_law = eqb-true (identity_at s) 32 t1.0;
      identity_one = eqb-true (identity_count s) 1 t1.1;
      formats_at_law = eqb-true (formats_at s) 116 t2.1;
      formats_some = leb-true 1 (format_count s) t3.1;
      formats_most = leb-true (format_count s) 9 t4.1;
      geometry_at_law = eqb-true (geometry_at s) (116 + 36 * format_count s) t5.1;
      geometry_one = eqb-true (geometry_count s) 1 t6.1;
      controls_at_law = eqb-true (controls_at s) (184 + 36 * format_count s) t7.1;
      controls_most = leb-true (control_count s) 32 t8.1;
      long = eqb-true (length s) (184 + 36 * format_count s + 68 * control_count s) t9.1;
    }

-- ---- numbers from a least one by a step

-- greatest is least and a number of steps
pub record Sizes (r : Range) : Type 0 where
  pub low : 2 ≤ r.least
  pub high : r.greatest ≤ 8192
  pub order : r.least ≤ r.greatest
  pub even : r.least % 2 ≡ 0
  pub even_step : r.step % 2 ≡ 0
  pub stride : 2 ≤ r.step
  pub steps : ℕ
  pub whole : r.greatest ≡ r.least + steps * r.step

pub sizes_of_law : (r : Range) → range_ok r ≡ true → Sizes r
unfolding range_ok
sizes_of_law r e =
    let t6 = both _ _ e in
    let t5 = both _ _ t6.0 in
    let t4 = both _ _ t5.0 in
    let t3 = both _ _ t4.0 in
    let t2 = both _ _ t3.0 in
    let t1 = both _ _ t2.0 in
    let o = leb-true r.least r.greatest t2.1 in
    record {
      low = leb-true 2 r.least t1.0;
      high = leb-true r.greatest 8192 t1.1;
      order = o;
      even = eqb-true (r.least % 2) 0 t3.1;
      even_step = eqb-true (r.step % 2) 0 t4.1;
      stride = leb-true 2 r.step t5.1;
      steps = (r.greatest - r.least) / r.step;
      whole = omega (arith, div-add-mod' (r.greatest - r.least) r.step, eqb-true ((r.greatest - r.least) % r.step) 0 t6.1);
    }

-- an alignment is even, 2 to 64, and divides 64
pub record Alignment (a : ℕ) : Type 0 where
  pub low : 2 ≤ a
  pub high : a ≤ 64
  pub even : a % 2 ≡ 0
  pub times : ℕ
  pub whole : times * a ≡ 64

pub alignment_of : (a : ℕ) → alignment_ok a ≡ true → Alignment a
unfolding alignment_ok
alignment_of a e =
    ⊎_elim (λ e5.
    ⊎_elim (λ e4.
    ⊎_elim (λ e3.
    ⊎_elim (λ e2.
    ⊎_elim (λ e1. is 2 32 (eqb-true a 2 e1) refl refl (omega arith) (omega arith)) (λ e1. is 4 16 (eqb-true a 4 e1) refl refl (omega arith) (omega arith)) (either _ _ e2))
    (λ e2. is 8 8 (eqb-true a 8 e2) refl refl (omega arith) (omega arith)) (either _ _ e3))
    (λ e3. is 16 4 (eqb-true a 16 e3) refl refl (omega arith) (omega arith)) (either _ _ e4))
    (λ e4. is 32 2 (eqb-true a 32 e4) refl refl (omega arith) (omega arith)) (either _ _ e5))
    (λ e5. is 64 1 (eqb-true a 64 e5) refl refl (omega arith) (omega arith)) (either _ _ e)
  where
    is : (n m : ℕ) → a ≡ n → m * n ≡ 64 → n % 2 ≡ 0 → 2 ≤ n → n ≤ 64 → Alignment a
    is n m q w v l h = rw q (record { low = l; high = h; even = v; times = m; whole = w })

-- ---- crop: one direction of the bounds, and of a rectangle inside them

pub record Bound (start size : ℤ) : Type 0 where
  pub from : le_z (negsuc 32767) start ≡ true
  pub to : le_z start (pos 32767) ≡ true
  pub some : le_z (pos 1) size ≡ true
  pub most : le_z size (pos 8192) ≡ true

pub bound_of : (start size : ℤ) → bound_ok start size ≡ true → Bound start size
unfolding bound_ok
bound_of start size e =
    let t3 = both (le_z (negsuc 32767) start && le_z start (pos 32767) && le_z (pos 1) size) (le_z size (pos 8192)) e in
    let t2 = both (le_z (negsuc 32767) start && le_z start (pos 32767)) (le_z (pos 1) size) t3.0 in
    let t1 = both (le_z (negsuc 32767) start) (le_z start (pos 32767)) t2.0 in
    record { from = t1.0; to = t1.1; some = t2.1; most = t3.1 }

pub record Inside (start size at long : ℤ) : Type 0 where
  pub starts : le_z start at ≡ true
  pub some : le_z (pos 1) long ≡ true
  pub ends : le_z (at +ℤ long) (start +ℤ size) ≡ true

pub inside_of : (start size at long : ℤ) → inside_ok start size at long ≡ true → Inside start size at long
unfolding inside_ok
inside_of start size at long e =
    let t2 = both (le_z start at && le_z (pos 1) long) (le_z (at +ℤ long) (start +ℤ size)) e in
    let t1 = both (le_z start at) (le_z (pos 1) long) t2.0 in
    record { starts = t1.0; some = t1.1; ends = t2.1 }

-- ---- text: a zero byte

pub record Ended (t : List ℕ) : Type 0 where
  pub at : ℕ
  pub within : at < length t
  pub zero_there : get_or t at 0 ≡ 0

pub ended_of : (t : List ℕ) → has_zero t ≡ true → Ended t
unfolding has_zero
ended_of t e =
    let r = any_at (length t) (λ j. eqb (get_or t j 0) 0) e in
    record { at = r.0; within = r.1; zero_there = eqb-true (get_or t r.0 0) 0 r.2 }

-- ---- the numbers of a control

-- what lies on a grid is the least number and some steps
pub on_grid_of : (least step value : ℤ) → on_grid least step value ≡ true
    → (le_z least value ≡ true) × ((n : ℕ) × (value ≡ least +ℤ pos (n * above 0 step)))
unfolding on_grid
on_grid_of least step value e =
    let t = both (le_z least value) (eqb (above 0 (value -ℤ least) % above 0 step) 0) e in
    let m = eqb-true (above 0 (value -ℤ least) % above 0 step) 0 t.1 in
    let d = div-add-mod' (above 0 (value -ℤ least)) (above 0 step) in
    let q : above 0 (value -ℤ least) / above 0 step * above 0 step ≡ above 0 (value -ℤ least) = omega arith in
    (t.0, (above 0 (value -ℤ least) / above 0 step, rw q (reach least value t.0)))

-- the maximum and the default are both reached from the minimum by steps
pub record Grid (l : Limits) : Type 0 where
  pub stride : le_z (pos 1) l.step ≡ true
  pub order : le_z l.minimum l.maximum ≡ true
  pub steps : ℕ
  pub whole : l.maximum ≡ l.minimum +ℤ pos (steps * above 0 l.step)
  pub from : le_z l.minimum l.initial ≡ true
  pub to : le_z l.initial l.maximum ≡ true
  pub place : ℕ
  pub placed : l.initial ≡ l.minimum +ℤ pos (place * above 0 l.step)

pub grid_of : (l : Limits) → grid_ok l ≡ true → Grid l
unfolding grid_ok
grid_of l e =
    let t3 = both (le_z (pos 1) l.step && on_grid l.minimum l.step l.maximum && on_grid l.minimum l.step l.initial) (le_z l.initial l.maximum) e in
    let t2 = both (le_z (pos 1) l.step && on_grid l.minimum l.step l.maximum) (on_grid l.minimum l.step l.initial) t3.0 in
    let t1 = both (le_z (pos 1) l.step) (on_grid l.minimum l.step l.maximum) t2.0 in
    let top = on_grid_of l.minimum l.step l.maximum t1.1 in
    let mid = on_grid_of l.minimum l.step l.initial t2.1 in
    record {
      stride = t1.0;
      order = top.0;
      steps = top.1.0;
      whole = top.1.1;
      from = mid.0;
      to = t3.1;
      place = mid.1.0;
      placed = mid.1.1;
    }

exactly_is : (n : ℕ) (z : ℤ) → exactly n z ≡ true → z ≡ pos n
unfolding exactly
exactly_is n (pos m) e = ap pos (eqb-true m n e)
exactly_is n (negsuc m) e = absurd (false≢true e)

-- a button is free, the others have a grid; a boolean and a menu have theirs fixed
pub record Numbers (kind : ℕ) (l : Limits) : Type 0 where
  pub grid : (kind ≡ 4 → ⊥) → Grid l
  pub boolean : kind ≡ 2 → (l.minimum ≡ pos 0) × (l.maximum ≡ pos 1) × (l.step ≡ pos 1)
  pub menu : kind ≡ 3 → (l.minimum ≡ pos 0) × (l.step ≡ pos 1)

-- one of two tests passed, and the first did not
second : (a b : Bool) → (a || b) ≡ true → a ≡ false → b ≡ true
second true b e f = absurd (false≢true (sym f))
second false b e f = e

-- a rule for one kind only, at that kind
for_kind : (kind n : ℕ) (b : Bool) → (not (eqb kind n) || b) ≡ true → kind ≡ n → b ≡ true
for_kind kind n b e q = rw (eq-eqb kind n q) at e

pub numbers_of : (kind : ℕ) (l : Limits) → limits_ok kind l ≡ true → Numbers kind l
unfolding limits_ok
numbers_of kind l e =
    record {
      grid = λ n. grid_of l (parts (ne_eqb kind 4 n)).0;
      boolean = λ q.
          let t = for_kind kind 2 _ (parts (ne_eqb kind 4 (λ f. omega arith))).1 q in
          let u = both (exactly 0 l.minimum && exactly 1 l.maximum) (exactly 1 l.step) t in
          let v = both (exactly 0 l.minimum) (exactly 1 l.maximum) u.0 in
          (exactly_is 0 l.minimum v.0, exactly_is 1 l.maximum v.1, exactly_is 1 l.step u.1);
      menu = λ q.
          let t = for_kind kind 3 _ (parts (ne_eqb kind 4 (λ f. omega arith))).2 q in
          let u = both (exactly 0 l.minimum) (exactly 1 l.step) t in
          (exactly_is 0 l.minimum u.0, exactly_is 1 l.step u.1);
    }
  where
    as_boolean : Bool
    as_boolean = not (eqb kind 2) || (exactly 0 l.minimum && exactly 1 l.maximum && exactly 1 l.step)

    as_menu : Bool
    as_menu = not (eqb kind 3) || (exactly 0 l.minimum && exactly 1 l.step)

    parts : eqb kind 4 ≡ false → (grid_ok l ≡ true) × (as_boolean ≡ true) × (as_menu ≡ true)
    parts f =
        let t = both (grid_ok l && as_boolean) as_menu (second (eqb kind 4) (grid_ok l && as_boolean && as_menu) e f) in
        let u = both (grid_ok l) as_boolean t.0 in
        (u.0, u.1, t.1)
