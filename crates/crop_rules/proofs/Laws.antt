-- The rectangle taken: inside good bounds, the nearest there but for its top, which is the last one up to the nearest that is at an even
-- distance from the bounds' top; the one asked if that is inside and so placed; the same if asked again. Assumes nothing.
use Prim.Native.Nat.{ℕ, ◌+◌, ◌%◌, ◌≤◌, ◌<◌, ◌^◌}
use mathlib.Core.Path.{◌≡◌, sym, ap, ◌∙◌}
use mathlib.Core.Bool.{Bool, true, ◌&&◌, and-true}
use mathlib.Core.List.{List}
use native.Mathlib.Omega.{arith}
use borrow.Author.Tests.{leb-true}
use lib.IntN.{ℤ, pos, negsuc, ◌+ℤ◌, ◌-ℤ◌, +ℤ_comm}
use lib.Signed.{mag, le_z}
use Rattle.wire_signed.specs.Signed.{above, distance}
use Rattle.wire_signed.proofs.Integers.{under, sums_order}
use Rattle.sheet_geometry.specs.Geometry.{crop_bounds, crop_default}
use Rattle.sheet_geometry.specs.declared.Rect.{Rect}
use Rattle.sheet_rules.specs.Rules.{inside_ok, bound_ok, bounds_ok, default_ok, good_sheet}
use Rattle.sheet_rules.proofs.Facts.{bound_of, inside_of}
use Rattle.sheet_rules.proofs.Good.{geometry}
use Rattle.sheet_rules.proofs.Truth.{both}
use Rattle.crop_rules.specs.Crop.{size_in, clamped_place, fields_apart, width_in, height_in, left_in, clamped_top, top_in, clamped, opening_crop, top_apart, LastEven, NearestOf}
use Rattle.crop_rules.proofs.Casts.{between}
use Rattle.crop_rules.proofs.Counts.{le_counts, counts_le, le_same, le_then, le_moved, ends}
use Rattle.crop_rules.proofs.Clamping.{clamp_from, clamp_nearest, clamp_stays, clamp_twice}
use Rattle.crop_rules.proofs.Fields.{apart_last, apart_from, apart_stays, apart_twice}

-- ---- one direction

-- the nearest by a test is the nearest by another with the same outcomes
same_test : (t u : ℤ → Bool) (x p : ℤ) → ((y : ℤ) → t y ≡ u y) → NearestOf u x p → NearestOf t x p
same_test t u x p e n =
    record {
      passes = e p ∙ n.passes;
      least = λ y h. n.least y (sym (e y) ∙ h);
      alone = λ y h. n.alone y (sym (e y) ∙ h);
    }

module _ (start size long : ℤ) where
  -- at least 1 long, it lies inside exactly from the bounds' start to the place where it ends with them
  room : le_z (pos 1) long ≡ true → (y : ℤ) → inside_ok start size y long ≡ (le_z start y && le_z y (start +ℤ (size -ℤ long)))
  unfolding inside_ok
  room e y = rw (e, and-true (le_z start y), ends start size long y)

  -- at most as long as the bounds, there is such a place
  some_place : le_z long size ≡ true → le_z start (start +ℤ (size -ℤ long)) ≡ true
  some_place e = rw (ends start size long start, +ℤ_comm start long, +ℤ_comm start size, ← le_moved long size start) e

  -- the place taken is the nearest inside
  place_nearest : (at : ℤ) → le_z (pos 1) long ≡ true → le_z long size ≡ true → NearestOf (λ y. inside_ok start size y long) at (clamped_place start size long at)
  unfolding clamped_place
  place_nearest at e f =
      same_test (λ y. inside_ok start size y long) (λ y. le_z start y && le_z y (start +ℤ (size -ℤ long))) at (clamped_place start size long at) (room e)
      (clamp_nearest start (start +ℤ (size -ℤ long)) at (some_place f))

  -- moved up to an even distance from the bounds' start, it is still inside
  place_apart : (at : ℤ) → inside_ok start size at long ≡ true → inside_ok start size (fields_apart start at) long ≡ true
  place_apart at inside =
      let i = inside_of start size at long inside in
      let p = fields_apart start at in
      let up = le_then p at (start +ℤ (size -ℤ long)) (apart_last start at i.starts).up_to (ends start size long at ∙ i.ends) in
      rw (room i.some p, apart_from start at i.starts, up)

-- what is inside keeps its size and its place
module _ (start size at long : ℤ) (inside : inside_ok start size at long ≡ true) where
  shorter : le_z long size ≡ true
  shorter =
      let i = inside_of start size at long inside in
      let k = under start + under size + under at + under long in
      let hs : under start ≤ k = omega arith in
      let hz : under size ≤ k = omega arith in
      let ha : under at ≤ k = omega arith in
      let hn : under long ≤ k = omega arith in
      let s = le_counts k start at hs ha i.starts in
      let z = leb-true (above k at + above k long) (above k start + above k size) (sym (sums_order k at long start size ha hn hs hz) ∙ i.ends) in
      counts_le k long size hn hz (omega arith)

  size_stays : size_in size long ≡ long
  unfolding size_in
  size_stays = clamp_stays (pos 1) size long (inside_of start size at long inside).some shorter

  -- 32 bits hold what is inside good bounds
  pub inside_fits : bound_ok start size ≡ true → (mag at < 2 ^ 31) × (mag long < 2 ^ 31)
  unfolding above
  inside_fits e =
      let b = bound_of start size e in
      let i = inside_of start size at long inside in
      let k = 32768 + under start + under size + under at + under long in
      let hs : under start ≤ k = omega arith in
      let hz : under size ≤ k = omega arith in
      let ha : under at ≤ k = omega arith in
      let hn : under long ≤ k = omega arith in
      let s = le_counts k start (pos 32767) hs (omega arith) b.to in
      let z = le_counts k size (pos 8192) hz (omega arith) b.most in
      let n = le_counts k (pos 1) long (omega arith) hn i.some in
      let l = leb-true (above k at + above k long) (above k start + above k size) (sym (sums_order k at long start size ha hn hs hz) ∙ i.ends) in
      let last : le_z at (pos 40958) ≡ true = counts_le k at (pos 40958) ha (omega arith) (omega arith) in (
        (between (negsuc 32767) at (pos 40958) (le_then (negsuc 32767) start at b.from i.starts) last (record { sfits = omega arith }) (record { sfits = omega arith })).sfits,
        (between (pos 1) long (pos 8192) i.some (le_then long size (pos 8192) shorter b.most) (record { sfits = omega arith }) (record { sfits = omega arith })).sfits,
      )

  place_stays : clamped_place start size long at ≡ at
  unfolding clamped_place
  place_stays =
      let i = inside_of start size at long inside in
      clamp_stays start (start +ℤ (size -ℤ long)) at i.starts (ends start size long at ∙ i.ends)

-- ---- the rectangle

module _ (b a : Rect) where
  -- the width taken is the one from 1 to that of the bounds nearest to the one asked
  pub nearest_width : le_z (pos 1) b.width ≡ true → NearestOf (λ y. le_z (pos 1) y && le_z y b.width) a.width (clamped b a).width
  unfolding clamped width_in size_in
  nearest_width e = clamp_nearest (pos 1) b.width a.width e

  -- so is the height
  pub nearest_height : le_z (pos 1) b.height ≡ true → NearestOf (λ y. le_z (pos 1) y && le_z y b.height) a.height (clamped b a).height
  unfolding clamped height_in size_in
  nearest_height e = clamp_nearest (pos 1) b.height a.height e

  -- the left taken is the one nearest to the one asked at which the width taken lies inside
  pub nearest_left : le_z (pos 1) b.width ≡ true → NearestOf (λ y. inside_ok b.left b.width y (clamped b a).width) a.left (clamped b a).left
  unfolding clamped left_in
  nearest_left e =
      let t = both (le_z (pos 1) (width_in b a)) (le_z (width_in b a) b.width) (nearest_width e).passes in
      place_nearest b.left b.width (width_in b a) a.left t.0 t.1

  -- so is the top before it is moved to an even distance
  pub nearest_clamped_top : le_z (pos 1) b.height ≡ true → NearestOf (λ y. inside_ok b.top b.height y (clamped b a).height) a.top (clamped_top b a)
  unfolding clamped clamped_top
  nearest_clamped_top e =
      let t = both (le_z (pos 1) (height_in b a)) (le_z (height_in b a) b.height) (nearest_height e).passes in
      place_nearest b.top b.height (height_in b a) a.top t.0 t.1

  -- it is never above the bounds' top
  top_from : le_z b.top (clamped_top b a) ≡ true
  unfolding clamped_top clamped_place
  top_from = clamp_from b.top (b.top +ℤ (b.height -ℤ height_in b a)) a.top

  -- the top taken is the last one up to there at an even distance from the bounds' top, in bad bounds too
  pub last_even_top : LastEven b.top (clamped_top b a) (clamped b a).top
  unfolding clamped top_in
  last_even_top = apart_last b.top (clamped_top b a) top_from

  -- the rectangle taken lies inside the bounds from left to right
  pub inside_across : le_z (pos 1) b.width ≡ true → inside_ok b.left b.width (clamped b a).left (clamped b a).width ≡ true
  inside_across e = (nearest_left e).passes

  -- and from top to bottom
  pub inside_down : le_z (pos 1) b.height ≡ true → inside_ok b.top b.height (clamped b a).top (clamped b a).height ≡ true
  unfolding clamped top_in
  inside_down e = place_apart b.top b.height (height_in b a) (clamped_top b a) (nearest_clamped_top e).passes

  -- in the bounds of a good sheet it passes the test that the default passed
  pub inside_both : bounds_ok b ≡ true → default_ok b (clamped b a) ≡ true
  unfolding bounds_ok default_ok
  inside_both e =
      let t = both (bound_ok b.left b.width) (bound_ok b.top b.height) e in
      rw (inside_across (bound_of b.left b.width t.0).some, inside_down (bound_of b.top b.height t.1).some)

  -- of a rectangle inside the bounds only the top is moved
  pub inside_taken : default_ok b a ≡ true → clamped b a ≡ top_apart b a
  unfolding clamped left_in top_in clamped_top width_in height_in default_ok
  inside_taken e =
      let t = both (inside_ok b.left b.width a.left a.width) (inside_ok b.top b.height a.top a.height) e in
      rw (
        size_stays b.left b.width a.left a.width t.0,
        size_stays b.top b.height a.top a.height t.1,
        place_stays b.left b.width a.left a.width t.0,
        place_stays b.top b.height a.top a.height t.1,
      )

  -- it is never above the bounds' top
  inside_from : default_ok b a ≡ true → le_z b.top a.top ≡ true
  unfolding default_ok
  inside_from e =
      let t = both (inside_ok b.left b.width a.left a.width) (inside_ok b.top b.height a.top a.height) e in
      (inside_of b.top b.height a.top a.height t.1).starts

  -- and never moved down
  pub inside_up : default_ok b a ≡ true → le_z (clamped b a).top a.top ≡ true
  inside_up e = ap (λ (r : Rect). le_z r.top a.top) (inside_taken e) ∙ (apart_last b.top a.top (inside_from e)).up_to

  -- one whose top is at an even distance from theirs is taken as it is
  pub unchanged : default_ok b a ≡ true → distance b.top a.top % 2 ≡ 0 → clamped b a ≡ a
  unchanged e even =
      inside_taken e ∙ ap (λ (y : ℤ). record { left = a.left; top = y; width = a.width; height = a.height }) (apart_stays b.top a.top (inside_from e) even)

  -- what was taken is taken again as it is, in bad bounds too
  pub twice : clamped b (clamped b a) ≡ clamped b a
  unfolding clamped left_in top_in clamped_top width_in height_in clamped_place size_in
  twice = simp (clamp_twice, apart_twice)

-- ---- of a good sheet

module _ (s : List ℕ) (good : good_sheet s ≡ true) where
  -- its bounds are good
  pub bounds_good : bounds_ok (crop_bounds s) ≡ true
  unfolding bounds_ok bound_ok
  bounds_good =
      let x = (geometry s good).across in
      let y = (geometry s good).down in
      rw (x.from, x.to, x.some, x.most, y.from, y.to, y.some, y.most)

  -- and lie inside themselves
  pub bounds_inside : default_ok (crop_bounds s) (crop_bounds s) ≡ true
  unfolding default_ok inside_ok
  bounds_inside =
      let b = crop_bounds s in
      rw (
        le_same b.left,
        (geometry s good).across.some,
        le_same (b.left +ℤ b.width),
        le_same b.top,
        (geometry s good).down.some,
        le_same (b.top +ℤ b.height),
      )

  -- so does its default
  pub default_inside : default_ok (crop_bounds s) (crop_default s) ≡ true
  unfolding default_ok inside_ok
  default_inside =
      let x = (geometry s good).inside_across in
      let y = (geometry s good).inside_down in
      rw (x.starts, x.some, x.ends, y.starts, y.some, y.ends)

  -- of which opening moves the top alone
  pub opening_taken : opening_crop s ≡ top_apart (crop_bounds s) (crop_default s)
  unfolding opening_crop
  opening_taken = inside_taken (crop_bounds s) (crop_default s) default_inside
