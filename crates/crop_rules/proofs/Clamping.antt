-- What bringing a number into low..high means: it goes to the nearest one there, and twice is once. Assumes nothing.
use Prim.Native.Nat.{ℕ, ◌+◌, ◌-◌, min, ◌≤◌}
use mathlib.Core.Path.{◌≡◌, refl}
use mathlib.Core.Bool.{Bool, true, false, cond, ◌&&◌}
use native.Mathlib.Omega.{arith}
use lib.IntN.{ℤ}
use lib.Signed.{le_z}
use Rattle.wire_signed.specs.Signed.{above, distance}
use Rattle.wire_signed.proofs.Integers.{under, distance_counts}
use Rattle.sheet_rules.proofs.Truth.{both}
use Rattle.crop_rules.specs.Crop.{min_z, max_z, clamp_z, NearestOf}
use Rattle.crop_rules.proofs.Counts.{le_counts, gt_counts, counts_le, same_count}

-- x is not below -k, and it is n above -k
pub record Counted (k : ℕ) (x : ℤ) (n : ℕ) : Type 0 where
  pub count : above k x ≡ n
  pub held : under x ≤ k

module _ (k : ℕ) (x y : ℤ) (hx : under x ≤ k) (hy : under y ≤ k) where
  lesser : Counted k (min_z x y) (min (above k x) (above k y))
  unfolding min_z
  lesser = by (le_z y x) refl
    where
      by : (t : Bool) → le_z y x ≡ t → Counted k (cond t y x) (min (above k x) (above k y))
      by true e = record { count = omega (arith, le_counts k y x hy hx e); held = hy }
      by false e = record { count = omega (arith, gt_counts k y x hy hx e); held = hx }

  greater : Counted k (max_z x y) (above k x + (above k y - above k x))
  unfolding max_z
  greater = by (le_z x y) refl
    where
      by : (t : Bool) → le_z x y ≡ t → Counted k (cond t y x) (above k x + (above k y - above k x))
      by true e = record { count = omega (arith, le_counts k x y hx hy e); held = hy }
      by false e = record { count = omega (arith, gt_counts k x y hx hy e); held = hx }

module _ (low high x : ℤ) where
  -- counted from -k it is the lesser of high and x, raised to low
  pub clamp_count : (k : ℕ) → under low ≤ k → under high ≤ k → under x ≤ k
      → Counted k (clamp_z low high x) (above k low + (min (above k high) (above k x) - above k low))
  unfolding clamp_z
  clamp_count k hl hh hx =
      let m = lesser k high x hh hx in
      let g = greater k low (min_z high x) hl m.held in
      record { count = omega arith; held = g.held }

  -- it is never below low
  pub clamp_from : le_z low (clamp_z low high x) ≡ true
  clamp_from =
      let k = under low + under high + under x in
      let hl : under low ≤ k = omega arith in
      let c = clamp_count k hl (omega arith) (omega arith) in
      counts_le k low (clamp_z low high x) hl c.held (omega arith)

  -- it is there, if anything is
  in_range : le_z low high ≡ true → (le_z low (clamp_z low high x) && le_z (clamp_z low high x) high) ≡ true
  in_range e =
      let k = under low + under high + under x in
      let hl : under low ≤ k = omega arith in
      let hh : under high ≤ k = omega arith in
      let c = clamp_count k hl hh (omega arith) in
      let l = le_counts k low high hl hh e in
      rw (counts_le k low (clamp_z low high x) hl c.held (omega arith), counts_le k (clamp_z low high x) high c.held hh (omega arith))

  -- nothing there is nearer, and nothing else is as near
  near : (y : ℤ) → (le_z low y && le_z y high) ≡ true
      → (distance (clamp_z low high x) x ≤ distance y x) × (distance y x ≤ distance (clamp_z low high x) x → y ≡ clamp_z low high x)
  near y there =
      let k = under low + under high + under x + under y in
      let hl : under low ≤ k = omega arith in
      let hh : under high ≤ k = omega arith in
      let hx : under x ≤ k = omega arith in
      let hy : under y ≤ k = omega arith in
      let c = clamp_count k hl hh hx in
      let t = both (le_z low y) (le_z y high) there in
      let l = le_counts k low y hl hy t.0 in
      let h = le_counts k y high hy hh t.1 in
      let d = distance_counts k (clamp_z low high x) x c.held hx in
      let e = distance_counts k y x hy hx in
      (rw (d, e) (omega arith), λ g. let n = rw (d, e) at g in same_count k y (clamp_z low high x) hy c.held (omega arith))

  -- a number goes to the nearest one from low to high
  pub clamp_nearest : le_z low high ≡ true → NearestOf (λ y. le_z low y && le_z y high) x (clamp_z low high x)
  clamp_nearest e = record { passes = in_range e; least = λ y h. (near y h).0; alone = λ y h. (near y h).1 }

  -- what is there stays
  pub clamp_stays : le_z low x ≡ true → le_z x high ≡ true → clamp_z low high x ≡ x
  unfolding clamp_z min_z max_z
  clamp_stays e f = rw (f, e)

-- twice is once, also where there is nothing from low to high
pub clamp_twice : (low high x : ℤ) → clamp_z low high (clamp_z low high x) ≡ clamp_z low high x
clamp_twice low high x =
    let k = under low + under high + under x in
    let hl : under low ≤ k = omega arith in
    let hh : under high ≤ k = omega arith in
    let c = clamp_count low high x k hl hh (omega arith) in
    let d = clamp_count low high (clamp_z low high x) k hl hh c.held in
    same_count k (clamp_z low high (clamp_z low high x)) (clamp_z low high x) d.held c.held (omega arith)
