-- A top moved to an even distance from the bounds' top: the last such place up to it, and between the two. Assumes nothing.
use Prim.Native.Nat.{ℕ, ◌+◌, ◌-◌, ◌%◌, ◌≤◌}
use mathlib.Core.Path.{◌≡◌, sym, ap, ◌∙◌}
use mathlib.Core.Bool.{true}
use native.Mathlib.Omega.{arith}
use native.Mathlib.Nat.{add-zero}
use lib.IntN.{ℤ, pos, ◌+ℤ◌, ◌-ℤ◌, +ℤ_assoc, +ℤ_comm, +ℤ-neg_ℤ_cancel, pos-+ℤ-pos}
use lib.Signed.{le_z}
use Rattle.wire_signed.specs.Signed.{above, distance}
use Rattle.wire_signed.proofs.Integers.{under, above_sum, gap, reach, distance_counts}
use Rattle.crop_rules.specs.Crop.{clamp_z, even_down, fields_apart, LastEven}
use Rattle.crop_rules.proofs.Counts.{le_counts, counts_le, same_count}
use Rattle.crop_rules.proofs.Clamping.{Counted, clamp_count, clamp_from}

-- ---- an even number of lines

even_even : (n : ℕ) → even_down n % 2 ≡ 0
unfolding even_down
even_even n = omega arith

even_below : (n : ℕ) → even_down n ≤ n
unfolding even_down
even_below n = omega arith

even_last : (m n : ℕ) → m % 2 ≡ 0 → m ≤ n → m ≤ even_down n
unfolding even_down
even_last m n e h = omega arith

even_stays : (n : ℕ) → n % 2 ≡ 0 → even_down n ≡ n
unfolding even_down
even_stays n e = omega arith

the_whole : (n : ℕ) → n - n % 2 + n % 2 ≡ n
the_whole n = omega arith

-- of the two differences that make a distance
even_up_law : (a b : ℕ) → ((a - b) + (b - a)) % 2 ≡ 0 → (b - a) % 2 ≡ 0
even_up_law a b e = omega arith

-- ---- a place at an even distance

-- so many lines further down
further : (k n : ℕ) (x : ℤ) → under x ≤ k → Counted k (x +ℤ pos n) (above k x + n)
unfolding above
further k n x h = let s = simp add-zero at (above_sum k 0 x (pos n) h (omega arith)) in record { count = s.0 ∙ omega arith; held = s.1 }

module _ (start at : ℤ) (down : le_z start at ≡ true) where
  -- counted from -k, its distance from the start is made even
  apart_count : (k : ℕ) → under start ≤ k → under at ≤ k → Counted k (fields_apart start at) (above k start + even_down (above k at - above k start))
  unfolding fields_apart
  apart_count k hs ha =
      let l = le_counts k start at hs ha down in
      let d : distance start at ≡ above k at - above k start = omega (arith, distance_counts k start at hs ha) in
      rw d (further k (even_down (above k at - above k start)) start hs)

  -- it is that far down from the start
  from_start : at ≡ start +ℤ pos (distance start at)
  from_start =
      let k = under start + under at in
      let hs : under start ≤ k = omega arith in
      let ha : under at ≤ k = omega arith in
      let l = le_counts k start at hs ha down in
      let d : above 0 (at -ℤ start) ≡ distance start at = omega (arith, gap k at start ha hs, distance_counts k start at hs ha) in
      reach start at down ∙ ap (λ (n : ℕ). start +ℤ pos n) d

  -- it is the last place up to here at an even distance from the start
  pub apart_last : LastEven start at (fields_apart start at)
  apart_last =
      let k = under start + under at in
      let hs : under start ≤ k = omega arith in
      let ha : under at ≤ k = omega arith in
      let c = apart_count k hs ha in
      let n = above k at - above k start in
      let l = le_counts k start at hs ha down in
      let d : distance start (fields_apart start at) ≡ even_down n = omega (arith, distance_counts k start (fields_apart start at) hs c.held, c.count) in
      record {
        even = rw d (even_even n);
        up_to = counts_le k (fields_apart start at) at c.held ha (omega (arith, c.count, even_below n));
        last = last;
      }
    where
      -- one before the start is before all of them, and one after it is not further down than the last
      last : (y : ℤ) → distance start y % 2 ≡ 0 → le_z y at ≡ true → le_z y (fields_apart start at) ≡ true
      last y e h =
          let k = under start + under at + under y in
          let hs : under start ≤ k = omega arith in
          let ha : under at ≤ k = omega arith in
          let hy : under y ≤ k = omega arith in
          let c = apart_count k hs ha in
          let l = le_counts k y at hy ha h in
          let d = rw (distance_counts k start y hs hy) at e in
          counts_le k y (fields_apart start at) hy c.held (omega (arith, c.count, even_last (above k y - above k start) (above k at - above k start) (even_up_law (above k start) (above k y) d) (omega arith)))

  -- it is not before the start
  pub apart_from : le_z start (fields_apart start at) ≡ true
  apart_from =
      let k = under start + under at in
      let hs : under start ≤ k = omega arith in
      let c = apart_count k hs (omega arith) in
      counts_le k start (fields_apart start at) hs c.held (omega (arith, c.count))

  -- a place at an even distance stays
  pub apart_stays : distance start at % 2 ≡ 0 → fields_apart start at ≡ at
  apart_stays e =
      let k = under start + under at in
      let hs : under start ≤ k = omega arith in
      let ha : under at ≤ k = omega arith in
      let c = apart_count k hs ha in
      let l = le_counts k start at hs ha down in
      let d = rw (distance_counts k start at hs ha) at e in
      same_count k (fields_apart start at) at c.held ha (omega (arith, c.count, even_stays (above k at - above k start) (even_up_law (above k start) (above k at) d)))

  -- as it is reckoned: the difference of the two is their distance, and its odd line is taken away
  pub gap_distance : at -ℤ start ≡ pos (distance start at)
  gap_distance = ap (λ (y : ℤ). y -ℤ start) (from_start ∙ +ℤ_comm start (pos (distance start at))) ∙ +ℤ-neg_ℤ_cancel (pos (distance start at)) start

  pub odd_line : at -ℤ pos (distance start at % 2) ≡ fields_apart start at
  unfolding fields_apart even_down
  odd_line =
      let d = distance start at in
      let whole = pos-+ℤ-pos (d - d % 2) (d % 2) ∙ ap pos (the_whole d) in
      ap (λ (y : ℤ). y -ℤ pos (d % 2)) (from_start ∙ ap (λ (y : ℤ). start +ℤ y) (sym whole) ∙ sym (+ℤ_assoc start (pos (d - d % 2)) (pos (d % 2))))
      ∙ +ℤ-neg_ℤ_cancel (start +ℤ pos (d - d % 2)) (pos (d % 2))

module _ (low high x : ℤ) where
  -- a number brought from low to high and then to an even distance from low: it is still there
  apart_kept : clamp_z low high (fields_apart low (clamp_z low high x)) ≡ fields_apart low (clamp_z low high x)
  apart_kept =
      let k = under low + under high + under x in
      let hl : under low ≤ k = omega arith in
      let hh : under high ≤ k = omega arith in
      let c = clamp_count low high x k hl hh (omega arith) in
      let p = apart_count low (clamp_z low high x) (clamp_from low high x) k hl c.held in
      let d = clamp_count low high (fields_apart low (clamp_z low high x)) k hl hh p.held in
      same_count k (clamp_z low high (fields_apart low (clamp_z low high x))) (fields_apart low (clamp_z low high x)) d.held p.held
      (omega (arith, c.count, p.count, d.count, even_below (above k (clamp_z low high x) - above k low)))

  -- twice is once, also where there is nothing from low to high
  pub apart_twice : fields_apart low (clamp_z low high (fields_apart low (clamp_z low high x))) ≡ fields_apart low (clamp_z low high x)
  apart_twice =
      let from = clamp_from low high x in
      rw apart_kept (apart_stays low (fields_apart low (clamp_z low high x)) (apart_from low (clamp_z low high x) from) (apart_last low (clamp_z low high x) from).even)
