-- A good sheet, body by body: what the layers above may rely on. Assumes nothing.
use Prim.Native.Nat.{ℕ, zero, suc, ◌+◌, ◌-◌, ◌≤◌, ◌<◌}
use mathlib.Core.Path.{◌≡◌, refl, sym, ◌∙◌}
use mathlib.Core.Logic.{⊎_elim}
use mathlib.Core.Bool.{Bool, true, false, not, ◌&&◌, false≢true}
use mathlib.Core.List.{List}
use native.Mathlib.Omega.{arith}
use borrow.Author.Tests.{leb-true, ltb-true, ltb-false, eqb-true, eq-eqb}
use lib.Dec.{leb, ltb, eqb}
use lib.ListN.{length}
use Rattle.wire_read.specs.Words.{word_at}
use Rattle.sheet_contents.specs.Contents.{identity_at, format_count, format_at, control_count, driver_of, card_of, bus_of, control_at}
use Rattle.sheet_records.specs.Records.{format_code, format_description, control_id, control_kind, control_name, limits_of, control_flags}
use Rattle.sheet_geometry.specs.Geometry.{widths_of, heights_of, line_alignment, crop_bounds, crop_default, pixel_aspect}
use Rattle.sheet_rules.specs.Rules.{has_zero, contents_ok, identity_ok, known_code, new_code, format_ok, formats_ok, range_ok, alignment_ok, bound_ok, inside_ok, bounds_ok, default_ok, aspect_ok, geometry_ok, limits_ok, control_ok, rising_at, controls_ok, bodies_ok, good_sheet}
use Rattle.sheet_rules.proofs.Truth.{both, either, denied, all_at}
use Rattle.sheet_rules.proofs.Facts.{Contents, contents_of, Sizes, sizes_of_law, Alignment, alignment_of, Bound, bound_of, Inside, inside_of, Ended, ended_of, Numbers, numbers_of}

-- driver, card and bus end with a zero byte
pub record Identity (s : List ℕ) : Type 0 where
  pub driver : Ended (driver_of s)
  pub card : Ended (card_of s)
  pub bus : Ended (bus_of s)

-- format k: its code is one of the nine and no earlier format's
pub record Format (s : List ℕ) (k : ℕ) : Type 0 where
  pub known : known_code (format_code s k) ≡ true
  pub new : (j : ℕ) → j < k → format_code s j ≡ format_code s k → ⊥
  pub described : Ended (format_description s k)

pub record Geometry (s : List ℕ) : Type 0 where
  pub widths : Sizes (widths_of s)
  pub heights : Sizes (heights_of s)
  pub alignment : Alignment (line_alignment s)
  pub across : Bound (crop_bounds s).left (crop_bounds s).width
  pub down : Bound (crop_bounds s).top (crop_bounds s).height
  pub inside_across : Inside (crop_bounds s).left (crop_bounds s).width (crop_default s).left (crop_default s).width
  pub inside_down : Inside (crop_bounds s).top (crop_bounds s).height (crop_default s).top (crop_default s).height
  pub numerator : 0 < (pixel_aspect s).numerator
  pub denominator : 0 < (pixel_aspect s).denominator

-- control k by itself
pub record Controlled (s : List ℕ) (k : ℕ) : Type 0 where
  pub id : control_id s k < 2147483648
  pub some : 1 ≤ control_kind s k
  pub most : control_kind s k ≤ 4
  pub named : Ended (control_name s k)
  pub numbers : Numbers (control_kind s k) (limits_of s k)
  pub flags : control_flags s k ≤ 7
  pub reserved : (word_at s (control_at s k + 60) ≡ 0) × (word_at s (control_at s k + 64) ≡ 0)

format_of_law : (s : List ℕ) (k : ℕ) → format_ok s k ≡ true → Format s k
unfolding format_ok new_code
format_of_law s k e =
    let t2 = both (known_code (format_code s k) && new_code s k k) (has_zero (format_description s k)) e in
    let t1 = both (known_code (format_code s k)) (new_code s k k) t2.0 in
    record {
      known = t1.0;
      new = λ j h q.
          let d = denied (eqb (format_code s j) (format_code s k)) (all_at k (λ i. not (eqb (format_code s i) (format_code s k))) t1.1 j h) in
          absurd (false≢true (sym d ∙ eq-eqb (format_code s j) (format_code s k) q));
      described = ended_of (format_description s k) t2.1;
    }

geometry_of : (s : List ℕ) → geometry_ok s ≡ true → Geometry s
unfolding geometry_ok bounds_ok default_ok aspect_ok
geometry_of s e =
    let t5 = both _ (aspect_ok s) e in
    let t4 = both _ (default_ok (crop_bounds s) (crop_default s)) t5.0 in
    let t3 = both _ (bounds_ok (crop_bounds s)) t4.0 in
    let t2 = both _ (alignment_ok (line_alignment s)) t3.0 in
    let t1 = both (range_ok (widths_of s)) (range_ok (heights_of s)) t2.0 in
    let b = both (bound_ok (crop_bounds s).left (crop_bounds s).width) (bound_ok (crop_bounds s).top (crop_bounds s).height) t3.1 in
    let d = both (inside_ok (crop_bounds s).left (crop_bounds s).width (crop_default s).left (crop_default s).width)
    (inside_ok (crop_bounds s).top (crop_bounds s).height (crop_default s).top (crop_default s).height) t4.1 in
    let a = both (ltb 0 (pixel_aspect s).numerator) (ltb 0 (pixel_aspect s).denominator) t5.1 in
    record {
      widths = sizes_of_law (widths_of s) t1.0;
      heights = sizes_of_law (heights_of s) t1.1;
      alignment = alignment_of (line_alignment s) t2.1;
      across = bound_of (crop_bounds s).left (crop_bounds s).width b.0;
      down = bound_of (crop_bounds s).top (crop_bounds s).height b.1;
      inside_across = inside_of (crop_bounds s).left (crop_bounds s).width (crop_default s).left (crop_default s).width d.0;
      inside_down = inside_of (crop_bounds s).top (crop_bounds s).height (crop_default s).top (crop_default s).height d.1;
      numerator = ltb-true 0 (pixel_aspect s).numerator a.0;
      denominator = ltb-true 0 (pixel_aspect s).denominator a.1;
    }

controlled_of : (s : List ℕ) (k : ℕ) → control_ok s k ≡ true → Controlled s k
unfolding control_ok
controlled_of s k e =
    let t7 = both _ (eqb (word_at s (control_at s k + 64)) 0) e in
    let t6 = both _ (eqb (word_at s (control_at s k + 60)) 0) t7.0 in
    let t5 = both _ (leb (control_flags s k) 7) t6.0 in
    let t4 = both _ (limits_ok (control_kind s k) (limits_of s k)) t5.0 in
    let t3 = both _ (has_zero (control_name s k)) t4.0 in
    let t2 = both _ (leb (control_kind s k) 4) t3.0 in
    let t1 = both (ltb (control_id s k) 2147483648) (leb 1 (control_kind s k)) t2.0 in
    record {
      id = ltb-true (control_id s k) 2147483648 t1.0;
      some = leb-true 1 (control_kind s k) t1.1;
      most = leb-true (control_kind s k) 4 t2.1;
      named = ended_of (control_name s k) t3.1;
      numbers = numbers_of (control_kind s k) (limits_of s k) t4.1;
      flags = leb-true (control_flags s k) 7 t5.1;
      reserved = (eqb-true (word_at s (control_at s k + 60)) 0 t6.1, eqb-true (word_at s (control_at s k + 64)) 0 t7.1);
    }

-- the id of a control is above that of the one before it
next_id : (s : List ℕ) (k : ℕ) → rising_at s (suc k) ≡ true → control_id s k < control_id s (suc k)
unfolding rising_at
next_id s k e =
    let q : suc k - 1 ≡ k = omega arith in
    ⊎_elim (λ z. absurd (omega (arith, eqb-true (suc k) 0 z)))
    (λ l. rw q at (ltb-true (control_id s (suc k - 1)) (control_id s (suc k)) l))
    (either (eqb (suc k) 0) (ltb (control_id s (suc k - 1)) (control_id s (suc k))) e)

-- from step to step, so for any two
climb : (s : List ℕ) (n : ℕ) → ((k : ℕ) → suc k < n → control_id s k < control_id s (suc k)) → (j d : ℕ) → j + suc d < n → control_id s j < control_id s (j + suc d)
climb s n f j zero h = let q : j + suc zero ≡ suc j = omega arith in rw q (f j (omega arith))
climb s n f j (suc d) h =
    let q : j + suc (suc d) ≡ suc (j + suc d) = omega arith in
    let a = climb s n f j d (omega arith) in
    let b = f (j + suc d) (omega arith) in
    rw q (omega arith)

module _ (s : List ℕ) (good : good_sheet s ≡ true) where
  bodies : bodies_ok s ≡ true
  unfolding good_sheet
  bodies = (both (contents_ok s) (bodies_ok s) good).1

  -- the four bodies' tests
  tests : (identity_ok s ≡ true) × (formats_ok s (format_count s) ≡ true) × (geometry_ok s ≡ true) × (controls_ok s (control_count s) ≡ true)
  unfolding bodies_ok
  tests =
      let t3 = both (identity_ok s && formats_ok s (format_count s) && geometry_ok s) (controls_ok s (control_count s)) bodies in
      let t2 = both (identity_ok s && formats_ok s (format_count s)) (geometry_ok s) t3.0 in
      let t1 = both (identity_ok s) (formats_ok s (format_count s)) t2.0 in
      (t1.0, t1.1, t2.1, t3.1)

  -- counts and places in range
  pub contents : Contents s
  unfolding good_sheet
  contents = contents_of s (both (contents_ok s) (bodies_ok s) good).0

  -- a good sheet fits the device's copy
  pub fits_copy : length s ≤ 2684
  fits_copy = let t = contents in omega (arith, t.long, t.formats_most, t.controls_most)

  -- the bodies lie within the sheet
  pub identity_within : identity_at s + 84 ≤ length s
  identity_within = let t = contents in omega (arith, t.long, t.identity_at_law)

  pub format_within : (k : ℕ) → k < format_count s → format_at s k + 36 ≤ length s
  unfolding format_at
  format_within k h = let t = contents in omega (arith, t.long, t.formats_at_law)

  pub control_within : (k : ℕ) → k < control_count s → control_at s k + 68 ≤ length s
  unfolding control_at
  control_within k h = let t = contents in omega (arith, t.long, t.controls_at_law)

  pub identity : Identity s
  unfolding identity_ok
  identity =
      let t2 = both (has_zero (driver_of s) && has_zero (card_of s)) (has_zero (bus_of s)) tests.0 in
      let t1 = both (has_zero (driver_of s)) (has_zero (card_of s)) t2.0 in
      record { driver = ended_of (driver_of s) t1.0; card = ended_of (card_of s) t1.1; bus = ended_of (bus_of s) t2.1 }

  pub format : (k : ℕ) → k < format_count s → Format s k
  unfolding formats_ok
  format k h = format_of_law s k (all_at (format_count s) (λ i. format_ok s i) tests.1 k h)

  -- no two formats have one code
  pub codes_distinct : (j k : ℕ) → j < format_count s → k < format_count s → format_code s j ≡ format_code s k → j ≡ k
  codes_distinct j k hj hk q = by (ltb j k) refl
    where
      by : (b : Bool) → ltb j k ≡ b → j ≡ k
      by true l = absurd ((format k hk).new j (ltb-true j k l) q)
      by false l = after (ltb k j) refl
        where
          after : (c : Bool) → ltb k j ≡ c → j ≡ k
          after true m = absurd ((format j hj).new k (ltb-true k j m) (sym q))
          after false m = omega (arith, ltb-false j k l, ltb-false k j m)

  pub geometry : Geometry s
  geometry = geometry_of s tests.2

  each : (k : ℕ) → k < control_count s → (control_ok s k ≡ true) × (rising_at s k ≡ true)
  unfolding controls_ok
  each k h = both (control_ok s k) (rising_at s k) (all_at (control_count s) (λ i. control_ok s i && rising_at s i) tests.3 k h)

  pub control : (k : ℕ) → k < control_count s → Controlled s k
  control k h = controlled_of s k (each k h).0

  -- ids strictly rise
  pub ids_rise : (j k : ℕ) → j < k → k < control_count s → control_id s j < control_id s k
  ids_rise j k h m =
      let q : k ≡ j + suc (k - suc j) = omega arith in
      let c = climb s (control_count s) (λ i l. next_id s i (each (suc i) l).1) j (k - suc j) (omega arith) in
      rw q c
