-- What negotiation gives on a good sheet: an allowed format, and itself when it is asked for again. Assumes nothing.
use Prim.Native.Nat.{ℕ, ◌%◌, ◌≤◌, ◌<◌}
use mathlib.Core.Path.{◌≡◌, refl}
use mathlib.Core.Bool.{Bool, true, false, cond}
use mathlib.Core.List.{List}
use native.Mathlib.Nat.{min-eq_left}
use native.Mathlib.Omega.{arith}
use borrow.Author.Tests.{eqb-true, eq-eqb}
use lib.Dec.{eqb}
use Rattle.sheet_contents.specs.Contents.{format_count}
use Rattle.sheet_records.specs.Records.{format_code}
use Rattle.sheet_geometry.specs.Geometry.{widths_of, heights_of, line_alignment}
use Rattle.sheet_rules.specs.Folds.{any_below}
use Rattle.sheet_rules.specs.Rules.{good_sheet}
use Rattle.sheet_rules.proofs.Truth.{any_at, any_of_law}
use Rattle.sheet_rules.proofs.Good.{contents, geometry}
use Rattle.grid_rules.specs.Grid.{nearest_size}
use Rattle.grid_rules.proofs.Sizes.{size_from, size_to, size_even, size_on_grid, size_kept}
use Rattle.format_rules.specs.declared.Format.{Format}
use Rattle.format_rules.proofs.Good.{Allowed}
use Rattle.negotiation_rules.specs.Negotiation.{offered, offers_among, chosen_code, negotiated, opening_format}

module _ (s : List ℕ) (good : good_sheet s ≡ true) where
  -- all of the sheet's formats are looked at
  pub offered_all : offered s ≡ format_count s
  unfolding offered
  offered_all = min-eq_left (contents s good).formats_most

  -- a size of the sheet is within 2..8192, and even where least and step are
  module _ (asked : ℕ) where
    pub width_within : (2 ≤ nearest_size (widths_of s) asked) × (nearest_size (widths_of s) asked ≤ 8192)
    width_within =
        let w = (geometry s good).widths in
        (omega (arith, w.low, size_from (widths_of s) asked), omega (arith, w.high, size_to (widths_of s) asked w.order))

    pub height_within : (2 ≤ nearest_size (heights_of s) asked) × (nearest_size (heights_of s) asked ≤ 8192)
    height_within =
        let h = (geometry s good).heights in
        (omega (arith, h.low, size_from (heights_of s) asked), omega (arith, h.high, size_to (heights_of s) asked h.order))

    pub height_even : nearest_size (heights_of s) asked % 2 ≡ 0
    height_even =
        let h = (geometry s good).heights in
        size_even (heights_of s) h.steps (omega (arith, h.stride)) h.whole asked h.even h.even_step

  -- whatever was asked for, the device can do what it answers
  pub negotiated_allowed : (f : Format) → Allowed (negotiated s f) (line_alignment s)
  unfolding negotiated
  negotiated_allowed f =
      record {
        width_some = (width_within f.width).0;
        width_most = (width_within f.width).1;
        height_some = (height_within f.height).0;
        height_most = (height_within f.height).1;
        height_even = height_even f.height;
        alignment = (geometry s good).alignment;
      }

  -- the code is one of the sheet's
  pub chosen_offered : (c : ℕ) → (k : ℕ) × (k < format_count s) × (format_code s k ≡ chosen_code s c)
  unfolding chosen_code offers_among
  chosen_offered c = by (any_below (offered s) (λ k. eqb (format_code s k) c)) refl
    where
      by : (t : Bool) → any_below (offered s) (λ k. eqb (format_code s k) c) ≡ t → (k : ℕ) × (k < format_count s) × (format_code s k ≡ cond t c (format_code s 0))
      by true e =
          let r = any_at (offered s) (λ k. eqb (format_code s k) c) e in
          (r.0, omega (arith, r.1, offered_all), eqb-true (format_code s r.0) c r.2)
      by false e = (0, omega (arith, (contents s good).formats_some), refl)

  -- a code of the sheet is kept
  pub code_kept : (k : ℕ) → k < format_count s → chosen_code s (format_code s k) ≡ format_code s k
  unfolding chosen_code offers_among
  code_kept k h =
      rw (any_of_law (offered s) (λ j. eqb (format_code s j) (format_code s k)) k (omega (arith, offered_all)) (eq-eqb (format_code s k) (format_code s k) refl))

  -- what was answered, asked for again, is answered again
  pub negotiated_again : (f : Format) → negotiated s (negotiated s f) ≡ negotiated s f
  unfolding negotiated
  negotiated_again f =
      let w = (geometry s good).widths in
      let h = (geometry s good).heights in
      let a = size_on_grid (widths_of s) w.steps (omega (arith, w.stride)) w.whole f.width in
      let b = size_on_grid (heights_of s) h.steps (omega (arith, h.stride)) h.whole f.height in
      let c = chosen_offered f.code in
      let k : chosen_code s (chosen_code s f.code) ≡ chosen_code s f.code = rw (← c.2) (code_kept c.0 c.1) in
      rw (
        size_kept (widths_of s) a.0 (nearest_size (widths_of s) f.width) (omega (arith, w.stride)) a.2 (size_to (widths_of s) f.width w.order),
        size_kept (heights_of s) b.0 (nearest_size (heights_of s) f.height) (omega (arith, h.stride)) b.2 (size_to (heights_of s) f.height h.order),
        k,
      )

  -- so is the format of a device just opened, which is allowed too
  pub opening_kept : negotiated s (opening_format s) ≡ opening_format s
  unfolding negotiated opening_format
  opening_kept =
      let w = (geometry s good).widths in
      let h = (geometry s good).heights in
      rw (
        size_kept (widths_of s) w.steps (widths_of s).greatest (omega (arith, w.stride)) w.whole (omega arith),
        size_kept (heights_of s) h.steps (heights_of s).greatest (omega (arith, h.stride)) h.whole (omega arith),
        code_kept 0 (omega (arith, (contents s good).formats_some)),
      )

  pub opening_allowed : Allowed (opening_format s) (line_alignment s)
  opening_allowed = rw (← opening_kept) (negotiated_allowed (opening_format s))
