-- The device's copy of a sheet has the sheet's geometry. Assumes nothing.
use Prim.Native.Nat.{ℕ, ◌+◌, ◌≤◌}
use mathlib.Core.Path.{◌≡◌}
use mathlib.Core.List.{List}
use lib.ListN.{length}
use Rattle.sheet_copy.specs.Copy.{kept_of}
use Rattle.sheet_contents.specs.Contents.{geometry_at}
use Rattle.sheet_copy.proofs.Copies.{kept_word, kept_signed, kept_geometry_at}
use Rattle.sheet_geometry.specs.Geometry.{range_at, widths_of, heights_of, line_alignment, rect_at, crop_bounds, crop_default, pixel_aspect}

module _ (s : List ℕ) (fits : length s ≤ 2688) where
  kept_range : (at : ℕ) → range_at (kept_of s) at ≡ range_at s at
  unfolding range_at
  kept_range at = rw (kept_word s fits at, kept_word s fits (at + 4), kept_word s fits (at + 8))

  kept_rect : (at : ℕ) → rect_at (kept_of s) at ≡ rect_at s at
  unfolding rect_at
  kept_rect at = rw (kept_signed s fits at, kept_signed s fits (at + 4), kept_signed s fits (at + 8), kept_signed s fits (at + 12))

  pub kept_widths : widths_of (kept_of s) ≡ widths_of s
  unfolding widths_of
  kept_widths = rw (kept_geometry_at s fits) (kept_range (geometry_at s))

  pub kept_heights : heights_of (kept_of s) ≡ heights_of s
  unfolding heights_of
  kept_heights = rw (kept_geometry_at s fits) (kept_range (geometry_at s + 12))

  pub kept_alignment : line_alignment (kept_of s) ≡ line_alignment s
  unfolding line_alignment
  kept_alignment = rw (kept_geometry_at s fits) (kept_word s fits (geometry_at s + 24))

  pub kept_bounds : crop_bounds (kept_of s) ≡ crop_bounds s
  unfolding crop_bounds
  kept_bounds = rw (kept_geometry_at s fits) (kept_rect (geometry_at s + 28))

  pub kept_default : crop_default (kept_of s) ≡ crop_default s
  unfolding crop_default
  kept_default = rw (kept_geometry_at s fits) (kept_rect (geometry_at s + 44))

  pub kept_aspect : pixel_aspect (kept_of s) ≡ pixel_aspect s
  unfolding pixel_aspect
  kept_aspect = rw (kept_geometry_at s fits, kept_word s fits (geometry_at s + 60), kept_word s fits (geometry_at s + 64))
