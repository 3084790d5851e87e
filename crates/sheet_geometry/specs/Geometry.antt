-- The geometry of a device sheet, 68 bytes: least, greatest and step of the width, then of the height; line alignment; crop bounds;
-- default crop; pixel aspect.
use Rattle.std.specs.Prelude.{List, ℕ, ◌+◌}
use Rattle.wire_read.specs.Words.{word_at}
use Rattle.wire_signed.specs.Signed.{signed_at}
use Rattle.sheet_contents.specs.Contents.{geometry_at}
use Rattle.sheet_geometry.specs.declared.Range.{Range}
use Rattle.sheet_geometry.specs.declared.Rect.{Rect}
use Rattle.sheet_geometry.specs.declared.Fraction.{Fraction}

-- least, greatest and step at a place
unfoldable pub range_at : List ℕ → ℕ → Range
range_at s at = record { least = word_at s at; greatest = word_at s (at + 4); step = word_at s (at + 8) }

unfoldable pub widths_of : List ℕ → Range
widths_of s = range_at s (geometry_at s)

unfoldable pub heights_of : List ℕ → Range
heights_of s = range_at s (geometry_at s + 12)

unfoldable pub line_alignment : List ℕ → ℕ
line_alignment s = word_at s (geometry_at s + 24)

-- left, top, width and height at a place
unfoldable pub rect_at : List ℕ → ℕ → Rect
rect_at s at =
    record {
      left = signed_at s at;
      top = signed_at s (at + 4);
      width = signed_at s (at + 8);
      height = signed_at s (at + 12);
    }

unfoldable pub crop_bounds : List ℕ → Rect
crop_bounds s = rect_at s (geometry_at s + 28)

unfoldable pub crop_default : List ℕ → Rect
crop_default s = rect_at s (geometry_at s + 44)

unfoldable pub pixel_aspect : List ℕ → Fraction
pixel_aspect s =
    record {
      numerator = word_at s (geometry_at s + 60);
      denominator = word_at s (geometry_at s + 64);
    }
