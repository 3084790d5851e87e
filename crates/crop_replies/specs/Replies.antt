-- The bytes of answers about the crop, field by field in the order of the header.
use Rattle.std.specs.Prelude.{ℕ, List, [], ◌∷◌, ◌++◌}
use Rattle.wire_read.specs.Words.{bytes_of}
use Rattle.wire_signed.specs.Signed.{bits}
use Rattle.sheet_geometry.specs.Geometry.{crop_bounds, crop_default, pixel_aspect}
use Rattle.sheet_geometry.specs.declared.Rect.{Rect}

-- left, top, width, height
abbrev pub rect_words : Rect → List ℕ
rect_words r = bits r.left ∷ bits r.top ∷ bits r.width ∷ bits r.height ∷ []

-- G_CROP: type, rectangle
unfoldable pub crop_reply : Rect → List ℕ
crop_reply r = bytes_of (1 ∷ rect_words r)

-- CROPCAP: type, bounds, default, pixel aspect
unfoldable pub crop_capability_reply : List ℕ → List ℕ
crop_capability_reply s =
    bytes_of (1 ∷ rect_words (crop_bounds s) ++ rect_words (crop_default s) ++ (pixel_aspect s).numerator ∷ (pixel_aspect s).denominator ∷ [])
