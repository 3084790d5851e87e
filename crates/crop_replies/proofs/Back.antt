-- What a client reads in these answers: the rectangles that were put there, if 32 bits hold their numbers. Assumes nothing.
use Prim.Native.Nat.{ℕ, ◌+◌, ◌*◌, ◌<◌, ◌^◌}
use mathlib.Core.Path.{◌≡◌, refl, ap, ◌∙◌}
use mathlib.Core.List.{List}
use native.Mathlib.Omega.{arith}
use lib.ListN.{length, get_or}
use lib.IntN.{ℤ}
use lib.Signed.{mag}
use mir.Syntax.{w32}
use mir.Facts.{Fits-of_z}
use Rattle.wire_read.specs.Words.{word_at, bytes_of}
use Rattle.wire_read.proofs.Words.{word_of_law}
use Rattle.wire_signed.specs.Signed.{signed, bits, signed_at}
use Rattle.wire_signed.proofs.Integers.{signed_bits}
use Rattle.sheet_geometry.specs.Geometry.{rect_at, crop_bounds, crop_default}
use Rattle.sheet_geometry.specs.declared.Rect.{Rect}
use Rattle.crop_replies.specs.Replies.{crop_reply, crop_capability_reply}

-- 32 bits hold the four numbers of a rectangle
pub record Held (r : Rect) : Type 0 where
  pub left : mag r.left < 2 ^ 31
  pub top : mag r.top < 2 ^ 31
  pub width : mag r.width < 2 ^ 31
  pub height : mag r.height < 2 ^ 31

module _ (ws : List ℕ) where
  -- a number put among the words of an answer is read there
  number_back : (k at : ℕ) (z : ℤ) → at ≡ 4 * k → mag z < 2 ^ 31 → k < length ws → get_or ws k 0 ≡ bits z → signed_at (bytes_of ws) at ≡ z
  unfolding signed_at bits
  number_back k at z there h in-it e =
      let fits = (Fits-of_z {w = w32} {z = z} (record { sfits = h })).fits in
      ap signed (ap (word_at (bytes_of ws)) there ∙ word_of_law ws k in-it (rw e fits) ∙ e) ∙ signed_bits z h

  -- and so is a rectangle
  rect_back : (k : ℕ) (r : Rect) → Held r → k + 3 < length ws → get_or ws k 0 ≡ bits r.left → get_or ws (k + 1) 0 ≡ bits r.top → get_or ws (k + 2) 0 ≡ bits r.width
      → get_or ws (k + 3) 0 ≡ bits r.height → rect_at (bytes_of ws) (4 * k) ≡ r
  unfolding rect_at
  rect_back k r h in-it l t w g =
      rw (
        number_back k (4 * k) r.left refl h.left (omega arith) l,
        number_back (k + 1) (4 * k + 4) r.top (omega arith) h.top (omega arith) t,
        number_back (k + 2) (4 * k + 8) r.width (omega arith) h.width (omega arith) w,
        number_back (k + 3) (4 * k + 12) r.height (omega arith) h.height (omega arith) g,
      )

-- the crop in an answer to G_CROP
pub crop_back : (r : Rect) → Held r → rect_at (crop_reply r) 4 ≡ r
unfolding crop_reply
crop_back r h = rect_back _ 1 r h (omega arith) refl refl refl refl

-- the bounds in an answer to CROPCAP
pub bounds_back : (s : List ℕ) → Held (crop_bounds s) → rect_at (crop_capability_reply s) 4 ≡ crop_bounds s
unfolding crop_capability_reply
bounds_back s h = rect_back _ 1 (crop_bounds s) h (omega arith) refl refl refl refl

-- and the default
pub default_back : (s : List ℕ) → Held (crop_default s) → rect_at (crop_capability_reply s) 20 ≡ crop_default s
unfolding crop_capability_reply
default_back s h = rect_back _ 5 (crop_default s) h (omega arith) refl refl refl refl
