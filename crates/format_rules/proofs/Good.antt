-- The picture of a format that a good sheet allows: how large it is. Assumes nothing.
use Prim.Native.Nat.{ℕ, ◌+◌, ◌*◌, ◌/◌, ◌%◌, ◌≤◌}
use mathlib.Core.Path.{◌≡◌, refl, sym, ap, ◌∙◌}
use mathlib.Core.Logic.{⊎_elim}
use mathlib.Core.Bool.{Bool, true, false, cond, ◌||◌}
use native.Mathlib.Omega.{arith}
use native.Mathlib.Nat.{mul-le-mul, mul-le-mul_right, mul_assoc, min-eq_left}
use borrow.Author.Tests.{eqb-true}
use lib.Dec.{eqb}
use Rattle.sheet_rules.proofs.Facts.{Alignment}
use Rattle.sheet_rules.proofs.Truth.{either}
use Rattle.format_rules.specs.declared.Format.{Format}
use Rattle.format_rules.specs.Code.{YU12, YV12, NV12, bytes_per_pixel, half_chroma}
use Rattle.format_rules.specs.Size.{round_up, bytes_per_line, held_height, first_plane, image_size}
use Rattle.format_rules.proofs.Bounds.{round_up_whole, round_up_least, round_up_nearest, pixel_some, pixel_most}

-- sizes within 2..8192, an even height, and an alignment of a good sheet
pub record Allowed (f : Format) (a : ℕ) : Type 0 where
  pub width_some : 2 ≤ f.width
  pub width_most : f.width ≤ 8192
  pub height_some : 2 ≤ f.height
  pub height_most : f.height ≤ 8192
  pub height_even : f.height % 2 ≡ 0
  pub alignment : Alignment a

-- a 4:2:0 code has one byte a pixel in its first plane
half_chroma_pixel : (c : ℕ) → half_chroma c ≡ true → bytes_per_pixel c ≡ 1
unfolding half_chroma bytes_per_pixel
half_chroma_pixel c e =
    ⊎_elim (λ e1. ⊎_elim (λ e2. rw (eqb-true c YU12 e2)) (λ e2. rw (eqb-true c YV12 e2)) (either (eqb c YU12) (eqb c YV12) e1))
    (λ e1. rw (eqb-true c NV12 e1)) (either (eqb c YU12 || eqb c YV12) (eqb c NV12) e)

module _ (f : Format) (a : ℕ) (ok : Allowed f a) where
  pub held : held_height f ≡ f.height
  unfolding held_height
  held = min-eq_left ok.height_most

  -- bytes per line, without the limits
  pub line_plain : bytes_per_line f a ≡ round_up (f.width * bytes_per_pixel f.code) a
  unfolding bytes_per_line
  line_plain = rw (min-eq_left {n = f.width} {m = 8192} ok.width_most, min-eq_left {n = a} {m = 64} ok.alignment.high)

  pub line_some : 2 ≤ bytes_per_line f a
  line_some =
      let w : 2 * 1 ≤ f.width * bytes_per_pixel f.code = mul-le-mul ok.width_some (pixel_some f.code) in
      omega (arith, line_plain, round_up_least (f.width * bytes_per_pixel f.code) a (omega (arith, ok.alignment.low)))

  -- a full line of 8192 pixels needs no rounding
  pub line_most : bytes_per_line f a ≤ 8192 * bytes_per_pixel f.code
  line_most =
      let b = bytes_per_pixel f.code in
      let t = ok.alignment.times in
      let e : 8192 * b ≡ 128 * b * t * a = full b t ok.alignment.whole in
      let w : f.width * b ≤ 8192 * b = mul-le-mul_right b ok.width_most in
      let r = round_up_nearest (f.width * b) a (128 * b * t) (omega (arith, ok.alignment.low)) (omega arith) in
      omega (arith, line_plain)
    where
      full : (b t : ℕ) → t * a ≡ 64 → 8192 * b ≡ 128 * b * t * a
      full b t q = sym (mul_assoc (128 * b) t a ∙ rw q (omega arith))

  -- a line is even
  pub line_even : bytes_per_line f a % 2 ≡ 0
  line_even =
      let r = round_up_whole (f.width * bytes_per_pixel f.code) a in
      let e : a ≡ a / 2 * 2 = omega (arith, ok.alignment.even) in
      let q : bytes_per_line f a ≡ r.0 * (a / 2) * 2 = line_plain ∙ r.1 ∙ ap (λ (x : ℕ). r.0 * x) e ∙ sym (mul_assoc r.0 (a / 2) 2) in
      omega arith

  -- at least 4 bytes, at most 3 for each of 8192 x 8192 pixels
  pub image_some : 4 ≤ image_size f a
  unfolding image_size first_plane
  image_some = by (half_chroma f.code)
    where
      n : 4 ≤ bytes_per_line f a * held_height f
      n = rw held (mul-le-mul {n₁ = 2} {m₁ = 2} line_some ok.height_some)

      by : (t : Bool) → 4 ≤ cond t (bytes_per_line f a * held_height f + bytes_per_line f a * held_height f / 2) (bytes_per_line f a * held_height f)
      by true = omega (arith, n)
      by false = n

  pub image_most : image_size f a ≤ 201326592
  unfolding image_size first_plane
  image_most = by (half_chroma f.code) refl
    where
      h : held_height f ≤ 8192
      h = omega (arith, held, ok.height_most)

      by : (t : Bool) → half_chroma f.code ≡ t
          → cond t (bytes_per_line f a * held_height f + bytes_per_line f a * held_height f / 2) (bytes_per_line f a * held_height f) ≤ 201326592
      by true e =
          let l : bytes_per_line f a ≤ 8192 = omega (arith, line_most, half_chroma_pixel f.code e) in
          let p : bytes_per_line f a * held_height f ≤ 8192 * 8192 = mul-le-mul l h in omega arith
      by false e =
          let l : bytes_per_line f a ≤ 24576 = omega (arith, line_most, pixel_most f.code) in
          let p : bytes_per_line f a * held_height f ≤ 24576 * 8192 = mul-le-mul l h in p
