-- How large the numbers of a picture get. Assumes nothing.
use Prim.Native.Nat.{ℕ, suc, ◌+◌, ◌-◌, ◌*◌, ◌/◌, min, ◌≤◌, ◌<◌}
use mathlib.Core.Path.{◌≡◌, refl}
use mathlib.Core.Bool.{Bool, true, false, cond, ◌||◌}
use native.Mathlib.Omega.{arith}
use native.Mathlib.Nat.{div-add-mod', mod-lt, mul-le-mul, mul-le-mul_right}
use borrow.Author.Tests.{leb-true, leb-false}
use lib.Dec.{eqb, leb}
use Rattle.format_rules.specs.declared.Format.{Format}
use Rattle.format_rules.specs.Code.{RGB3, BGR3, YUYV, UYVY, RGBP, bytes_per_pixel, half_chroma}
use Rattle.format_rules.specs.Size.{round_up, bytes_per_line, held_height, first_plane, image_size}

-- rounding up goes to a multiple, less than a step away
pub round_up_whole : (x step : ℕ) → (k : ℕ) × (round_up x step ≡ k * step)
unfolding round_up
round_up_whole x step = ((x + (step - 1)) / step, refl)

pub round_up_most : (x step : ℕ) → round_up x step ≤ x + (step - 1)
unfolding round_up
round_up_most x step = omega (arith, div-add-mod' (x + (step - 1)) step)

pub round_up_least : (x step : ℕ) → 0 < step → x ≤ round_up x step
unfolding round_up
round_up_least x step h = omega (arith, div-add-mod' (x + (step - 1)) step, mod-lt (x + (step - 1)) h)

-- no multiple between is passed over
pub round_up_nearest : (x step m : ℕ) → 0 < step → x ≤ m * step → round_up x step ≤ m * step
unfolding round_up
round_up_nearest x step m h l = by (leb ((x + (step - 1)) / step) m) refl
  where
    by : (b : Bool) → leb ((x + (step - 1)) / step) m ≡ b → (x + (step - 1)) / step * step ≤ m * step
    by true e = mul-le-mul_right step (leb-true ((x + (step - 1)) / step) m e)
    by false e =
        let g = leb-false ((x + (step - 1)) / step) m e in
        let t : suc m * step ≤ (x + (step - 1)) / step * step = mul-le-mul_right step g in
        omega (arith, div-add-mod' (x + (step - 1)) step, t, l)

-- 1 to 3 bytes a pixel
pub pixel_some : (c : ℕ) → 1 ≤ bytes_per_pixel c
unfolding bytes_per_pixel
pixel_some c = by (eqb c RGB3 || eqb c BGR3) (eqb c YUYV || eqb c UYVY || eqb c RGBP)
  where
    by : (a b : Bool) → 1 ≤ cond a 3 (cond b 2 1)
    by true b = omega arith
    by false true = omega arith
    by false false = omega arith

pub pixel_most : (c : ℕ) → bytes_per_pixel c ≤ 3
unfolding bytes_per_pixel
pixel_most c = by (eqb c RGB3 || eqb c BGR3) (eqb c YUYV || eqb c UYVY || eqb c RGBP)
  where
    by : (a b : Bool) → cond a 3 (cond b 2 1) ≤ 3
    by true b = omega arith
    by false true = omega arith
    by false false = omega arith

-- whatever the format and the alignment are, every number fits 32 bits
pub line_used : (w c : ℕ) → w ≤ 8192 → w * bytes_per_pixel c ≤ 24576
line_used w c h = mul-le-mul h (pixel_most c)

pub line_fits : (f : Format) (a : ℕ) → bytes_per_line f a ≤ 24639
unfolding bytes_per_line
line_fits f a =
    omega (arith, round_up_most (min f.width 8192 * bytes_per_pixel f.code) (min a 64), line_used (min f.width 8192) f.code (omega arith))

pub height_fits : (f : Format) → held_height f ≤ 8192
unfolding held_height
height_fits f = omega arith

pub first_plane_fits : (f : Format) (a : ℕ) → first_plane f a ≤ 201842688
unfolding first_plane
first_plane_fits f a = mul-le-mul (line_fits f a) (height_fits f)

pub image_fits : (f : Format) (a : ℕ) → image_size f a ≤ 302764032
unfolding image_size
image_fits f a = by (half_chroma f.code)
  where
    by : (b : Bool) → cond b (first_plane f a + first_plane f a / 2) (first_plane f a) ≤ 302764032
    by true = omega (arith, first_plane_fits f a)
    by false = omega (arith, first_plane_fits f a)

-- a line, or half of one, times a height
pub product_fits : (x y : ℕ) → x ≤ 24639 → y ≤ 8192 → x * y < 4294967296
product_fits x y hx hy = let p : x * y ≤ 24639 * 8192 = mul-le-mul hx hy in omega arith
