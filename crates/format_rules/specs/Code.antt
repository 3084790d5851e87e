-- The nine four-character codes, the first letter in the lowest byte.
use Rattle.std.specs.Prelude.{ℕ, Bool, cond, ◌||◌, eqb}

abbrev pub GREY : ℕ
GREY = 0x59455247

abbrev pub YUYV : ℕ
YUYV = 0x56595559

abbrev pub UYVY : ℕ
UYVY = 0x59565955

abbrev pub RGBP : ℕ
RGBP = 0x50424752

abbrev pub RGB3 : ℕ
RGB3 = 0x33424752

abbrev pub BGR3 : ℕ
BGR3 = 0x33524742

abbrev pub YU12 : ℕ
YU12 = 0x32315559

abbrev pub YV12 : ℕ
YV12 = 0x32315659

abbrev pub NV12 : ℕ
NV12 = 0x3231564E

-- 3 for RGB3 and BGR3, 2 for YUYV, UYVY and RGBP, 1 for GREY and the codes with planes
unfoldable pub bytes_per_pixel : ℕ → ℕ
bytes_per_pixel c = cond (eqb c RGB3 || eqb c BGR3) 3 (cond (eqb c YUYV || eqb c UYVY || eqb c RGBP) 2 1)

-- 8 for the RGB codes, else 1
unfoldable pub colour_space : ℕ → ℕ
colour_space c = cond (eqb c RGBP || eqb c RGB3 || eqb c BGR3) 8 1

-- the three 4:2:0 codes
unfoldable pub half_chroma : ℕ → Bool
half_chroma c = eqb c YU12 || eqb c YV12 || eqb c NV12
