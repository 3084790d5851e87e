-- The rules of a good device sheet, in the order of the sheet. Each is a test that computes.
use Rattle.std.specs.Prelude.{ℕ, ◌+◌, ◌-◌, ◌*◌, ◌%◌, Bool, false, not, ◌&&◌, ◌||◌, List, leb, ltb, eqb, get_or, length, ℤ, pos, negsuc, ◌+ℤ◌, ◌-ℤ◌}
use Rattle.std.specs.Int.Signed.{le_z}
use Rattle.wire_read.specs.Words.{word_at}
use Rattle.wire_signed.specs.Signed.{above}
use Rattle.sheet_geometry.specs.declared.Range.{Range}
use Rattle.sheet_geometry.specs.declared.Rect.{Rect}
use Rattle.sheet_records.specs.declared.Limits.{Limits}
use Rattle.sheet_rules.specs.Folds.{all_below, any_below}
use Rattle.sheet_contents.specs.Contents.{identity_at, identity_count, formats_at, format_count, geometry_at, geometry_count, controls_at, control_count, driver_of, card_of, bus_of, control_at}
use Rattle.sheet_records.specs.Records.{format_code, format_description, control_id, control_kind, control_name, limits_of, control_flags}
use Rattle.sheet_geometry.specs.Geometry.{widths_of, heights_of, line_alignment, crop_bounds, crop_default, pixel_aspect}

-- one of the bytes is zero
unfoldable pub has_zero : List ℕ → Bool
has_zero t = any_below (length t) (λ j. eqb (get_or t j 0) 0)

-- one identity, 1 to 9 formats, one geometry, up to 32 controls; the bodies follow with no gap and end at the sheet's end
unfoldable pub contents_ok : List ℕ → Bool
contents_ok s =
    eqb (identity_at s) 32 && eqb (identity_count s) 1
    && eqb (formats_at s) 116 && leb 1 (format_count s) && leb (format_count s) 9
    && eqb (geometry_at s) (116 + 36 * format_count s) && eqb (geometry_count s) 1
    && eqb (controls_at s) (184 + 36 * format_count s) && leb (control_count s) 32
    && eqb (length s) (184 + 36 * format_count s + 68 * control_count s)

-- driver, card and bus each have a zero byte
unfoldable pub identity_ok : List ℕ → Bool
identity_ok s = has_zero (driver_of s) && has_zero (card_of s) && has_zero (bus_of s)

-- one of GREY, YUYV, UYVY, RGBP, RGB3, BGR3, YU12, YV12, NV12, the first letter in the lowest byte
unfoldable pub known_code : ℕ → Bool
known_code c =
    eqb c 0x59455247 || eqb c 0x56595559 || eqb c 0x59565955 || eqb c 0x50424752 || eqb c 0x33424752 || eqb c 0x33524742
    || eqb c 0x32315559 || eqb c 0x32315659 || eqb c 0x3231564E

-- none of the first n formats has the code of format k
unfoldable pub new_code : List ℕ → ℕ → ℕ → Bool
new_code s k n = all_below n (λ j. not (eqb (format_code s j) (format_code s k)))

-- format k: a known code, unlike those before it, and a zero byte in its description
unfoldable pub format_ok : List ℕ → ℕ → Bool
format_ok s k = known_code (format_code s k) && new_code s k k && has_zero (format_description s k)

-- the first n formats
unfoldable pub formats_ok : List ℕ → ℕ → Bool
formats_ok s n = all_below n (λ k. format_ok s k)

-- sizes within 2..8192, least at most greatest, least and step even, step at least 2, greatest less least a multiple of step
unfoldable pub range_ok : Range → Bool
range_ok r =
    leb 2 r.least && leb r.greatest 8192 && leb r.least r.greatest && eqb (r.least % 2) 0 && eqb (r.step % 2) 0
    && leb 2 r.step && eqb ((r.greatest - r.least) % r.step) 0

-- 2, 4, 8, 16, 32 or 64
unfoldable pub alignment_ok : ℕ → Bool
alignment_ok a = eqb a 2 || eqb a 4 || eqb a 8 || eqb a 16 || eqb a 32 || eqb a 64

-- one direction of the bounds: start within -32768..32767, size within 1..8192
unfoldable pub bound_ok : ℤ → ℤ → Bool
bound_ok start size = le_z (negsuc 32767) start && le_z start (pos 32767) && le_z (pos 1) size && le_z size (pos 8192)

-- one direction of the default: at least 1 long, from the bounds' start to at most their end
unfoldable pub inside_ok : ℤ → ℤ → ℤ → ℤ → Bool
inside_ok start size at long = le_z start at && le_z (pos 1) long && le_z (at +ℤ long) (start +ℤ size)

-- both directions of the bounds
unfoldable pub bounds_ok : Rect → Bool
bounds_ok b = bound_ok b.left b.width && bound_ok b.top b.height

-- the default lies inside the bounds in both directions
unfoldable pub default_ok : Rect → Rect → Bool
default_ok b d = inside_ok b.left b.width d.left d.width && inside_ok b.top b.height d.top d.height

-- both aspect numbers are above 0
unfoldable pub aspect_ok : List ℕ → Bool
aspect_ok s = ltb 0 (pixel_aspect s).numerator && ltb 0 (pixel_aspect s).denominator

-- the geometry
unfoldable pub geometry_ok : List ℕ → Bool
geometry_ok s =
    range_ok (widths_of s) && range_ok (heights_of s) && alignment_ok (line_alignment s) && bounds_ok (crop_bounds s)
    && default_ok (crop_bounds s) (crop_default s) && aspect_ok s

-- the value lies on the grid from least by step
unfoldable pub on_grid : ℤ → ℤ → ℤ → Bool
on_grid least step value = le_z least value && eqb (above 0 (value -ℤ least) % above 0 step) 0

-- minimum at most maximum, step at least 1, and from the minimum by step both the maximum and a default within are reached
unfoldable pub grid_ok : Limits → Bool
grid_ok l =
    le_z (pos 1) l.step && on_grid l.minimum l.step l.maximum && on_grid l.minimum l.step l.initial
    && le_z l.initial l.maximum

-- the number is n
unfoldable pub exactly : ℕ → ℤ → Bool
exactly n (pos m) = eqb m n
exactly n (negsuc m) = false

-- a button's numbers are free, the others' are a grid; a boolean is 0..1 by 1; a menu starts at 0 and goes by 1
unfoldable pub limits_ok : ℕ → Limits → Bool
limits_ok kind l =
    eqb kind 4
    || (grid_ok l
    && (not (eqb kind 2) || (exactly 0 l.minimum && exactly 1 l.maximum && exactly 1 l.step))
    && (not (eqb kind 3) || (exactly 0 l.minimum && exactly 1 l.step)))

-- control k by itself: id below 2^31, type 1 to 4, a zero byte in the name, its numbers, flags of 1, 2 and 4, reserved words 0
unfoldable pub control_ok : List ℕ → ℕ → Bool
control_ok s k =
    ltb (control_id s k) 0x80000000 && leb 1 (control_kind s k) && leb (control_kind s k) 4 && has_zero (control_name s k)
    && limits_ok (control_kind s k) (limits_of s k) && leb (control_flags s k) 7
    && eqb (word_at s (control_at s k + 60)) 0 && eqb (word_at s (control_at s k + 64)) 0

-- the id of control k is above that of the one before it
unfoldable pub rising_at : List ℕ → ℕ → Bool
rising_at s k = eqb k 0 || ltb (control_id s (k - 1)) (control_id s k)

-- the first n controls: each good, ids strictly rising
unfoldable pub controls_ok : List ℕ → ℕ → Bool
controls_ok s n = all_below n (λ k. control_ok s k && rising_at s k)

-- the four bodies
unfoldable pub bodies_ok : List ℕ → Bool
bodies_ok s = identity_ok s && formats_ok s (format_count s) && geometry_ok s && controls_ok s (control_count s)

-- a good device sheet
unfoldable pub good_sheet : List ℕ → Bool
good_sheet s = contents_ok s && bodies_ok s
