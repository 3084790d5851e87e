-- A crop rectangle brought inside its bounds: the sizes first, then the places for those sizes, then the top to an even distance from the
-- bounds' top. Every number is taken, bad bounds too.
use Rattle.std.specs.Prelude.{ℕ, ◌-◌, ◌%◌, ◌≤◌, ◌≡◌, Bool, true, cond, List, ℤ, pos, ◌+ℤ◌, ◌-ℤ◌}
use Rattle.std.specs.Int.Signed.{le_z}
use Rattle.wire_signed.specs.Signed.{distance}
use Rattle.sheet_geometry.specs.Geometry.{crop_bounds, crop_default}
use Rattle.sheet_geometry.specs.declared.Rect.{Rect}

-- the lesser of two numbers
unfoldable pub min_z : ℤ → ℤ → ℤ
min_z x y = cond (le_z y x) y x

-- the greater of two numbers
unfoldable pub max_z : ℤ → ℤ → ℤ
max_z x y = cond (le_z x y) y x

-- a number lowered to high where it is above, then raised to low where it is below
unfoldable pub clamp_z : ℤ → ℤ → ℤ → ℤ
clamp_z low high x = max_z low (min_z high x)

-- the rule for a width or a height: from 1 to that of the bounds
unfoldable pub size_in : ℤ → ℤ → ℤ
size_in size asked = clamp_z (pos 1) size asked

-- the rule for a left or a top: from the bounds' start to the place from which so long a rectangle ends with the bounds
unfoldable pub clamped_place : ℤ → ℤ → ℤ → ℤ → ℤ
clamped_place start size long asked = clamp_z start (start +ℤ (size -ℤ long)) asked

-- a number rounded down to an even one
unfoldable pub even_down : ℕ → ℕ
even_down n = n - n % 2

-- the rule that keeps the fields apart (A4): the distance of a top from the bounds' top is rounded down to an even number
unfoldable pub fields_apart : ℤ → ℤ → ℤ
fields_apart start at = start +ℤ pos (even_down (distance start at))

-- the width taken in bounds b where a is asked
unfoldable pub width_in : Rect → Rect → ℤ
width_in b a = size_in b.width a.width

-- the height taken
unfoldable pub height_in : Rect → Rect → ℤ
height_in b a = size_in b.height a.height

-- the left taken, for the width taken
unfoldable pub left_in : Rect → Rect → ℤ
left_in b a = clamped_place b.left b.width (width_in b a) a.left

-- the top brought inside, for the height taken
unfoldable pub clamped_top : Rect → Rect → ℤ
clamped_top b a = clamped_place b.top b.height (height_in b a) a.top

-- the top taken: the one brought inside, its distance from the bounds' top made even
unfoldable pub top_in : Rect → Rect → ℤ
top_in b a = fields_apart b.top (clamped_top b a)

-- the rectangle taken
unfoldable pub clamped : Rect → Rect → Rect
clamped b a = record { left = left_in b a; top = top_in b a; width = width_in b a; height = height_in b a }

-- a rectangle of which only the top is moved so
abbrev pub top_apart : Rect → Rect → Rect
top_apart b a = record { left = a.left; top = fields_apart b.top a.top; width = a.width; height = a.height }

-- the crop at opening (A4): the sheet's default, taken as if it had been asked for; of a good sheet's only the top is moved
unfoldable pub opening_crop : List ℕ → Rect
opening_crop s = clamped (crop_bounds s) (crop_default s)

-- ---- for the laws

-- p is the last number up to x at an even distance from start
pub record LastEven (start x p : ℤ) : Type 0 where
  pub even : distance start p % 2 ≡ 0
  pub up_to : le_z p x ≡ true
  pub last : (y : ℤ) → distance start y % 2 ≡ 0 → le_z y x ≡ true → le_z y p ≡ true

-- p is the one nearest to x of the numbers that pass a test: it passes, none that passes is nearer, and no other is as near
pub record NearestOf (test : ℤ → Bool) (x p : ℤ) : Type 0 where
  pub passes : test p ≡ true
  pub least : (y : ℤ) → test y ≡ true → distance p x ≤ distance y x
  pub alone : (y : ℤ) → test y ≡ true → distance y x ≤ distance p x → y ≡ p
