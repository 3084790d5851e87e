-- Rectangles taken in bounds 640 wide and 400 high from left -8, with top 0 and with top -7, and in the tallest and in bad ones: one test over
-- each table. Assumes nothing.
use Prim.Native.Nat.{ℕ}
use mathlib.Core.Path.{◌≡◌, refl}
use mathlib.Core.List.{List, [], ◌∷◌, map}
use lib.IntN.{ℤ, pos, neg_ℤ}
use Rattle.wire_signed.specs.Signed.{above, distance}
use Rattle.sheet_geometry.specs.declared.Rect.{Rect}
use Rattle.crop_rules.specs.Crop.{min_z, max_z, clamp_z, size_in, clamped_place, even_down, fields_apart, width_in, height_in, left_in, clamped_top, top_in, clamped}

abbrev minus : ℕ → ℤ
minus n = neg_ℤ (pos n)

-- the least and the greatest number of 32 bits
abbrev lowest : ℤ
lowest = minus 2147483648

abbrev highest : ℤ
highest = pos 2147483647

abbrev rect : ℤ → ℤ → ℤ → ℤ → Rect
rect left top width height = record { left = left; top = top; width = width; height = height }

-- the bounds from this top
abbrev from : ℤ → Rect
from top = rect (minus 8) top (pos 640) (pos 400)

-- as tall as 32 bits can say, and two that no sheet can have: no height, and an end before their start
abbrev tallest : Rect
tallest = rect (pos 0) lowest (pos 8) highest

abbrev flat : Rect
flat = rect (pos 0) (minus 7) (pos 8) (pos 0)

abbrev backwards : Rect
backwards = rect (pos 0) (pos 5) (pos 8) (minus 4)

-- a rectangle as high as the bounds, and one as wide
abbrev across : ℤ → ℤ → Rect
across left width = rect left (pos 0) width (pos 400)

abbrev down : ℤ → ℤ → Rect
down top height = rect (minus 8) top (pos 640) height

-- what is asked, and what is taken
pub record Case : Type 0 where
  pub asked : Rect
  pub taken : Rect

infix 70 ◌gives◌
abbrev ◌gives◌ : Rect → Rect → Case
a gives t = record { asked = a; taken = t }

-- in the bounds with top 0
unfoldable pub cases : List Case
cases =
    -- left: 608 wide goes from -8 to 24
    across (minus 9) (pos 608) gives across (minus 8) (pos 608)
    ∷ across (minus 8) (pos 608) gives across (minus 8) (pos 608)
    ∷ across (minus 7) (pos 608) gives across (minus 7) (pos 608)
    ∷ across (minus 5) (pos 608) gives across (minus 5) (pos 608)
    ∷ across (minus 1) (pos 608) gives across (minus 1) (pos 608)
    ∷ across (pos 0) (pos 608) gives across (pos 0) (pos 608)
    ∷ across (pos 1) (pos 608) gives across (pos 1) (pos 608)
    ∷ across (pos 23) (pos 608) gives across (pos 23) (pos 608)
    ∷ across (pos 24) (pos 608) gives across (pos 24) (pos 608)
    ∷ across (pos 25) (pos 608) gives across (pos 24) (pos 608)
    ∷ across (pos 31) (pos 608) gives across (pos 24) (pos 608)
    ∷ across (pos 32) (pos 608) gives across (pos 24) (pos 608)
    ∷ across highest (pos 608) gives across (pos 24) (pos 608)
    -- width: from 1 to 640, with the left pushed back where it needs the room
    ∷ across (pos 0) lowest gives across (pos 0) (pos 1)
    ∷ across (pos 0) (minus 1) gives across (pos 0) (pos 1)
    ∷ across (pos 0) (pos 1) gives across (pos 0) (pos 1)
    ∷ across (pos 0) (pos 2) gives across (pos 0) (pos 2)
    ∷ across (pos 0) (pos 631) gives across (pos 0) (pos 631)
    ∷ across (pos 0) (pos 632) gives across (pos 0) (pos 632)
    ∷ across (pos 0) (pos 633) gives across (minus 1) (pos 633)
    ∷ across (pos 0) (pos 639) gives across (minus 7) (pos 639)
    ∷ across (pos 0) (pos 640) gives across (minus 8) (pos 640)
    ∷ across (pos 0) (pos 641) gives across (minus 8) (pos 640)
    ∷ across (pos 0) highest gives across (minus 8) (pos 640)
    ∷ across (pos 100) (pos 0) gives across (pos 100) (pos 1)
    ∷ across (pos 631) (pos 1) gives across (pos 631) (pos 1)
    ∷ across (pos 632) (pos 1) gives across (pos 631) (pos 1)
    ∷ across highest (pos 0) gives across (pos 631) (pos 1)
    ∷ across lowest (pos 0) gives across (minus 8) (pos 1)
    -- top: 300 high goes from 0 to 100, by an even number of lines
    ∷ down lowest (pos 300) gives down (pos 0) (pos 300)
    ∷ down (minus 1) (pos 300) gives down (pos 0) (pos 300)
    ∷ down (pos 0) (pos 300) gives down (pos 0) (pos 300)
    ∷ down (pos 1) (pos 300) gives down (pos 0) (pos 300)
    ∷ down (pos 2) (pos 300) gives down (pos 2) (pos 300)
    ∷ down (pos 30) (pos 300) gives down (pos 30) (pos 300)
    ∷ down (pos 31) (pos 300) gives down (pos 30) (pos 300)
    ∷ down (pos 32) (pos 300) gives down (pos 32) (pos 300)
    ∷ down (pos 99) (pos 300) gives down (pos 98) (pos 300)
    ∷ down (pos 100) (pos 300) gives down (pos 100) (pos 300)
    ∷ down (pos 101) (pos 300) gives down (pos 100) (pos 300)
    ∷ down highest (pos 300) gives down (pos 100) (pos 300)
    -- 301 high goes to 99, which is no even number: to 98
    ∷ down (pos 98) (pos 301) gives down (pos 98) (pos 301)
    ∷ down (pos 99) (pos 301) gives down (pos 98) (pos 301)
    ∷ down (pos 100) (pos 301) gives down (pos 98) (pos 301)
    -- height: from 1 to 400, with the top pushed back where it needs the room
    ∷ down (pos 0) lowest gives down (pos 0) (pos 1)
    ∷ down (pos 0) (minus 1) gives down (pos 0) (pos 1)
    ∷ down (pos 0) (pos 0) gives down (pos 0) (pos 1)
    ∷ down (pos 0) (pos 1) gives down (pos 0) (pos 1)
    ∷ down (pos 1) (pos 399) gives down (pos 0) (pos 399)
    ∷ down (pos 1) (pos 400) gives down (pos 0) (pos 400)
    ∷ down (pos 0) (pos 401) gives down (pos 0) (pos 400)
    ∷ down (pos 5) highest gives down (pos 0) (pos 400)
    ∷ down highest (pos 0) gives down (pos 398) (pos 1)
    ∷ down lowest (pos 0) gives down (pos 0) (pos 1)
    -- all four
    ∷ rect lowest lowest lowest lowest gives rect (minus 8) (pos 0) (pos 1) (pos 1)
    ∷ rect lowest lowest highest highest gives rect (minus 8) (pos 0) (pos 640) (pos 400)
    ∷ rect highest highest lowest lowest gives rect (pos 631) (pos 398) (pos 1) (pos 1)
    ∷ rect highest highest highest highest gives rect (minus 8) (pos 0) (pos 640) (pos 400)
    ∷ rect (pos 0) (pos 0) (pos 0) (pos 0) gives rect (pos 0) (pos 0) (pos 1) (pos 1)
    ∷ rect (minus 5) (pos 7) (pos 608) (pos 300) gives rect (minus 5) (pos 6) (pos 608) (pos 300)
    ∷ []

-- in the bounds with top -7: 300 high goes from -7 to 93, and it is the distance from -7 that is even
unfoldable pub below_zero : List Case
below_zero =
    down lowest (pos 300) gives down (minus 7) (pos 300)
    ∷ down (minus 32768) (pos 300) gives down (minus 7) (pos 300)
    ∷ down (minus 8) (pos 300) gives down (minus 7) (pos 300)
    ∷ down (minus 7) (pos 300) gives down (minus 7) (pos 300)
    ∷ down (minus 6) (pos 300) gives down (minus 7) (pos 300)
    ∷ down (minus 5) (pos 300) gives down (minus 5) (pos 300)
    ∷ down (minus 1) (pos 300) gives down (minus 1) (pos 300)
    ∷ down (pos 0) (pos 300) gives down (minus 1) (pos 300)
    ∷ down (pos 1) (pos 300) gives down (pos 1) (pos 300)
    ∷ down (pos 24) (pos 300) gives down (pos 23) (pos 300)
    ∷ down (pos 92) (pos 300) gives down (pos 91) (pos 300)
    ∷ down (pos 93) (pos 300) gives down (pos 93) (pos 300)
    ∷ down (pos 94) (pos 300) gives down (pos 93) (pos 300)
    ∷ down highest (pos 300) gives down (pos 93) (pos 300)
    ∷ down (minus 6) (pos 399) gives down (minus 7) (pos 399)
    ∷ down highest (pos 1) gives down (pos 391) (pos 1)
    ∷ []

-- in the tallest bounds, from -2^31 on
unfoldable pub tall : List Case
tall =
    rect (pos 0) highest (pos 8) (pos 1) gives rect (pos 0) (minus 2) (pos 8) (pos 1)
    ∷ rect (pos 0) (minus 3) (pos 8) (pos 1) gives rect (pos 0) (minus 4) (pos 8) (pos 1)
    ∷ rect (pos 0) highest (pos 8) (pos 2) gives rect (pos 0) (minus 4) (pos 8) (pos 2)
    ∷ rect (pos 0) (minus 2147483647) (pos 8) (pos 2) gives rect (pos 0) lowest (pos 8) (pos 2)
    ∷ []

-- in bounds without a place inside, the top is theirs
unfoldable pub bad : List Case
bad = rect (pos 0) (pos 4) (pos 8) (pos 2) gives rect (pos 0) (minus 7) (pos 8) (pos 1) ∷ []

unfoldable pub worse : List Case
worse = rect (pos 0) highest (pos 8) highest gives rect (pos 0) (pos 5) (pos 8) (pos 1) ∷ rect (pos 0) lowest (pos 8) lowest gives rect (pos 0) (pos 5) (pos 8) (pos 1) ∷ []

-- each rectangle asked in these bounds gives the one beside it
abbrev Taken : Rect → List Case → Type 0
Taken bounds cs = map (λ (c : Case). clamped bounds c.asked) cs ≡ map (λ (c : Case). c.taken) cs

pub figures : Taken (from (pos 0)) cases × Taken (from (minus 7)) below_zero × Taken tallest tall × Taken flat bad × Taken backwards worse
unfolding cases below_zero tall bad worse clamped left_in top_in clamped_top width_in height_in clamped_place even_down fields_apart size_in clamp_z min_z max_z distance above
figures = (refl, refl, refl, refl, refl)
