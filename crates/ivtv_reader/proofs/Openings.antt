-- How a block opens. Assumes nothing.
use mathlib.Core.Path.{◌≡◌, refl, ap}
use mathlib.Core.Bool.{Bool, true, false, cond, ◌&&◌}
use mathlib.Core.List.{List, [], ◌∷◌}
use Prim.Native.Nat.{ℕ, ◌≤◌, ◌<◌}
use native.Mathlib.Omega.{arith}
use lib.Dec.{eqb}
use lib.Pointwise.{pointwise}
use lib.ListN.{length, take, length-take}
use Rattle.ivtv_rules.specs.Block.{ITV0}
use Rattle.ivtv_rules.specs.Reading.{same, opens, start_in}

and_false : (a b : Bool) → false ≡ b → false ≡ (a && b)
and_false true b e = e
and_false false b e = refl

-- a list is not the same as a longer one
shorter : (a b : List ℕ) → length b < length a → false ≡ same a b
unfolding same
shorter [] b h = absurd (omega arith)
shorter (x ∷ a) [] h = refl
shorter (x ∷ a) (y ∷ b) h = and_false (eqb x y) (same a b) (shorter a b (omega arith))

-- four letters against fewer bytes
pub too_short : (m b : List ℕ) → length m ≡ 4 → length b < 4 → false ≡ opens m b
too_short m b e h = shorter m (take 4 b) (omega (arith, e, length-take 4 b))

-- and against as many
pub letter_by_letter : (a b : List ℕ) → pointwise eqb a b ≡ same a b
unfolding same
letter_by_letter [] [] = refl
letter_by_letter [] (y ∷ b) = refl
letter_by_letter (x ∷ a) [] = refl
letter_by_letter (x ∷ a) (y ∷ b) = ap (λ (t : Bool). eqb x y && t) (letter_by_letter a b)

-- the lines start at 12 at most
pub start_most : (b : List ℕ) → start_in b ≤ 12
unfolding start_in
start_most b = by (opens ITV0 b)
  where
    by : (t : Bool) → cond t 4 12 ≤ 12
    by true = omega arith
    by false = omega arith
