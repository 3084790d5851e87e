-- How a block opens. Assumes nothing.
use mathlib.Core.Path.{◌≡◌, refl, sym, ap₂}
use mathlib.Core.Bool.{Bool, true, false, ◌&&◌, ◌||◌, false≢true}
use mathlib.Core.List.{List, [], ◌∷◌}
use Prim.Native.Nat.{ℕ, ◌+◌, ◌*◌, ◌-◌, ◌^◌, ◌<◌}
use native.Mathlib.Omega.{arith}
use borrow.Author.Tests.{eqb-true, eq-eqb, ltb-true}
use lib.Dec.{eqb, ltb}
use lib.ListN.{take}
use Rattle.wire_read.specs.Words.{word_at}
use Rattle.sheet_rules.proofs.Truth.{both}
use Rattle.ivtv_rules.specs.Block.{itv0, ITV0}
use Rattle.ivtv_rules.specs.Reading.{same, opens, mask_in, start_in, good_opening}

-- lists that pass are equal, and a list passes with itself
pub same_equal : (l k : List ℕ) → same l k ≡ true → k ≡ l
unfolding same
same_equal [] [] e = refl
same_equal [] (y ∷ k) e = absurd (false≢true e)
same_equal (x ∷ l) [] e = absurd (false≢true e)
same_equal (x ∷ l) (y ∷ k) e = let t = both (eqb x y) (same l k) e in ap₂ ◌∷◌ (sym (eqb-true x y t.0)) (same_equal l k t.1)

pub same_self : (l : List ℕ) → same l l ≡ true
unfolding same
same_self [] = refl
same_self (x ∷ l) = rw (eq-eqb x x refl, same_self l)

-- The two good openings: with all lines, and with fewer.
pub data Start (b : List ℕ) : Type 0 where
  all : start_in b ≡ 4 → mask_in b ≡ 2 ^ 36 - 1 → take 4 b ≡ ITV0 → Start b
  fewer : start_in b ≡ 12 → mask_in b ≡ word_at b 4 + 4294967296 * word_at b 8 → mask_in b < 2 ^ 36 - 1 → take 4 b ≡ itv0 → Start b

module _ (b : List ℕ) where
  -- a block opens with the letters that it begins with
  pub opens_with : (l : List ℕ) → take 4 b ≡ l → opens l b ≡ true
  opens_with l e = rw e (same_self l)

  -- with itv0 it does not open with ITV0, and its mask is the two words
  pub small_mask : take 4 b ≡ itv0 → mask_in b ≡ word_at b 4 + 4294967296 * word_at b 8
  unfolding same mask_in
  small_mask e = rw e

  -- a good opening is one of the two
  pub start_of_law : good_opening b ≡ true → Start b
  unfolding good_opening start_in mask_in
  start_of_law g = by (opens ITV0 b) refl g
    where
      by : (a : Bool) → opens ITV0 b ≡ a → (a || opens itv0 b && ltb (mask_in b) (2 ^ 36 - 1)) ≡ true → Start b
      by true e h = all (rw e) (rw e) (same_equal ITV0 (take 4 b) e)
      by false e h =
          let p = both (opens itv0 b) (ltb (mask_in b) (2 ^ 36 - 1)) h in
          fewer (rw e) (rw e) (ltb-true (mask_in b) (2 ^ 36 - 1) p.1) (same_equal itv0 (take 4 b) p.0)

  -- a block opens in one of the two ways
  pub start_letters : Start b → (take 4 b ≡ itv0 → ⊥) → (take 4 b ≡ ITV0 → ⊥) → ⊥
  start_letters (all s m l) p q = q l
  start_letters (fewer s m h l) p q = p l

  -- behind itv0 the mask is below that of all lines
  pub start_below : Start b → take 4 b ≡ itv0 → mask_in b < 2 ^ 36 - 1
  start_below (all s m l) e = let z : ◌≡◌ {A = ℕ} 0x69 0x49 = cc in absurd (omega arith)
  start_below (fewer s m h l) e = h

-- a mask of 36 bits
pub mask_most : (b : List ℕ) → Start b → mask_in b < 2 ^ 36
mask_most b (all s m l) = omega arith
mask_most b (fewer s m h l) = omega arith
