-- Tests on the signed number of a word, by its distance from -2^31. Assumes nothing.
use Prim.Native.Nat.{ℕ, suc, ◌+◌, ◌-◌, ◌<◌, ◌^◌}
use mathlib.Core.Path.{◌≡◌, refl, sym}
use mathlib.Core.Bool.{Bool, true, false}
use native.Mathlib.Omega.{arith}
use borrow.Author.Tests.{ltb-true, ltb-false, ne_eqb}
use lib.Dec.{leb, ltb, eqb}
use lib.IntN.{pos, negsuc}
use lib.Signed.{le_z}
use Rattle.wire_signed.specs.Signed.{signed, above}
use Rattle.wire_signed.proofs.Integers.{word_under, above_order, signed_low, signed_high}
use Rattle.sheet_rules.specs.Rules.{exactly}

-- two words
pub le_words : (v w : ℕ) → v < 2 ^ 32 → w < 2 ^ 32 → le_z (signed v) (signed w) ≡ leb (above 2147483648 (signed v)) (above 2147483648 (signed w))
le_words v w h k = above_order 2147483648 (signed v) (signed w) (word_under v h) (word_under w k)

-- a word and a number not below zero
pub at_least : (n w : ℕ) → w < 2 ^ 32 → le_z (pos n) (signed w) ≡ leb (2147483648 + n) (above 2147483648 (signed w))
unfolding above
at_least n w h = above_order 2147483648 (pos n) (signed w) (omega arith) (word_under w h)

pub at_most : (n w : ℕ) → w < 2 ^ 32 → le_z (signed w) (pos n) ≡ leb (above 2147483648 (signed w)) (2147483648 + n)
unfolding above
at_most n w h = above_order 2147483648 (signed w) (pos n) (word_under w h) (omega arith)

-- a word and a number below zero
pub from_below : (n w : ℕ) → n < 2147483648 → w < 2 ^ 32 → le_z (negsuc n) (signed w) ≡ leb (2147483648 - suc n) (above 2147483648 (signed w))
unfolding above
from_below n w b h = above_order 2147483648 (negsuc n) (signed w) (omega arith) (word_under w h)

-- a word and the number it should be
pub exact : (n w : ℕ) → n < 2147483648 → w < 2 ^ 32 → exactly n (signed w) ≡ eqb w n
unfolding exactly
exact n w b h = by (ltb w 2147483648) refl
  where
    by : (t : Bool) → ltb w 2147483648 ≡ t → exactly n (signed w) ≡ eqb w n
    by true e = rw (signed_low w (ltb-true w 2147483648 e))
    by false e =
        let l = ltb-false w 2147483648 e in
        rw (signed_high w l h) (sym (ne_eqb w n (λ q. omega arith)))
