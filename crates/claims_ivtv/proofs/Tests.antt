-- Tests that must pass, or must fail, and numbers that must be equal. Assumes nothing.
use mathlib.Core.Path.{◌≡◌, refl}
use mathlib.Core.Bool.{Bool, true, false}
use Prim.Native.Nat.{ℕ}
use borrow.Author.Tests.{eqb-true, eqb-false}
use lib.Dec.{eqb}

-- a test that cannot fail passes
pub passes : (b : Bool) → (b ≡ false → ⊥) → b ≡ true
passes true h = refl
passes false h = absurd (h refl)

-- one that cannot pass fails
pub fails : (b : Bool) → (b ≡ true → ⊥) → b ≡ false
fails true h = absurd (h refl)
fails false h = refl

-- numbers that cannot differ are equal
pub equals : (m n : ℕ) → ((m ≡ n → ⊥) → ⊥) → m ≡ n
equals m n h = eqb-true m n (passes (eqb m n) (λ e. h (eqb-false m n e)))
