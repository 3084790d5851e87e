-- What a type is, by what it is read as. Assumes nothing.
use Prim.Native.Nat.{ℕ}
use mathlib.Core.Bool.{Bool, true, false, cond}
use mathlib.Core.Path.{◌≡◌, refl, ap}
use native.Mathlib.Omega.{arith}
use lib.Dec.{eqb}
use borrow.Author.Tests.{eqb-true, eqb-false}
use Rattle.std.specs.Prelude.{Result, Ok, Err}
use Rattle.ioctl_table.specs.declared.refusals.Refusal.{Refusal}
use Rattle.ioctl_table.specs.declared.refusals.Refusal.TheVariants.{WrongType}
use Rattle.device_state.specs.declared.Kind.{Kind}
use Rattle.device_state.specs.declared.Kind.TheVariants.{Pictures, Captions}
use Rattle.device_state.specs.Kinds.{kind_of}

-- what tells a result of reading a type from another
abbrev pub seen : Result Kind Refusal → ℕ
seen (Ok Pictures) = 1
seen (Ok Captions) = 6
seen (Err why) = 0

-- read as pictures it is 1
pub pictures_is : (n : ℕ) → kind_of n ≡ Ok Pictures → n ≡ 1
pictures_is n h = by (eqb n 1) (eqb n 6) refl h
  where
    by : (x y : Bool) → eqb n 1 ≡ x → cond x (Ok Pictures) (cond y (Ok Captions) (Err WrongType)) ≡ Ok Pictures → n ≡ 1
    by true y e g = eqb-true n 1 e
    by false true e g = absurd (omega (arith, ap seen g))
    by false false e g = absurd (omega (arith, ap seen g))

-- as captions it is 6, and not 1
pub captions_is : (n : ℕ) → kind_of n ≡ Ok Captions → (n ≡ 1 → ⊥) × (n ≡ 6)
captions_is n h = by (eqb n 1) (eqb n 6) refl refl h
  where
    by : (x y : Bool) → eqb n 1 ≡ x → eqb n 6 ≡ y → cond x (Ok Pictures) (cond y (Ok Captions) (Err WrongType)) ≡ Ok Captions → (n ≡ 1 → ⊥) × (n ≡ 6)
    by true y e f g = absurd (omega (arith, ap seen g))
    by false true e f g = (eqb-false n 1 e, eqb-true n 6 f)
    by false false e f g = absurd (omega (arith, ap seen g))

-- refused it is neither, and the reason is that
pub neither_is : (n : ℕ) (why : Refusal) → kind_of n ≡ Err why → (n ≡ 1 → ⊥) × (n ≡ 6 → ⊥) × (WrongType ≡ why)
neither_is n why h = by (eqb n 1) (eqb n 6) refl refl h
  where
    reason : Result Kind Refusal → Refusal
    reason (Ok k) = WrongType
    reason (Err w) = w

    by : (x y : Bool) → eqb n 1 ≡ x → eqb n 6 ≡ y → cond x (Ok Pictures) (cond y (Ok Captions) (Err WrongType)) ≡ Err why → (n ≡ 1 → ⊥) × (n ≡ 6 → ⊥) × (WrongType ≡ why)
    by true y e f g = absurd (omega (arith, ap seen g))
    by false true e f g = absurd (omega (arith, ap seen g))
    by false false e f g = (eqb-false n 1 e, eqb-false n 6 f, ap reason g)
