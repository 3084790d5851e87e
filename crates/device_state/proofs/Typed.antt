-- The test of the type named in an argument, as an exit of a handler takes it. Assumes nothing.
use Prim.Native.Nat.{ℕ}
use mathlib.Core.List.{List}
use mathlib.Core.Path.{◌≡◌, ◌∙◌, sym}
use Rattle.std.specs.Prelude.{Result, Ok}
use borrow.Author.Tests.{eq-eqb, ne_eqb}
use Rattle.wire_read.specs.Words.{word_at}
use Rattle.ioctl_table.specs.Refusal.{errno_of}
use Rattle.ioctl_table.specs.declared.refusals.Refusal.{Refusal}
use Rattle.ioctl_table.specs.declared.refusals.Refusal.TheVariants.{WrongType}
use Rattle.device_state.specs.declared.Kind.{Kind}
use Rattle.device_state.specs.declared.Kind.TheVariants.{Pictures}
use Rattle.device_state.specs.Kinds.{kind_of}
use Rattle.device_state.proofs.ReadTypes.{pictures_is}
use Rattle.device_state.specs.State.{State}
use Rattle.device_state.specs.Answers.{Answer, answer, typed, by_type}

-- a call that only pictures have; the word w read at the type's place
module _ (at : ℕ) (d : State) (a : List ℕ) (r : Answer) {w : ℕ} (e : w ≡ word_at a at) where
  -- another type is refused
  pub typed_refused : (w ≡ 1 → ⊥) → answer (errno_of WrongType) d a ≡ typed at d a r
  typed_refused h = rw (← e, ne_eqb w 1 h)

  -- type 1 goes on
  pub typed_passed : w ≡ 1 → typed at d a r ≡ r
  typed_passed h = rw (← e, eq-eqb w 1 h)

-- a call on a stream
module _ (at : ℕ) (d : State) (a : List ℕ) (p c : Answer) {w : ℕ} (e : w ≡ word_at a at) where
  -- type 1 is one of pictures
  pub by_pictures : w ≡ 1 → by_type at d a p c ≡ p
  by_pictures h = rw (← e, h)

  -- type 6 is one of captions
  pub by_captions_law : w ≡ 6 → by_type at d a p c ≡ c
  by_captions_law h = rw (← e, h)

  -- another type is refused
  pub by_neither : (w ≡ 1 → ⊥) → (w ≡ 6 → ⊥) → answer (errno_of WrongType) d a ≡ by_type at d a p c
  by_neither h k = rw (← e, ne_eqb w 1 h, ne_eqb w 6 k)

-- a call whose type n is read as that of pictures
pub named_pictures : (at : ℕ) (d : State) (a : List ℕ) (p c : Answer) {n : ℕ} {k : Result Kind Refusal} → n ≡ word_at a at → k ≡ kind_of n → k ≡ Ok Pictures → by_type at d a p c ≡ p
named_pictures at d a p c {n} e o h = by_pictures at d a p c e (pictures_is n (sym o ∙ h))
