-- The tests in the order of the definition; the length is the slot by which the offset is divided. Assumes nothing.
use mathlib.Core.Path.{◌≡◌, sym, ◌∙◌}
use Prim.Native.Nat.{ℕ, ◌/◌, ◌^◌, ◌<◌}
use native.Mathlib.Nat.{div-le_self}
use borrow.Author.Tests.{eq-eqb, ne_eqb}
use native.Mathlib.Omega.{arith}
use Rattle.stream_slots.specs.Slot.{slot_size, is_slot, slot_at}
use Rattle.stream_slots.proofs.At.{not_whole, too_far, there}
use Rattle.stream_slots.proofs.slot_at.Goals as goal

-- a quotient of 32 bits has no more
below : (n m : ℕ) → n < 2 ^ 32 → n / m < 2 ^ 64
below n m h = omega (arith, div-le_self n m)

pub returns-then-slot-eq0 : goal.returns-then-slot-eq0
unfolding slot_at is_slot
returns-then-slot-eq0 c = simp (sym c.slot_size-slot.ensures, eq-eqb _ _ c.if-slot-eq0.true)

pub returns-then-length-slot : goal.returns-then-length-slot
unfolding slot_at is_slot
returns-then-length-slot c = simp (sym c.slot_size-slot.ensures, ne_eqb _ _ c.if-slot-eq0.false, ne_eqb _ _ c.if-length-slot.true)

pub returns-then-offset-length-ne0 : goal.returns-then-offset-length-ne0
returns-then-offset-length-ne0 c =
    let a = c.args in
    sym (not_whole a.n a.size a.offset a.length (c.if-length-slot.false ∙ c.slot_size-slot.ensures) c.if-offset-length-ne0.true)

pub returns-then-n-k : goal.returns-then-n-k
returns-then-n-k c =
    let a = c.args in
    sym (too_far a.n a.size a.offset a.length (c.if-length-slot.false ∙ c.slot_size-slot.ensures) c.if-n-k.true)

pub returns : goal.returns
returns c =
    let a = c.args in
    let is : a.length ≡ slot_size a.size = c.if-length-slot.false ∙ c.slot_size-slot.ensures in
    sym (there a.n a.size a.offset a.length is (λ e. c.if-slot-eq0.false (sym c.if-length-slot.false ∙ e)) c.if-offset-length-ne0.false (omega (arith, c.if-n-k.false)))
