-- Offsets and lengths, and the buffers that they mean: the arithmetic finds exactly those that there are. Assumes nothing.
use mathlib.Core.Path.{◌≡◌, refl, sym}
use mathlib.Core.Bool.{true, not, ◌&&◌}
use Prim.Native.Nat.{ℕ, ◌*◌, ◌/◌, ◌%◌, ◌≤◌, ◌<◌}
use native.Mathlib.Omega.{arith}
use native.Mathlib.Nat.{mod-add-div', mul-div_cancel, mul-mod_left}
use borrow.Author.Tests.{eqb-true, eqb-false, eq-eqb, ne_eqb, ltb-true, lt-ltb, le-ltb, not-true}
use lib.Dec.{eqb, ltb}
use Rattle.std.proofs.Math.Bool.{and-false}
use Rattle.std.proofs.lemmas.Bool.{and_parts}
use Rattle.std.proofs.lemmas.Option.{cond_some}
use Rattle.std.specs.Prelude.{Some, None}
use Rattle.stream_slots.specs.Slot.{slot_size, slot_offset, is_slot, buffer_at, slot_at}

module _ (n size offset length : ℕ) where
  -- where they mean a buffer: the length is a slot, the offset is that of the buffer, and it is one of the n
  pub slot_is : is_slot n size offset length ≡ true
      → (0 < slot_size size) × (length ≡ slot_size size) × (offset ≡ slot_offset (buffer_at size offset) size) × (buffer_at size offset < n)
  unfolding is_slot
  slot_is h =
      let (abc, d) = and_parts (not (eqb (slot_size size) 0) && eqb length (slot_size size) && eqb (offset % slot_size size) 0) (ltb (offset / slot_size size) n) h in
      let (ab, c) = and_parts (not (eqb (slot_size size) 0) && eqb length (slot_size size)) (eqb (offset % slot_size size) 0) abc in
      let (a, b) = and_parts (not (eqb (slot_size size) 0)) (eqb length (slot_size size)) ab in
      let some = eqb-false (slot_size size) 0 (not-true (eqb (slot_size size) 0) a) in (
        positive (slot_size size) some,
        eqb-true length (slot_size size) b,
        omega (arith, mod-add-div' offset (slot_size size), eqb-true (offset % slot_size size) 0 c),
        ltb-true (offset / slot_size size) n d,
      )
    where
      positive : (m : ℕ) → (m ≡ 0 → ⊥) → 0 < m
      positive m e = omega arith

  -- what the tests find, the length being a slot: no whole number of slots, too many of them, or a buffer
  module _ (is : length ≡ slot_size size) where
    pub not_whole : (offset % length ≡ 0 → ⊥) → slot_at n size offset length ≡ None
    unfolding slot_at is_slot
    not_whole h = rw (sym is, ne_eqb (offset % length) 0 h, and-false (not (eqb length 0) && eqb length length))

    pub too_far : n ≤ offset / length → slot_at n size offset length ≡ None
    unfolding slot_at is_slot
    too_far h = rw (sym is, le-ltb (offset / length) n h, and-false (not (eqb length 0) && eqb length length && eqb (offset % length) 0))

    pub there : (length ≡ 0 → ⊥) → offset % length ≡ 0 → offset / length < n → slot_at n size offset length ≡ Some (offset / length)
    unfolding slot_at is_slot
    there a b c = rw (sym is, ne_eqb length 0 a, eq-eqb length length refl, eq-eqb (offset % length) 0 b, lt-ltb (offset / length) n c)

-- a buffer that is found is one of the n
pub found_below : (n size offset length k : ℕ) → slot_at n size offset length ≡ Some k → k < n
unfolding slot_at
found_below n size offset length k h =
    let f = cond_some (is_slot n size offset length) (buffer_at size offset) k h in
    omega (arith, f.1, (slot_is n size offset length f.0).3)

-- an offset of a buffer means that buffer
pub buffer_of_law : (k size : ℕ) → 0 < slot_size size → buffer_at size (slot_offset k size) ≡ k
buffer_of_law k size h = mul-div_cancel k h

-- every buffer is found by its offset and a slot
pub slot_of : (n size k : ℕ) → k < n → 0 < slot_size size → is_slot n size (slot_offset k size) (slot_size size) ≡ true
unfolding is_slot
slot_of n size k h some =
    rw (ne_eqb (slot_size size) 0 (λ e. omega arith), eq-eqb (slot_size size) (slot_size size) refl, eq-eqb (k * slot_size size % slot_size size) 0 (mul-mod_left k (slot_size size)), buffer_of_law k size some, lt-ltb k n h)

-- where there is a slot, an offset and a length mean a buffer exactly if one of the n has them
pub slot_exactly : (n size offset length : ℕ) → (k : ℕ) → k < n → 0 < slot_size size → offset ≡ slot_offset k size → length ≡ slot_size size
    → (is_slot n size offset length ≡ true) × (buffer_at size offset ≡ k)
slot_exactly n size offset length k h some e f = rw (e, f) (slot_of n size k h some, buffer_of_law k size some)
