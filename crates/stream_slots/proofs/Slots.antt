-- Slots in memory: whole pages, large enough for the frame, one after another. Assumes nothing.
use mathlib.Core.Path.{◌≡◌, refl}
use Prim.Native.Nat.{ℕ, ◌+◌, ◌*◌, ◌/◌, ◌^◌, ◌≤◌, ◌<◌}
use native.Mathlib.Nat.{mul-le-mul_right}
use native.Mathlib.Omega.{arith}
use Rattle.stream_slots.specs.Slot.{slot_size, slot_offset}

-- the frame has room in its slot
pub slot_least : (size : ℕ) → size ≤ slot_size size
unfolding slot_size
slot_least size = omega arith

-- a frame of at most 192 MiB has a slot of at most as much
pub slot_most : (size : ℕ) → size ≤ 201326592 → slot_size size ≤ 201326592
unfolding slot_size
slot_most size h = omega arith

-- a slot is a whole number of pages
pub slot_whole : (size : ℕ) → (k : ℕ) × (slot_size size ≡ k * 4096)
unfolding slot_size
slot_whole size = ((size + 4095) / 4096, refl)

-- the slot of a size of 32 bits
slot_below : (size : ℕ) → size < 2 ^ 32 → slot_size size ≤ 2 ^ 32
unfolding slot_size
slot_below size h = omega arith

-- a product of 32 bits and at most 2 ^ 32 fits in 64
product_fits : (k w : ℕ) → k < 2 ^ 32 → w ≤ 2 ^ 32 → k * w < 2 ^ 64
product_fits k w h l = omega (arith, mul-le-mul_right w h)

-- the offset of a buffer of any number fits in 64 bits
pub offset_fits : (k size : ℕ) → k < 2 ^ 32 → size < 2 ^ 32 → k * slot_size size < 2 ^ 64
offset_fits k size h l = product_fits k (slot_size size) h (slot_below size l)

-- a slot ends before the next ones begin
pub slots_apart : (j k size : ℕ) → j < k → slot_offset j size + slot_size size ≤ slot_offset k size
slots_apart j k size h = omega (arith, mul-le-mul_right (slot_size size) h)
