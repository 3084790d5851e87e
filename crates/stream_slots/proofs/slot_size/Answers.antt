-- The next multiple is the least that is not below. Assumes nothing.
use native.Mathlib.Omega.{arith}
use Rattle.stream_slots.specs.Slot.{slot_size}
use Rattle.stream_slots.proofs.slot_size.Goals as goal

pub returns : goal.returns
unfolding slot_size
returns c =
    let m = c.next_multiple_of.ensures in
    omega (arith, m.lower_bound, m.upper_bound, m.multiple)
