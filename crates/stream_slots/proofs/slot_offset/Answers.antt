-- The product fits by `offset_fits`. Assumes nothing.
use borrow.Author.Rules.{rules}
use Rattle.stream_slots.proofs.Slots.{offset_fits}
use Rattle.stream_slots.proofs.slot_offset.Goals as goal

pub overflow_mul-result : goal.overflow_mul-result
overflow_mul-result c = record { fits = rw c.slot_size.ensures (offset_fits c.args.k c.args.size (search rules) (search rules)) }
