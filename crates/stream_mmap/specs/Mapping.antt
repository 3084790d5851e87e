-- A buffer is mapped, or unmapped: what the call answers, and the stream after it. The first test that holds decides.
use Rattle.std.specs.Prelude.{ℕ, min, cond, Option, Some, None}
use Rattle.ioctl_table.specs.declared.refusals.Refusal.TheVariants.{NoSuchBuffer}
use Rattle.stream_slots.specs.Slot.{slot_at}
use Rattle.stream_words.specs.Stream.{Stream, with_maps}
use Rattle.stream_maps.specs.declared.Change.{Change}
use Rattle.stream_maps.specs.Maps.{maps_of, blocked, why_not, moved}
use Rattle.stream_run.specs.Replies.Reply.{Done}
use Rattle.stream_run.specs.Switches.{Step, answers, refuses}

-- of a buffer: its count goes up or down by one, unless it is at its end
abbrev pub changed_at : Change → Stream → Option ℕ → Step
changed_at c s None = refuses NoSuchBuffer s
changed_at c s (Some k) = cond (blocked c (maps_of s.maps k)) (refuses (why_not c) s) (answers Done (with_maps s (moved c s.maps k)))

-- of the buffer that the offset and the length mean, of those granted; there are never more than 32
unfoldable pub change_of : Change → Stream → ℕ → ℕ → ℕ → Step
change_of c s size offset length = changed_at c s (slot_at (min s.queues.granted 32) size offset length)
