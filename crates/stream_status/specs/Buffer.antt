-- The status of a buffer, as QUERYBUF, QBUF and DQBUF tell it.
use Rattle.std.specs.Prelude.{ℕ, ◌+◌, Bool, cond, List, leb, Result, Ok, Err}
use Rattle.ioctl_table.specs.declared.refusals.Refusal.{Refusal}
use Rattle.ioctl_table.specs.declared.refusals.Refusal.TheVariants.{NoSuchIndex}
use Rattle.stream_words.specs.declared.Filled.{Filled}
use Rattle.stream_words.specs.declared.Standing.{Standing}
use Rattle.stream_words.specs.declared.Standing.TheVariants.{Dequeued, Incoming, Outgoing}
use Rattle.stream_slots.specs.Slot.{slot_size, slot_offset}
use Rattle.stream_words.specs.Stream.{Stream}
use Rattle.stream_words.specs.Moves.{no_frame, standing_of}
use Rattle.stream_maps.specs.Maps.{is_mapped}
use Rattle.stream_status.specs.declared.Status.{Status}

-- flag 4 if outgoing, 2 if incoming, none if dequeued
abbrev pub flags_for : Standing → ℕ
flags_for Dequeued = 0
flags_for Incoming = 2
flags_for (Outgoing f) = 4

-- and flag 1 while it is mapped
abbrev pub flags_of : Bool → Standing → ℕ
flags_of mapped t = cond mapped 1 0 + flags_for t

-- the frame in it, zeros unless it is outgoing
abbrev pub frame_for : Standing → Filled
frame_for Dequeued = no_frame
frame_for Incoming = no_frame
frame_for (Outgoing f) = f

-- buffer k starts at k slots and is a slot long; bytes used, time and number are those of the frame in it
unfoldable pub described_of : ℕ → ℕ → Filled → ℕ → Status
described_of k flags f size =
    record { index = k; used = f.used; flags = flags; number = f.number; offset = slot_offset k size; length = slot_size size; time = f.time }

-- QUERYBUF and QBUF
unfoldable pub status_of : Stream → ℕ → ℕ → Status
status_of s k size = described_of k (flags_of (is_mapped s.maps k) (standing_of s.queues k)) (frame_for (standing_of s.queues k)) size

-- of a buffer that QBUF took, the map counts being m: it waits then, unless the line was full
unfoldable pub queued_of : List ℕ → ℕ → Bool → ℕ → Status
queued_of m k room size = described_of k (flags_of (is_mapped m k) (cond room Incoming Dequeued)) no_frame size

-- of a buffer that is there
unfoldable pub query_of : Stream → ℕ → ℕ → Result Status Refusal
query_of s k size = cond (leb s.queues.granted k) (Err NoSuchIndex) (Ok (status_of s k size))

-- DQBUF: the entry handed over, now in neither queue, the map counts being m
unfoldable pub returned_of : List ℕ → Filled → ℕ → Status
returned_of m f size = described_of f.index (flags_of (is_mapped m f.index) Dequeued) f size
