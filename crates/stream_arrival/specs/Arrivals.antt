-- What becomes of an arrival. The checks run in this order: memory length, streaming, run limit, damage, a buffer.
use Rattle.std.specs.Prelude.{ℕ, ◌+◌, ◌%◌, ◌^◌, Bool, cond, not, ◌&&◌, List, ◌==◌, nat_le, Option, Some, None}
use Rattle.std.proofs.lemmas.List.Edits.{sets}
use Rattle.ioctl_table.specs.declared.refusals.Refusal.TheVariants.{MemoryLength, RunFull}
use Rattle.stream_words.specs.declared.Time.{Time}
use Rattle.stream_slots.specs.Slot.{slot_offset}
use Rattle.stream_words.specs.Stream.{Run, Stream, with_run, on_queues}
use Rattle.stream_words.specs.Moves.{next_of, filled_oldest}
use Rattle.stream_run.specs.Stream.{one_more, streaming}
use Rattle.stream_arrival.specs.declared.Arrival.{Arrival}
use Rattle.stream_arrival.specs.declared.Arrival.TheVariants.{Refused, Ignored, Damaged, Dropped, Stored}

-- how many arrivals a run can accept
abbrev pub run_limit : ℕ
run_limit = 9223372036854775807

-- one more arrival of the run is accepted
abbrev pub counted_run : Run → Run
counted_run r =
    record { ran = r.ran; accepted = r.accepted + 1; handed = r.handed; damaged = r.damaged; dropped = r.dropped; discarded = r.discarded }

-- one more in a number of 32 bits: it goes back to 0 after 4,294,967,295
abbrev pub next_number : ℕ → ℕ
next_number n = (n + 1) % 2 ^ 32

-- with the arrival that is accepted the number goes on
abbrev pub counted : Stream → Stream
counted s = record { length = s.length; streaming = s.streaming; run = counted_run s.run; number = next_number s.number; queues = s.queues; maps = s.maps }

-- one more was damaged
abbrev pub damaged_run : Run → Run
damaged_run r =
    record { ran = r.ran; accepted = r.accepted; handed = r.handed; damaged = one_more r.damaged; dropped = r.dropped; discarded = r.discarded }

-- one more was dropped
abbrev pub dropped_run : Run → Run
dropped_run r =
    record { ran = r.ran; accepted = r.accepted; handed = r.handed; damaged = r.damaged; dropped = one_more r.dropped; discarded = r.discarded }

-- the answer to an arrival, and the stream after it
pub record Arrived : Type 0 where
  pub arrival : Arrival
  pub stream : Stream

abbrev pub arrived_as : Arrival → Stream → Arrived
arrived_as a s = record { arrival = a; stream = s }

-- stored in the buffer that has waited longest, or dropped if none waits
abbrev pub placed_in : Option ℕ → Stream → ℕ → ℕ → Time → Arrived
placed_in None s number n time = arrived_as Dropped (with_run s (dropped_run s.run))
placed_in (Some k) s number n time = arrived_as (Stored k number) (on_queues (λ q. filled_oldest q number n time) s)

-- a whole frame of n bytes with its number, counted already
unfoldable pub placed_of : Stream → ℕ → ℕ → Time → Arrived
placed_of s number n time = placed_in (next_of s.queues.incoming) s number n time

-- an accepted arrival, counted already: damaged unless it is whole by the caller's rule and no longer than the frame size
unfoldable pub accepted_of : Stream → ℕ → ℕ → Bool → ℕ → Time → Arrived
accepted_of s number n whole size time =
    cond (whole && nat_le n size) (placed_of s number n time) (arrived_as Damaged (with_run s (damaged_run s.run)))

-- an arrival of n bytes with a memory of another length, outside a run, behind the run's last; else it is accepted, with the number that was next
unfoldable pub arrival_of : Stream → ℕ → ℕ → Bool → ℕ → Time → Arrived
arrival_of s lent n whole size time =
    cond (not (lent == s.length)) (arrived_as (Refused MemoryLength) s)
    (cond (not (streaming s)) (arrived_as Ignored s)
    (cond (nat_le run_limit s.run.accepted) (arrived_as (Refused RunFull) s)
    (accepted_of (counted s) s.number n whole size time)))

-- what is written: the frame at the start of the slot that it is stored in, nothing for any other answer
abbrev pub written_by : Arrival → ℕ → List ℕ → List ℕ → List ℕ
written_by (Refused why) size m f = m
written_by Ignored size m f = m
written_by Damaged size m f = m
written_by Dropped size m f = m
written_by (Stored k number) size m f = sets m (slot_offset k size) f
