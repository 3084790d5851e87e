-- How buffers move between the queues.
use Rattle.std.specs.Prelude.{ℕ, ◌+◌, Bool, cond, List, [], ◌∷◌, ◌++◌, ltb, eqb, pos, length, Option, Some, None}
use Rattle.stream_words.specs.declared.Time.{Time}
use Rattle.stream_words.specs.declared.Filled.{Filled}
use Rattle.stream_words.specs.declared.Standing.{Standing}
use Rattle.stream_words.specs.declared.Standing.TheVariants.{Dequeued, Incoming, Outgoing}
use Rattle.wire_read.specs.Lists.{any, first, rest}
use Rattle.stream_words.specs.Stream.{Queues}

-- an entry of zeros
abbrev pub no_frame : Filled
no_frame = record { index = 0; number = 0; used = 0; time = record { seconds = pos 0; microseconds = pos 0 } }

-- an entry is that of buffer k
abbrev pub of_buffer : ℕ → Filled → Bool
of_buffer k f = eqb f.index k

-- whether buffer k is incoming
unfoldable pub is_incoming : Queues → ℕ → Bool
is_incoming q k = any (λ x. eqb x k) q.incoming

-- whether buffer k is outgoing
unfoldable pub is_outgoing : Queues → ℕ → Bool
is_outgoing q k = any (of_buffer k) q.outgoing

-- the outgoing entry of buffer k, zeros where there is none
unfoldable pub entry_of : Queues → ℕ → Filled
entry_of q k = first (of_buffer k) no_frame q.outgoing

-- the first of the frames
abbrev pub oldest_of : List Filled → Option Filled
oldest_of [] = None
oldest_of (f ∷ o) = Some f

-- the first of the buffers that wait
abbrev pub next_of : List ℕ → Option ℕ
next_of [] = None
next_of (k ∷ i) = Some k

-- n buffers, all dequeued
unfoldable pub emptied : ℕ → Queues
emptied n = record { granted = n; incoming = []; outgoing = [] }

-- there is room for 32 in both queues together
abbrev pub has_room : Queues → Bool
has_room q = ltb (length q.outgoing + length q.incoming) 32

-- k joins the incoming ones, last, if there is room
unfoldable pub pushed : Queues → ℕ → Queues
pushed q k =
    cond (has_room q)
    (record { granted = q.granted; incoming = q.incoming ++ (k ∷ []); outgoing = q.outgoing })
    q

-- these wait for a frame: the first of them gets this one, and becomes the youngest outgoing one
abbrev pub filled_by : List ℕ → Queues → ℕ → ℕ → Time → Queues
filled_by [] q number used time = q
filled_by (k ∷ i) q number used time =
    record {
      granted = q.granted;
      incoming = i;
      outgoing = q.outgoing ++ (record { index = k; number = number; used = used; time = time } ∷ []);
    }

-- the oldest incoming buffer becomes the youngest outgoing one, with a frame of this number, length and time
unfoldable pub filled_oldest : Queues → ℕ → ℕ → Time → Queues
filled_oldest q number used time = filled_by q.incoming q number used time

-- the oldest outgoing buffer is dequeued
unfoldable pub popped : Queues → Queues
popped q = record { granted = q.granted; incoming = q.incoming; outgoing = rest q.outgoing }

-- which queue buffer k is in, and the frame that it holds
unfoldable pub standing_of : Queues → ℕ → Standing
standing_of q k = cond (is_outgoing q k) (Outgoing (entry_of q k)) (cond (is_incoming q k) Incoming Dequeued)
