-- Our device and its memories between two calls, and what was to be proved of them.
use mathlib.Core.Path.{◌≡◌}
use Prim.Native.Nat.{ℕ, ◌+◌}
use mathlib.Core.List.{List, [], ◌∷◌, ◌++◌}
use lib.ListN.{length, take, drop}
use Rattle.wire_read.specs.Words.{word_at}
use Rattle.wire_signed.specs.Signed.{signed_at}
use Rattle.ioctl_table.specs.Table.{request_of}
use Rattle.ioctl_table.specs.declared.table.Call.TheVariants.{Qbuf, Dqbuf}
use Rattle.stream_slots.specs.Slot.{slot_offset}
use Rattle.stream_run.specs.Stream.{reduced}
use Rattle.stream_arrival.specs.declared.Arrival.TheVariants.{Stored}
use Rattle.device_state.specs.State.{State}
use Rattle.device_state.specs.Answers.{Answer}
use Rattle.request_topics.specs.Request.{request_answer}
use Rattle.device_opening.specs.Opening.{opened_of}
use Rattle.device_film.specs.Film.{Taken, taken_of, taken_memory, device_verdict}
use Rattle.device_maps.specs.Mapping.{mapped_of}
use Rattle.device_planes.specs.Planes.{device_place}
use Rattle.stream_history.specs.Calls.{leaves}
use Rattle.stream_history.specs.Paper.{Paper, Event, blank, noted, wholes, dequeues, Calm, handed_over, tells}
use Rattle.stream_history.specs.Paper.Event.{whole}
use Rattle.claims.specs.Calls.{Kind, type_of, Call, Reply, arrival_time}
use Rattle.claims.specs.Calls.Call.{request, arrival, change}
use Rattle.claims.specs.Calls.Reply.{answered, taken, numbered}
use Rattle.claims.specs.Machine.{Machine}
use Rattle.claims.specs.Words.{told, opening_size}
use Rattle.claims.specs.Device.{lent_to, kept_on, stream_of}

-- A device and its memories.
pub record Box : Type 0 where
  pub sheet : List ℕ
  pub state : State
  pub memory : Kind → List ℕ

-- after an opening with any sheet, and memories holding anything
abbrev pub opened : List ℕ → (Kind → List ℕ) → Box
opened s m = record {
  sheet = (opened_of s (length (m Kind.pictures)) (length (m Kind.captions))).device.sheet;
  state = (opened_of s (length (m Kind.pictures)) (length (m Kind.captions))).device.state;
  memory = m;
}

-- what a request answers and leaves
abbrev pub asks : Box → ℕ → List ℕ → Answer
asks b w a = request_answer b.sheet b.state w a

-- what an arrival of a type answers and leaves
abbrev pub arrives : Box → ℕ → List ℕ → ℕ → ℕ → List ℕ → Taken
arrives b t f x y other = taken_of b.state t (length (lent_to b.memory t other)) f (arrival_time x y)

-- what a call gives back
abbrev pub reply : Box → Call → Reply
reply b (request w a) = answered (asks b w a).number (asks b w a).argument
reply b (arrival t f x y other) = taken (arrives b t f x y other).arrival
reply b (change c t o l) = numbered (mapped_of c b.state t o l).number

-- with the services in force before it
abbrev pub seen : Box → Call → Reply × List ℕ
seen b c = (reply b c, b.state.services)

-- what a call leaves
abbrev pub next : Box → Call → Box
next b (request w a) = record { sheet = b.sheet; state = (asks b w a).state; memory = b.memory }
next b (arrival t f x y other) =
    record {
      sheet = b.sheet;
      state = (arrives b t f x y other).state;
      memory = kept_on b.memory t other (taken_memory b.state t (lent_to b.memory t other) f (arrival_time x y));
    }
next b (change c t o l) = record { sheet = b.sheet; state = (mapped_of c b.state t o l).state; memory = b.memory }

-- what a list of calls leaves
abbrev pub after : Box → List Call → Box
after b cs = leaves next b cs

-- the events that a list of calls tells a stream
abbrev pub events : Kind → Box → Paper → List Call → List Event
events k b p cs = tells seen next (told k) b p cs

-- its two queues and counts on paper after a list of calls
abbrev pub paper_after : List ℕ → (Kind → List ℕ) → Kind → List Call → Paper
paper_after s m k cs = noted (blank (opening_size s k)) (events k (opened s m) (blank (opening_size s k)) cs)

-- the numbers of the arrivals handed over in the last run
abbrev pub handed_after : List ℕ → (Kind → List ℕ) → Kind → List Call → List ℕ
handed_after s m k cs = handed_over (blank (opening_size s k)) [] (events k (opened s m) (blank (opening_size s k)) cs)

-- device and memories after them
abbrev pub box_after : List ℕ → (Kind → List ℕ) → List Call → Box
box_after s m cs = after (opened s m) cs

-- the device as a machine
abbrev pub ours : Machine
ours s m = record {
  opening = (opened_of s (length (m Kind.pictures)) (length (m Kind.captions))).number;
  request = λ cs w a. record { number = (asks (box_after s m cs) w a).number; argument = (asks (box_after s m cs) w a).argument };
  arrival = λ cs t f x y other. (arrives (box_after s m cs) t f x y other).arrival;
  leaves = λ cs t f x y other. taken_memory (box_after s m cs).state t other f (arrival_time x y);
  change = λ cs c t o l. (mapped_of c (box_after s m cs).state t o l).number;
  memory = λ k cs. (box_after s m cs).memory k;
  counts = λ k cs. (stream_of k (box_after s m cs).state).run;
  verdict = λ cs t. device_verdict (box_after s m cs).state t;
  plane = λ cs n k. device_place (box_after s m cs).sheet (box_after s m cs).state n k;
}

-- of one stream: calls `before`, then an accepted QBUF of it, then calls `mid` in which no stop and no buffer request of it is accepted
module _ (s : List ℕ) (m : Kind → List ℕ) (k : Kind) (before : List Call) (w : ℕ) (a : List ℕ) (mid : List Call) where
  -- with the QBUF, and with the calls after it
  abbrev pub queued : List Call
  queued = before ++ request w a ∷ []

  abbrev pub up_to : List Call
  up_to = before ++ request w a ∷ mid

  -- what is told from the QBUF on
  abbrev pub since : List Event
  since = events k (box_after s m queued) (paper_after s m k queued) mid

  -- i and o, just before the QBUF
  abbrev pub i : ℕ
  i = length (paper_after s m k before).incoming

  abbrev pub o : ℕ
  o = length (paper_after s m k before).outgoing

  abbrev pub Accepted : Type 0
  Accepted = ((request_of w).call ≡ Qbuf) × (word_at a 4 ≡ type_of k) × ((b : List ℕ) × (reply (box_after s m before) (request w a) ≡ answered 0 b)) × Calm since

  -- the (i+1)th whole accepted arrival from there on is stored in the buffer: its answer says so, with the index and its number, and
  -- its bytes then stand at the start of the slot
  abbrev pub StoredInIt : Type 0
  StoredInIt = (f : List ℕ) (x y : ℕ) (other : List ℕ) → Accepted → wholes since ≡ i
      → told k (paper_after s m k up_to) (arrival (type_of k) f x y other) (seen (box_after s m up_to) (arrival (type_of k) f x y other)) ≡ whole f (arrival_time x y)
      → (reply (box_after s m up_to) (arrival (type_of k) f x y other) ≡ taken (Stored (word_at a 0) (reduced (paper_after s m k up_to).run.accepted)))
      × (take (length f) (drop (slot_offset (word_at a 0) (paper_after s m k up_to).size) ((next (box_after s m up_to) (arrival (type_of k) f x y other)).memory k)) ≡ f)

-- The whole accepted arrival among calls before which n whole ones came.
pub record ArrivalAmong (k : Kind) (b : Box) (p : Paper) (cs : List Call) (n : ℕ) : Type 0 where
  pub front : List Call
  pub frame : List ℕ
  pub seconds : ℕ
  pub microseconds : ℕ
  pub other : List ℕ
  pub back : List Call
  pub is : cs ≡ front ++ arrival (type_of k) frame seconds microseconds other ∷ back
  pub accepted : told k (noted p (events k b p front)) (arrival (type_of k) frame seconds microseconds other) (seen (after b front) (arrival (type_of k) frame seconds microseconds other))
      ≡ whole frame (arrival_time seconds microseconds)
  pub place : wholes (events k b p front) ≡ n

module _ (s : List ℕ) (m : Kind → List ℕ) (k : Kind) (before : List Call) (w : ℕ) (a : List ℕ) (mid : List Call) where
  -- the (o+i+1)th successful dequeue from there on returns it: the answer has its index, the arrival's number, length and times, and
  -- memory from the answered offset holds the arrival's bytes
  abbrev pub ReturnedWithIt : Type 0
  ReturnedWithIt = (v : ℕ) (c b : List ℕ) → Accepted s m k before w a mid → dequeues (since s m k before w a mid) ≡ o s m k before w a mid + i s m k before w a mid
      → (request_of v).call ≡ Dqbuf → word_at c 4 ≡ type_of k → reply (box_after s m (up_to s m k before w a mid)) (request v c) ≡ answered 0 b
      → (r : ArrivalAmong k (box_after s m (queued s m k before w a mid)) (paper_after s m k (queued s m k before w a mid)) mid (i s m k before w a mid))
      × (word_at b 0 ≡ word_at a 0)
      × (word_at b 44 ≡ reduced (paper_after s m k (up_to s m k before w a r.front)).run.accepted)
      × (word_at b 8 ≡ length r.frame)
      × (signed_at b 20 ≡ (arrival_time r.seconds r.microseconds).seconds)
      × (signed_at b 24 ≡ (arrival_time r.seconds r.microseconds).microseconds)
      × (take (length r.frame) (drop (word_at b 52) ((box_after s m (up_to s m k before w a mid)).memory k)) ≡ r.frame)
