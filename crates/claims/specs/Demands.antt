-- The demands, of any machine. Each record is about one session: the sheet s and the memories m of its opening, and what was seen of it.
use Rattle.std.specs.Prelude.{ℕ, ◌+◌, ◌*◌, ◌/◌, ◌%◌, ◌≤◌, ◌<◌, ◌≡◌, ◌≢◌, true, false, ◌&&◌, List, [], ◌∷◌, ◌++◌, length, take, drop}
use Rattle.wire_read.specs.Words.{word_at}
use Rattle.wire_signed.specs.Signed.{signed_at}
use Rattle.ioctl_table.specs.Table.{request_of}
use Rattle.ioctl_table.specs.declared.table.Call.TheVariants.{SFmt, TryFmt, GFmt, Reqbufs, Querybuf, Qbuf, Dqbuf}
use Rattle.sheet_contents.specs.Contents.{format_count}
use Rattle.sheet_records.specs.Records.{format_code}
use Rattle.sheet_geometry.specs.Geometry.{widths_of, heights_of}
use Rattle.sheet_geometry.specs.declared.Range.{Range}
use Rattle.grid_rules.specs.Grid.{apart, size_at}
use Rattle.service_rules.specs.Services.{Each, has, offers}
use Rattle.service_rules.specs.Negotiation.{asked_at, union_of, io_size}
use Rattle.service_replies.specs.Halves.{half_at}
use Rattle.service_replies.specs.Services.{lines_at}
use Rattle.stream_slots.specs.Slot.{slot_offset}
use Rattle.stream_run.specs.Switches.{grant_of}
use Rattle.stream_arrival.specs.declared.Arrival.TheVariants.{Stored}
use Rattle.stream_maps.specs.declared.Change.{Change}
use Rattle.stream_maps.specs.declared.Change.TheVariants.{Map, Unmap}
use Rattle.stream_maps.specs.Maps.{most_maps, maps_of}
use Rattle.stream_run.specs.Stream.{reduced}
use Rattle.stream_arrival.specs.Arrivals.{run_limit, written_by}
use Rattle.stream_verdict.specs.declared.Verdict.TheVariants.{Running, Blank, Gaps, Complete}
use Rattle.stream_history.specs.Paper.{Event, wholes, dequeues, changes, Calm}
use Rattle.stream_history.specs.Paper.Event.{whole}
use Rattle.stream_history.specs.Claims.{◌⇔◌, mapped_on, times_in, times_out, AllHandedOver}
use Rattle.claims.specs.Calls.{Kind, type_of, Call, arrival_time}
use Rattle.claims.specs.Calls.Call.{request, arrival, change}
use Rattle.claims.specs.Machine.{Session, more, NoTrace}
use Rattle.claims.specs.Words.{told, seen_in, events_in, history_in, paper_in, papers_in, handed_in}
use Rattle.claims.specs.Desk.{desk_in}
use Rattle.claims.specs.Answers.{answer_on, plane_on}
use Rattle.claims.specs.Table.{first_number, kind_of, paper_at, opening_tests, request_tests, arrival_tests, change_tests, refused_by, arrived_on, arrival_number}

-- ---- demand 1: every call is answered by the table, and a refusal leaves no trace

pub record Demand1 (s : List ℕ) (m : Kind → List ℕ) (S : Session) : Type 0 where
  -- the opening gives the number of the table
  pub opening : S.opening ≡ first_number (opening_tests s (length (m Kind.pictures)) (length (m Kind.captions)))
  -- and so does every request
  pub requests : (cs : List Call) (w : ℕ) (a : List ℕ) → (S.request cs w a).number ≡ first_number (request_tests S.opening s (papers_in s S cs) w a)
  -- every arrival is refused by the table, or answered as the paper of its stream says
  pub arrivals : (cs : List Call) (t : ℕ) (f : List ℕ) (x y : ℕ) (other : List ℕ)
      → S.arrival cs t f x y other ≡ refused_by (arrival_tests S.opening (λ k. length (m k)) (papers_in s S cs) t (length other))
      (arrived_on (kind_of t) (papers_in s S cs (kind_of t)) (desk_in s S cs).services f (arrival_time x y))
  -- every map and every unmap gives the number of the table
  pub changes : (cs : List Call) (c : Change) (t o l : ℕ) → S.change cs c t o l ≡ first_number (change_tests S.opening (papers_in s S cs) c t o l)
  -- a refused request leaves its argument, and no trace
  pub kept : (cs : List Call) (w : ℕ) (a : List ℕ) → (S.request cs w a).number ≢ 0 → ((S.request cs w a).argument ≡ a) × NoTrace S cs (request w a)
  -- nor does a refused arrival
  pub passed : (cs : List Call) (t : ℕ) (f : List ℕ) (x y : ℕ) (other : List ℕ) → arrival_number (S.arrival cs t f x y other) ≢ 0 → NoTrace S cs (arrival t f x y other)
  -- nor does a refused map or unmap
  pub unturned : (cs : List Call) (c : Change) (t o l : ℕ) → S.change cs c t o l ≢ 0 → NoTrace S cs (change c t o l)
  -- an argument keeps its length: nothing is written beyond it
  pub long : (cs : List Call) (w : ℕ) (a : List ℕ) → length (S.request cs w a).argument ≡ length a
  -- an accepted buffer request grants the least of the count, 32 and the length of its stream's memory divided by the slot
  pub grants : (cs : List Call) (w : ℕ) (a : List ℕ) → (request_of w).call ≡ Reqbufs → (S.request cs w a).number ≡ 0
      → word_at (S.request cs w a).argument 0 ≡ grant_of (length (m (kind_of (word_at a 4)))) (word_at a 0) (paper_at (papers_in s S cs) a 4).size

-- ---- demand 2: trying a format predicts what setting it gives

-- the size of the grid nearest to the one asked, the smaller on a tie
pub record Nearest (r : Range) (asked got : ℕ) : Type 0 where
  pub place : ℕ
  pub is : got ≡ size_at r place
  pub most : got ≤ r.greatest
  pub near : (k : ℕ) → size_at r k ≤ r.greatest → apart got asked ≤ apart (size_at r k) asked
  pub tie : (k : ℕ) → size_at r k ≤ r.greatest → apart got asked ≡ apart (size_at r k) asked → got ≤ size_at r k

-- the code asked where the sheet offers it, and that of the first format where it does not
abbrev pub Offered : List ℕ → ℕ → Type 0
Offered s c = (k : ℕ) × (k < format_count s) × (format_code s k ≡ c)

pub record Chosen (s : List ℕ) (asked got : ℕ) : Type 0 where
  pub offered : Offered s asked → got ≡ asked
  pub otherwise : (Offered s asked → ⊥) → got ≡ format_code s 0

-- on each line all the services that were asked for there and are offered there, and no others; the union and the io size are those of the lines
pub record Fitting (a b : List ℕ) : Type 0 where
  pub lines : (k : ℕ) → k < 48 → Each (λ s. has (half_at b (6 + 2 * k)) s.bit ≡ (has (asked_at (half_at a 4) (lines_at a 6) k) s.bit && offers s (k / 24) (k % 24)))
  pub union : half_at b 4 ≡ union_of (lines_at b 6)
  pub size : word_at b 104 ≡ io_size (lines_at b 6)

pub record Demand2 (s : List ℕ) (S : Session) : Type 0 where
  -- TRY_FMT leaves no trace
  pub quiet : (cs : List Call) (t : ℕ) (a : List ℕ) → (request_of t).call ≡ TryFmt → NoTrace S cs (request t a)
  -- unless S_FMT gives 16, TRY_FMT gives the same number and the same argument
  pub same : (cs : List Call) (t u : ℕ) (a : List ℕ) → (request_of t).call ≡ TryFmt → (request_of u).call ≡ SFmt → (S.request cs u a).number ≢ 16
      → S.request cs t a ≡ S.request cs u a
  -- after an accepted S_FMT an accepted G_FMT of the same type gives the same argument
  pub got : (cs : List Call) (u g : ℕ) (a b : List ℕ) → (request_of u).call ≡ SFmt → (request_of g).call ≡ GFmt → word_at b 0 ≡ word_at a 0 → (S.request cs u a).number ≡ 0
      → (S.request (more cs (request u a)) g b).number ≡ 0 → (S.request (more cs (request u a)) g b).argument ≡ (S.request cs u a).argument
  -- an accepted TRY_FMT of pictures answers the nearest width and the nearest height
  pub widths : (cs : List Call) (t : ℕ) (a : List ℕ) → (request_of t).call ≡ TryFmt → word_at a 0 ≡ type_of Kind.pictures → (S.request cs t a).number ≡ 0
      → Nearest (widths_of s) (word_at a 4) (word_at (S.request cs t a).argument 4)
  pub heights : (cs : List Call) (t : ℕ) (a : List ℕ) → (request_of t).call ≡ TryFmt → word_at a 0 ≡ type_of Kind.pictures → (S.request cs t a).number ≡ 0
      → Nearest (heights_of s) (word_at a 8) (word_at (S.request cs t a).argument 8)
  -- with the code asked, or the first
  pub codes : (cs : List Call) (t : ℕ) (a : List ℕ) → (request_of t).call ≡ TryFmt → word_at a 0 ≡ type_of Kind.pictures → (S.request cs t a).number ≡ 0
      → Chosen s (word_at a 12) (word_at (S.request cs t a).argument 12)
  -- one of captions answers the services that fit
  pub services : (cs : List Call) (t : ℕ) (a : List ℕ) → (request_of t).call ≡ TryFmt → word_at a 0 ≡ type_of Kind.captions → (S.request cs t a).number ≡ 0
      → Fitting a (S.request cs t a).argument

-- ---- demand 3: the film is what arrived

-- of one stream, k: calls `before`, then an accepted QBUF of it, then calls `mid` in which no stop and no buffer request of it is accepted
module _ (s : List ℕ) (S : Session) (k : Kind) where
  module _ (before : List Call) (w : ℕ) (a : List ℕ) (mid : List Call) where
    abbrev pub up_to : List Call
    up_to = before ++ request w a ∷ mid

    -- what is told from the QBUF on
    abbrev pub since : List Event
    since = events_in s S k (more before (request w a)) (paper_in s S k (more before (request w a))) mid

    -- how many wait, and how many are filled, just before the QBUF
    abbrev pub i : ℕ
    i = length (paper_in s S k before).incoming

    abbrev pub o : ℕ
    o = length (paper_in s S k before).outgoing

    abbrev pub Accepted : Type 0
    Accepted = ((request_of w).call ≡ Qbuf) × (word_at a 4 ≡ type_of k) × ((S.request before w a).number ≡ 0) × Calm since

    -- the (i+1)th whole accepted arrival from there on is stored in the buffer: its answer says so, with the index and its number, which is
    -- the count of those accepted before it in the run, reduced, and its bytes then stand at the start of the slot
    abbrev pub StoredInIt : Type 0
    StoredInIt = (f : List ℕ) (x y : ℕ) (other : List ℕ) → Accepted → wholes since ≡ i
        → told k (paper_in s S k up_to) (arrival (type_of k) f x y other) (seen_in s S up_to (arrival (type_of k) f x y other)) ≡ whole f (arrival_time x y)
        → (S.arrival up_to (type_of k) f x y other ≡ Stored (word_at a 0) (reduced (paper_in s S k up_to).run.accepted))
        × (take (length f) (drop (slot_offset (word_at a 0) (paper_in s S k up_to).size) (S.memory k (more up_to (arrival (type_of k) f x y other)))) ≡ f)

  -- The whole accepted arrival among calls before which n whole ones came, all after those of h.
  pub record Comes (h : List Call) (cs : List Call) (n : ℕ) : Type 0 where
    pub front : List Call
    pub frame : List ℕ
    pub seconds : ℕ
    pub microseconds : ℕ
    pub other : List ℕ
    pub back : List Call
    pub is : cs ≡ front ++ arrival (type_of k) frame seconds microseconds other ∷ back
    pub accepted : told k (paper_in s S k (h ++ front)) (arrival (type_of k) frame seconds microseconds other) (seen_in s S (h ++ front) (arrival (type_of k) frame seconds microseconds other))
        ≡ whole frame (arrival_time seconds microseconds)
    pub place : wholes (events_in s S k h (paper_in s S k h) front) ≡ n

  module _ (before : List Call) (w : ℕ) (a : List ℕ) (mid : List Call) where
    -- the (o+i+1)th successful dequeue from there on returns it: the answer has its index, the arrival's number, length and times, and
    -- memory from the answered offset holds the arrival's bytes
    abbrev pub ReturnedWithIt : Type 0
    ReturnedWithIt = (v : ℕ) (c : List ℕ) → Accepted before w a mid → dequeues (since before w a mid) ≡ o before w a mid + i before w a mid
        → (request_of v).call ≡ Dqbuf → word_at c 4 ≡ type_of k → (S.request (up_to before w a mid) v c).number ≡ 0
        → (r : Comes (more before (request w a)) mid (i before w a mid))
        × (word_at (S.request (up_to before w a mid) v c).argument 0 ≡ word_at a 0)
        × (word_at (S.request (up_to before w a mid) v c).argument 44 ≡ reduced (paper_in s S k (up_to before w a r.front)).run.accepted)
        × (word_at (S.request (up_to before w a mid) v c).argument 8 ≡ length r.frame)
        × (signed_at (S.request (up_to before w a mid) v c).argument 20 ≡ (arrival_time r.seconds r.microseconds).seconds)
        × (signed_at (S.request (up_to before w a mid) v c).argument 24 ≡ (arrival_time r.seconds r.microseconds).microseconds)
        × (take (length r.frame) (drop (word_at (S.request (up_to before w a mid) v c).argument 52) (S.memory k (up_to before w a mid))) ≡ r.frame)

pub record Demand3 (s : List ℕ) (m : Kind → List ℕ) (S : Session) (k : Kind) : Type 0 where
  -- both halves hold of every QBUF
  pub stored : (before : List Call) (w : ℕ) (a : List ℕ) (mid : List Call) → StoredInIt s S k before w a mid
  pub returned : (before : List Call) (w : ℕ) (a : List ℕ) (mid : List Call) → ReturnedWithIt s S k before w a mid
  -- COMPLETE exactly when a run is over in which arrivals were accepted, all whole, stored and handed over
  pub complete : (cs : List Call) → (S.verdict cs (type_of k) ≡ Complete) ⇔ AllHandedOver (paper_in s S k cs) (handed_in s S k cs)
  -- an arrival of its type, whatever it is lent, writes there what it is answered, and nothing else
  pub lends : (cs : List Call) (f : List ℕ) (x y : ℕ) (other : List ℕ)
      → S.leaves cs (type_of k) f x y other ≡ written_by (S.arrival cs (type_of k) f x y other) (paper_in s S k cs).size other f
  -- its memory is as it was lent, until an arrival of its type is answered stored: that writes its bytes at the start of its slot, and nothing else does
  pub begins : S.memory k [] ≡ m k
  pub asks : (cs : List Call) (w : ℕ) (a : List ℕ) → S.memory k (more cs (request w a)) ≡ S.memory k cs
  pub maps : (cs : List Call) (c : Change) (t o l : ℕ) → S.memory k (more cs (change c t o l)) ≡ S.memory k cs
  pub writes : (cs : List Call) (f : List ℕ) (x y : ℕ) (other : List ℕ)
      → S.memory k (more cs (arrival (type_of k) f x y other)) ≡ written_by (S.arrival cs (type_of k) f x y other) (paper_in s S k cs).size (S.memory k cs) f
  pub elsewhere : (cs : List Call) (t : ℕ) (f : List ℕ) (x y : ℕ) (other : List ℕ) → t ≢ type_of k
      → S.memory k (more cs (arrival t f x y other)) ≡ S.memory k cs

-- ---- the counts, the buffers and the verdicts

pub record Counts (s : List ℕ) (S : Session) (k : Kind) : Type 0 where
  -- accepted = handed over + outgoing + damaged + dropped + discarded by its stop
  pub adds : (cs : List Call) → (paper_in s S k cs).run.accepted
      ≡ (paper_in s S k cs).run.handed + length (paper_in s S k cs).outgoing + (paper_in s S k cs).run.damaged + (paper_in s S k cs).run.dropped + (paper_in s S k cs).run.discarded
  -- and the counts that are told are those
  pub counted : (cs : List Call) → S.counts k cs ≡ (paper_in s S k cs).run
  -- all of them are within the limit of a run, so that none is told modulo anything
  pub within : (cs : List Call) → (paper_in s S k cs).run.accepted ≤ run_limit
  -- every buffer is in at most one of the two queues
  pub once : (cs : List Call) (j : ℕ) → times_in (paper_in s S k cs) j + times_out (paper_in s S k cs) j ≤ 1
  -- no other index is in any
  pub beyond : (cs : List Call) (j : ℕ) → (paper_in s S k cs).granted ≤ j → times_in (paper_in s S k cs) j + times_out (paper_in s S k cs) j ≡ 0
  -- the map count of a buffer is that of accepted maps less accepted unmaps, at most 255; only buffers that are granted are mapped
  pub tallied : (cs : List Call) (j : ℕ) → maps_of (paper_in s S k cs).maps j + changes Unmap j (history_in s S k cs) ≡ changes Map j (history_in s S k cs)
  pub most : (cs : List Call) (j : ℕ) → maps_of (paper_in s S k cs).maps j ≤ most_maps
  pub spare : (cs : List Call) (j : ℕ) → (paper_in s S k cs).granted ≤ j → maps_of (paper_in s S k cs).maps j ≡ 0
  -- the flags that QUERYBUF answers say in which it is, and whether it is mapped
  pub flags : (cs : List Call) (w : ℕ) (a : List ℕ) → (request_of w).call ≡ Querybuf → word_at a 4 ≡ type_of k → (S.request cs w a).number ≡ 0
      → word_at (S.request cs w a).argument 12 ≡ mapped_on (paper_in s S k cs) (word_at a 0) + 2 * times_in (paper_in s S k cs) (word_at a 0) + 4 * times_out (paper_in s S k cs) (word_at a 0)
  -- RUNNING in a run; else BLANK if none of the last run's arrivals was handed over, GAPS if some were and not all
  pub running : (cs : List Call) → (S.verdict cs (type_of k) ≡ Running) ⇔ ((paper_in s S k cs).running ≡ true)
  pub blank : (cs : List Call) → (S.verdict cs (type_of k) ≡ Blank) ⇔ (((paper_in s S k cs).running ≡ false) × ((paper_in s S k cs).run.handed ≡ 0))
  pub gaps : (cs : List Call) → (S.verdict cs (type_of k) ≡ Gaps)
      ⇔ (((paper_in s S k cs).running ≡ false) × (0 < (paper_in s S k cs).run.handed) × ((paper_in s S k cs).run.handed < (paper_in s S k cs).run.accepted))

-- ---- every answer

pub record Answers (s : List ℕ) (m : Kind → List ℕ) (S : Session) : Type 0 where
  -- an accepted request leaves in its argument what sheet, papers and desk say
  pub arguments : (cs : List Call) (w : ℕ) (a : List ℕ) → (S.request cs w a).number ≡ 0
      → (S.request cs w a).argument ≡ answer_on s (λ k. length (m k)) (papers_in s S cs) (desk_in s S cs) (request_of w).call a
  -- and so do planes
  pub planes : (cs : List Call) (n k : ℕ) → S.plane cs n k ≡ plane_on S.opening s (desk_in s S cs) n k
  -- of another type than those of the streams the verdict is BLANK, and an arrival leaves what it is lent
  pub others : (cs : List Call) (t : ℕ) → t ≢ type_of Kind.pictures → t ≢ type_of Kind.captions → S.verdict cs t ≡ Blank
  pub untouched : (cs : List Call) (t : ℕ) (f : List ℕ) (x y : ℕ) (other : List ℕ) → t ≢ type_of Kind.pictures → t ≢ type_of Kind.captions → S.leaves cs t f x y other ≡ other
