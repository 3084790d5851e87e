-- The two queues on paper, the maps, and what became of the arrivals of the last run: told from the calls and their answers alone.
use Rattle.std.specs.Prelude.{ℕ, zero, suc, ◌+◌, Bool, true, false, cond, ◌&&◌, List, [], ◌∷◌, ◌++◌, map, eqb, leb, length}
use Rattle.stream_words.specs.declared.Time.{Time}
use Rattle.stream_run.specs.Replies.{Reply}
use Rattle.stream_words.specs.Stream.{Run}
use Rattle.stream_run.specs.Stream.{fresh_run, stopped_run}
use Rattle.stream_run.specs.Replies.{Reply as replies}
use Rattle.stream_slots.specs.Slot.{buffer_at}
use Rattle.stream_maps.specs.declared.Change.{Change}
use Rattle.stream_maps.specs.declared.Change.TheVariants.{Map, Unmap}
use Rattle.stream_maps.specs.Maps.{no_maps, moved}
use Rattle.stream_arrival.specs.declared.Arrival.{Arrival}
use Rattle.stream_arrival.specs.declared.Arrival.TheVariants as arrivals
use Rattle.stream_history.specs.Calls.{Call, Answer, World, answer, next}
use Rattle.stream_history.specs.Calls.Call.{request, enqueue, dequeue, start, stop, resize, change, arrival, other}
use Rattle.stream_history.specs.Calls.Answer.{replied, arrived}

-- An arrival: its place in the run, which is how many were accepted before it, its time and its bytes.
pub record Frame : Type 0 where
  pub place : ℕ
  pub time : Time
  pub bytes : List ℕ

-- A buffer with the arrival that it holds.
pub record Pair : Type 0 where
  pub index : ℕ
  pub frame : Frame

-- the index of a pair
abbrev pub index_of : Pair → ℕ
index_of x = x.index

-- The frame size that was last accepted, how many buffers there are, whether a run is on, the last run's counts, the two queues, and how
-- often each buffer is mapped: accepted maps less accepted unmaps.
pub record Paper : Type 0 where
  pub size : ℕ
  pub granted : ℕ
  pub running : Bool
  pub run : Run
  pub incoming : List ℕ
  pub outgoing : List Pair
  pub maps : List ℕ

-- at opening: empty queues, no buffers, no run, no maps
abbrev pub blank : ℕ → Paper
blank size = record { size = size; granted = 0; running = false; run = fresh_run 0; incoming = []; outgoing = []; maps = no_maps }

-- What an accepted call means on paper.
pub data Event : Type 0 where
  put : ℕ → Event
  whole : List ℕ → Time → Event
  damaged : Event
  handed : Event
  begun : Event
  ended : ℕ → Event
  sized : ℕ → Event
  changed : Change → ℕ → Event
  idle : Event

-- ---- which event a call and its answer tell

abbrev pub refused_reply : Reply → Bool
refused_reply replies.Done = false
refused_reply (replies.Granted n) = false
refused_reply (replies.Returned f) = false
refused_reply (replies.Refused why) = true

abbrev pub refused_arrival : Arrival → Bool
refused_arrival (arrivals.Refused why) = true
refused_arrival arrivals.Ignored = false
refused_arrival arrivals.Damaged = false
refused_arrival arrivals.Dropped = false
refused_arrival (arrivals.Stored k n) = false

-- how many buffers a reply grants
abbrev pub grant_in : Reply → ℕ
grant_in replies.Done = 0
grant_in (replies.Granted n) = n
grant_in (replies.Returned f) = 0
grant_in (replies.Refused why) = 0

-- an arrival in a run is whole by the caller's rule and no longer than the frame size, or damaged
abbrev pub arrived_whole : Paper → List ℕ → Time → Bool → Event
arrived_whole p b t w = cond (w && leb (length b) p.size) (whole b t) damaged

-- a call that was replied and not refused
abbrev pub replied_told : Paper → Call → Reply → Event
replied_told p (request n) r = ended (grant_in r)
replied_told p (enqueue k) r = put k
replied_told p dequeue r = handed
replied_told p start r = cond p.running idle begun
replied_told p stop r = ended p.granted
replied_told p (resize n) r = sized n
replied_told p (change c o l) r = changed c (buffer_at p.size o)
replied_told p (arrival b t w lends) r = idle
replied_told p other r = idle

-- an arrival that was not refused is accepted inside a run, and ignored outside
abbrev pub arrived_told : Paper → Call → Event
arrived_told p (request n) = idle
arrived_told p (enqueue k) = idle
arrived_told p dequeue = idle
arrived_told p start = idle
arrived_told p stop = idle
arrived_told p (resize n) = idle
arrived_told p (change c o l) = idle
arrived_told p (arrival b t w lends) = cond p.running (arrived_whole p b t w) idle
arrived_told p other = idle

-- a refused call tells nothing
abbrev pub told : Paper → Call → Answer → Event
told p c (replied r) = cond (refused_reply r) idle (replied_told p c r)
told p c (arrived a) = cond (refused_arrival a) idle (arrived_told p c)

-- ---- what the events do on paper

-- what is left when the first leaves
abbrev pub rest : {A : Type 0} → List A → List A
rest [] = []
rest (x ∷ xs) = xs

-- the arrival that comes next
abbrev pub frame_of : Paper → List ℕ → Time → Frame
frame_of p b t = record { place = p.run.accepted; time = t; bytes = b }

-- the outgoing queue after a whole arrival, by the incoming one
abbrev pub filled : List ℕ → Frame → List Pair → List Pair
filled [] f o = o
filled (k ∷ i) f o = o ++ (record { index = k; frame = f } ∷ [])

-- a whole arrival that finds no incoming buffer is dropped
abbrev pub drops : List ℕ → ℕ
drops [] = 1
drops (k ∷ i) = 0

-- the counts of the run after an event
abbrev pub count : Paper → Event → Run
count p (put k) = p.run
count p (whole b t) =
    record { ran = p.run.ran; accepted = p.run.accepted + 1; handed = p.run.handed; damaged = p.run.damaged; dropped = p.run.dropped + drops p.incoming; discarded = p.run.discarded }
count p damaged =
    record { ran = p.run.ran; accepted = p.run.accepted + 1; handed = p.run.handed; damaged = p.run.damaged + 1; dropped = p.run.dropped; discarded = p.run.discarded }
count p handed =
    record { ran = p.run.ran; accepted = p.run.accepted; handed = p.run.handed + 1; damaged = p.run.damaged; dropped = p.run.dropped; discarded = p.run.discarded }
count p begun = fresh_run 1
count p (ended n) = cond p.running (stopped_run p.run (length p.outgoing)) p.run
count p (sized n) = p.run
count p (changed c k) = p.run
count p idle = p.run

-- the paper after an event
abbrev pub step : Paper → Event → Paper
step p (put k) = record { size = p.size; granted = p.granted; running = p.running; run = count p (put k); incoming = p.incoming ++ (k ∷ []); outgoing = p.outgoing; maps = p.maps }
step p (whole b t) =
    record { size = p.size; granted = p.granted; running = p.running; run = count p (whole b t); incoming = rest p.incoming; outgoing = filled p.incoming (frame_of p b t) p.outgoing; maps = p.maps }
step p damaged = record { size = p.size; granted = p.granted; running = p.running; run = count p damaged; incoming = p.incoming; outgoing = p.outgoing; maps = p.maps }
step p handed = record { size = p.size; granted = p.granted; running = p.running; run = count p handed; incoming = p.incoming; outgoing = rest p.outgoing; maps = p.maps }
step p begun = record { size = p.size; granted = p.granted; running = true; run = count p begun; incoming = p.incoming; outgoing = p.outgoing; maps = p.maps }
step p (ended n) = record { size = p.size; granted = n; running = false; run = count p (ended n); incoming = []; outgoing = []; maps = p.maps }
step p (sized n) = record { size = n; granted = p.granted; running = p.running; run = count p (sized n); incoming = p.incoming; outgoing = p.outgoing; maps = p.maps }
-- a map, or an unmap: nothing is told to the queues
step p (changed c k) =
    record { size = p.size; granted = p.granted; running = p.running; run = count p (changed c k); incoming = p.incoming; outgoing = p.outgoing; maps = moved c p.maps k }
step p idle = p

-- the paper after a list of events
abbrev pub noted : Paper → List Event → Paper
noted p [] = p
noted p (e ∷ es) = noted (step p e) es

-- the place in the run of the arrival in a pair
abbrev pub place_in_run : Pair → ℕ
place_in_run x = x.frame.place

-- the first of a list, alone
abbrev pub first : {A : Type 0} → List A → List A
first [] = []
first (x ∷ xs) = x ∷ []

-- the places of the arrivals that were handed over in the run, after an event
abbrev pub given : Paper → List ℕ → Event → List ℕ
given p l (put k) = l
given p l (whole b t) = l
given p l damaged = l
given p l handed = l ++ map place_in_run (first p.outgoing)
given p l begun = []
given p l (ended n) = l
given p l (sized n) = l
given p l (changed c k) = l
given p l idle = l

-- and after a list of events
abbrev pub handed_over : Paper → List ℕ → List Event → List ℕ
handed_over p l [] = l
handed_over p l (e ∷ es) = handed_over (step p e) (given p l e) es

-- the numbers below n, in their order
abbrev pub numbers_below : ℕ → List ℕ
numbers_below zero = []
numbers_below (suc n) = numbers_below n ++ (n ∷ [])

-- the events that a list of calls and their answers tell, on any machine: how it answers, what it leaves, what that tells
abbrev pub tells : {W C A : Type 0} → (W → C → A) → (W → C → W) → (Paper → C → A → Event) → W → Paper → List C → List Event
tells a n t w p [] = []
tells a n t w p (c ∷ cs) = t p c (a w c) ∷ tells a n t (n w c) (step p (t p c (a w c))) cs

-- the events that a list of calls and their answers tell
abbrev pub events : World → Paper → List Call → List Event
events w p cs = tells answer next told w p cs

-- ---- counting events

-- how many whole arrivals
abbrev pub wholes : List Event → ℕ
wholes [] = 0
wholes (put k ∷ es) = wholes es
wholes (whole b t ∷ es) = suc (wholes es)
wholes (damaged ∷ es) = wholes es
wholes (handed ∷ es) = wholes es
wholes (begun ∷ es) = wholes es
wholes (ended n ∷ es) = wholes es
wholes (sized n ∷ es) = wholes es
wholes (changed c k ∷ es) = wholes es
wholes (idle ∷ es) = wholes es

-- how many successful dequeues
abbrev pub dequeues : List Event → ℕ
dequeues [] = 0
dequeues (put k ∷ es) = dequeues es
dequeues (whole b t ∷ es) = dequeues es
dequeues (damaged ∷ es) = dequeues es
dequeues (handed ∷ es) = suc (dequeues es)
dequeues (begun ∷ es) = dequeues es
dequeues (ended n ∷ es) = dequeues es
dequeues (sized n ∷ es) = dequeues es
dequeues (changed c k ∷ es) = dequeues es
dequeues (idle ∷ es) = dequeues es

-- how many maps of buffer k, and how many unmaps: each is a change of that sort
abbrev pub same_sort : Change → Change → Bool
same_sort Map Map = true
same_sort Unmap Unmap = true
same_sort Map Unmap = false
same_sort Unmap Map = false

abbrev pub changes : Change → ℕ → List Event → ℕ
changes c k [] = 0
changes c k (put j ∷ es) = changes c k es
changes c k (whole b t ∷ es) = changes c k es
changes c k (damaged ∷ es) = changes c k es
changes c k (handed ∷ es) = changes c k es
changes c k (begun ∷ es) = changes c k es
changes c k (ended n ∷ es) = changes c k es
changes c k (sized n ∷ es) = changes c k es
changes c k (changed d j ∷ es) = cond (same_sort c d && eqb j k) 1 0 + changes c k es
changes c k (idle ∷ es) = changes c k es

-- no stop and no buffer request is accepted
abbrev pub Calm : List Event → Type 0
Calm [] = Unit {0}
Calm (put k ∷ es) = Calm es
Calm (whole b t ∷ es) = Calm es
Calm (damaged ∷ es) = Calm es
Calm (handed ∷ es) = Calm es
Calm (begun ∷ es) = Calm es
Calm (ended n ∷ es) = ⊥
Calm (sized n ∷ es) = Calm es
Calm (changed c k ∷ es) = Calm es
Calm (idle ∷ es) = Calm es
