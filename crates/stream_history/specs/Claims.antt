-- The claims about every list of calls on one stream, from its opening.
use Rattle.std.specs.Prelude.{◌≡◌, ℕ, ◌+◌, ◌*◌, ◌≤◌, ◌<◌, Bool, true, false, cond, List, [], ◌∷◌, ◌++◌, map, eqb, length, take, drop}
use Rattle.stream_words.specs.declared.Time.{Time}
use Rattle.stream_words.specs.declared.Filled.{Filled}
use Rattle.stream_slots.specs.Slot.{slot_offset}
use Rattle.stream_run.specs.Replies.Reply.{Done, Granted, Returned}
use Rattle.stream_run.specs.Stream.{one_more, reduced, Numbered}
use Rattle.stream_words.specs.Moves.{standing_of}
use Rattle.stream_arrival.specs.declared.Arrival.TheVariants.{Stored}
use Rattle.stream_arrival.specs.Arrivals.{run_limit}
use Rattle.stream_maps.specs.declared.Change.TheVariants.{Map, Unmap}
use Rattle.stream_maps.specs.Maps.{most_maps, maps_of, is_mapped}
use Rattle.stream_status.specs.Buffer.{flags_of}
use Rattle.stream_verdict.specs.Film.{verdict_of}
use Rattle.stream_verdict.specs.declared.Verdict.TheVariants.{Running, Blank, Gaps, Complete}
use Rattle.stream_history.specs.Calls.{Call, World, opened, answer, next, after}
use Rattle.stream_history.specs.Calls.Call.{request, enqueue, dequeue, arrival}
use Rattle.stream_history.specs.Calls.Answer.{replied, arrived}
use Rattle.stream_history.specs.Paper.{Paper, Event, blank, index_of, told, noted, events, changes, wholes, dequeues, Calm, handed_over, numbers_below}
use Rattle.stream_history.specs.Paper.Event.{whole}

-- the paper after a list of calls from an opening
abbrev pub paper_after : ℕ → List ℕ → List Call → Paper
paper_after size m cs = noted (blank size) (events (opened size m) (blank size) cs)

-- the stream, frame size and memory after them
abbrev pub world_after : ℕ → List ℕ → List Call → World
world_after size m cs = after (opened size m) cs

-- n bytes of memory from the start of buffer k
abbrev pub slot_bytes : World → ℕ → ℕ → List ℕ
slot_bytes w k n = take n (drop (slot_offset k w.size) w.memory)

-- one exactly when the other
infixl 20 ◌⇔◌
abbrev pub ◌⇔◌ : Type 0 → Type 0 → Type 0
A ⇔ B = (A → B) × (B → A)

-- ---- a. every buffer is in exactly one of dequeued, incoming, outgoing

-- how often k stands in a list
abbrev pub times : ℕ → List ℕ → ℕ
times k [] = 0
times k (x ∷ xs) = cond (eqb x k) 1 0 + times k xs

-- how often buffer k is incoming, and outgoing
abbrev pub times_in : Paper → ℕ → ℕ
times_in p k = times k p.incoming

abbrev pub times_out : Paper → ℕ → ℕ
times_out p k = times k (map index_of p.outgoing)

-- 1 while buffer k is mapped
abbrev pub mapped_on : Paper → ℕ → ℕ
mapped_on p k = cond (is_mapped p.maps k) 1 0

-- at most once in both together; never, if there is no such buffer; and the flags that the stream tells say which, and whether it is mapped
abbrev pub OnePlace : Type 0
OnePlace = (size : ℕ) (m : List ℕ) (cs : List Call) (k : ℕ)
    → (times_in (paper_after size m cs) k + times_out (paper_after size m cs) k ≤ 1)
    × ((paper_after size m cs).granted ≤ k → times_in (paper_after size m cs) k + times_out (paper_after size m cs) k ≡ 0)
    × (flags_of (is_mapped (world_after size m cs).stream.maps k) (standing_of (world_after size m cs).stream.queues k)
    ≡ mapped_on (paper_after size m cs) k + 2 * times_in (paper_after size m cs) k + 4 * times_out (paper_after size m cs) k)

-- the map count of buffer k is that of the maps that were accepted less the unmaps, it is at most 255, and 0 if there is no such buffer; the stream
-- keeps those counts, and when it grants buffers all of them are 0
abbrev pub Mapped : Type 0
Mapped = (size : ℕ) (m : List ℕ) (cs : List Call) (k : ℕ)
    → (maps_of (paper_after size m cs).maps k + changes Unmap k (events (opened size m) (blank size) cs) ≡ changes Map k (events (opened size m) (blank size) cs))
    × (maps_of (paper_after size m cs).maps k ≤ most_maps)
    × ((paper_after size m cs).granted ≤ k → maps_of (paper_after size m cs).maps k ≡ 0)
    × ((world_after size m cs).stream.maps ≡ (paper_after size m cs).maps)
    × ((n g : ℕ) → answer (world_after size m cs) (request n) ≡ replied (Granted g) → (maps_of (paper_after size m cs).maps k ≡ 0) × (maps_of (next (world_after size m cs) (request n)).stream.maps k ≡ 0))

-- ---- b. and c.: calls `before`, then buffer k handed in and accepted, then calls `mid` in which no stop and no buffer request is accepted

module _ (size : ℕ) (m : List ℕ) (before : List Call) (k : ℕ) (mid : List Call) where
  -- how many wait, and how many are filled, just before k is handed in
  abbrev pub waiting_before : ℕ
  waiting_before = length (paper_after size m before).incoming

  abbrev pub filled_before : ℕ
  filled_before = length (paper_after size m before).outgoing

  -- the calls up to here
  abbrev pub up_to : List Call
  up_to = before ++ enqueue k ∷ mid

  -- the calls with which k is handed in, and what is told from there on
  abbrev pub handed_in : List Call
  handed_in = before ++ enqueue k ∷ []

  abbrev pub since : List Event
  since = events (world_after size m handed_in) (paper_after size m handed_in) mid

  -- k is accepted, and stays in the queues until it is dequeued
  abbrev pub Accepted : Type 0
  Accepted = (answer (world_after size m before) (enqueue k) ≡ replied Done) × Calm since

-- b. the (i+1)th whole accepted arrival from there on is stored in k, under the count of arrivals accepted before it in the run, reduced,
-- and its bytes then stand at the start of k's slot
abbrev pub Stores : Type 0
Stores = (size : ℕ) (m : List ℕ) (before : List Call) (k : ℕ) (mid : List Call) (b : List ℕ) (t : Time) (w : Bool) (lends : List ℕ)
    → Accepted size m before k mid
    → wholes (since size m before k mid) ≡ waiting_before size m before k mid
    → told (paper_after size m (up_to size m before k mid)) (arrival b t w lends) (answer (world_after size m (up_to size m before k mid)) (arrival b t w lends)) ≡ whole b t
    → (answer (world_after size m (up_to size m before k mid)) (arrival b t w lends)
    ≡ arrived (Stored k (reduced (paper_after size m (up_to size m before k mid)).run.accepted)))
    × (slot_bytes (next (world_after size m (up_to size m before k mid)) (arrival b t w lends)) k (length b) ≡ b)

-- the whole accepted arrival among calls before which n whole ones came
pub record ArrivalAmong (w : World) (p : Paper) (cs : List Call) (n : ℕ) : Type 0 where
  pub front : List Call
  pub bytes : List ℕ
  pub time : Time
  pub flag : Bool
  pub lends : List ℕ
  pub back : List Call
  pub is : cs ≡ front ++ arrival bytes time flag lends ∷ back
  pub accepted : told (noted p (events w p front)) (arrival bytes time flag lends) (answer (after w front) (arrival bytes time flag lends)) ≡ whole bytes time
  pub place : wholes (events w p front) ≡ n

-- c. the (o+i+1)th successful dequeue from there on returns k with exactly the number, time and length of the (i+1)th whole
-- accepted arrival, and at that dequeue memory from the start of k's slot still holds its bytes
abbrev pub Returns : Type 0
Returns = (size : ℕ) (m : List ℕ) (before : List Call) (k : ℕ) (mid : List Call) (f : Filled)
    → Accepted size m before k mid
    → dequeues (since size m before k mid) ≡ filled_before size m before k mid + waiting_before size m before k mid
    → answer (world_after size m (up_to size m before k mid)) dequeue ≡ replied (Returned f)
    → (a : ArrivalAmong (world_after size m (handed_in size m before k mid)) (paper_after size m (handed_in size m before k mid)) mid (waiting_before size m before k mid))
    × (f ≡ record { index = k; number = reduced (paper_after size m (up_to size m before k a.front)).run.accepted; used = length a.bytes; time = a.time })
    × (slot_bytes (world_after size m (up_to size m before k mid)) k (length a.bytes) ≡ a.bytes)

-- ---- d. accepted = handed over + outgoing + damaged + dropped + discarded by its stop, and the stream's counts are those
abbrev pub AddsUp : Type 0
AddsUp = (size : ℕ) (m : List ℕ) (cs : List Call)
    → ((paper_after size m cs).run.accepted
    ≡ (paper_after size m cs).run.handed + length (paper_after size m cs).outgoing + (paper_after size m cs).run.damaged
    + (paper_after size m cs).run.dropped + (paper_after size m cs).run.discarded)
    × ((world_after size m cs).stream.run ≡ (paper_after size m cs).run)

-- the number that is kept for the next arrival is the count reduced; and no count of a run comes near 2 ^ 64, so each grows by one where one more is counted
abbrev pub Numbers : Type 0
Numbers = (size : ℕ) (m : List ℕ) (cs : List Call)
    → Numbered (world_after size m cs).stream
    × ((world_after size m cs).stream.run.accepted ≤ run_limit)
    × (one_more (world_after size m cs).stream.run.handed ≡ (world_after size m cs).stream.run.handed + 1)
    × (one_more (world_after size m cs).stream.run.damaged ≡ (world_after size m cs).stream.run.damaged + 1)
    × (one_more (world_after size m cs).stream.run.dropped ≡ (world_after size m cs).stream.run.dropped + 1)

-- ---- e. the verdicts

-- the places in the run of the arrivals handed over in the last one, after a list of calls
abbrev pub handed_after : ℕ → List ℕ → List Call → List ℕ
handed_after size m cs = handed_over (blank size) [] (events (opened size m) (blank size) cs)

-- a run is over in which at least one arrival was accepted, and every one was whole, found a buffer and was handed over: none was damaged, none
-- dropped, as many were handed over as accepted, and their places l in the run are 0, 1, 2 and so on up to the last: full counts, not numbers
abbrev pub AllHandedOver : Paper → List ℕ → Type 0
AllHandedOver p l =
    (p.running ≡ false) × (p.run.ran ≡ 1) × (0 < p.run.accepted) × (p.run.damaged ≡ 0) × (p.run.dropped ≡ 0) × (p.run.handed ≡ p.run.accepted)
    × (l ≡ numbers_below p.run.accepted)

-- RUNNING while streaming; BLANK if none was handed over; GAPS if some were and not all; COMPLETE exactly when all were
abbrev pub Verdicts : Type 0
Verdicts = (size : ℕ) (m : List ℕ) (cs : List Call)
    → ((verdict_of (world_after size m cs).stream ≡ Running) ⇔ ((paper_after size m cs).running ≡ true))
    × ((verdict_of (world_after size m cs).stream ≡ Blank) ⇔ (((paper_after size m cs).running ≡ false) × ((paper_after size m cs).run.handed ≡ 0)))
    × ((verdict_of (world_after size m cs).stream ≡ Gaps)
    ⇔ (((paper_after size m cs).running ≡ false) × (0 < (paper_after size m cs).run.handed) × ((paper_after size m cs).run.handed < (paper_after size m cs).run.accepted)))
    × ((verdict_of (world_after size m cs).stream ≡ Complete) ⇔ AllHandedOver (paper_after size m cs) (handed_after size m cs))
