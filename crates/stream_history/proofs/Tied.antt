-- The stream and its memory are as the paper says: after every call, whatever it is.
use mathlib.Core.Path.{◌≡◌, refl, sym, ap, ◌∙◌, subst}
use mathlib.Core.Logic.{◌≢◌}
use mathlib.Core.Bool.{Bool, true, false, cond, not, ◌&&◌, ◌||◌, true≢false, false≢true}
use Prim.Native.Nat.{ℕ, ◌+◌, ◌*◌, ◌≤◌, ◌<◌, min}
use native.Mathlib.Omega.{arith}
use native.Mathlib.Decide.{dec_lt}
use native.Mathlib.Nat.{add-zero}
use borrow.Author.Tests.{leb-true, leb-false, eqb-true, eqb-false, eq-eqb, ne_eqb, lt-ltb}
use lib.Dec.{leb, eqb}
use mathlib.Core.List.{List, [], ◌∷◌, ◌++◌, map}
use lib.ListN.{length, take, drop, length-map}
use lib.Seq.{sets, length-sets}
use Rattle.ioctl_table.specs.declared.refusals.Refusal.TheVariants.{NoSuchIndex, NotDequeued, NoBuffers, NotStreaming, NoSuchBuffer, StillMapped, Streaming, NothingOutgoing, BuffersExist, MemoryLength, RunFull}
use Rattle.wire_read.proofs.Parts.{part_before, part_behind, part_stored}
use Rattle.stream_words.specs.declared.Time.{Time}
use Rattle.stream_words.specs.declared.Filled.{Filled}
use Rattle.wire_read.specs.Lists.{any, rest}
use Rattle.std.specs.Prelude.{Some, None}
use Rattle.stream_slots.specs.Slot.{slot_size, slot_offset, is_slot, buffer_at, slot_at}
use Rattle.stream_words.specs.Stream.{Queues, with_run, with_maps, on_queues}
use Rattle.stream_words.specs.Moves.{no_frame, of_buffer, is_incoming, is_outgoing, oldest_of, next_of, emptied, pushed, filled_oldest, popped}
use Rattle.stream_slots.proofs.At.{slot_is}
use Rattle.stream_slots.proofs.Slots.{slot_least, slots_apart}
use Rattle.stream_run.specs.Replies.Reply.{Done, Granted, Returned, Refused}
use Rattle.stream_words.specs.Stream.{Run}
use Rattle.stream_run.specs.Switches.{Step}
use Rattle.stream_words.specs.Stream.{Stream}
use Rattle.stream_run.specs.Stream.{one_more, reduced, Numbered, streaming, fresh_stream, started, stopped_run, stopped, handed_run}
use Rattle.stream_run.specs.Switches.{answers, refuses, grant_of, request_buffers_of, start_of, stop_of}
use Rattle.stream_queue.specs.Queueing.{enqueue_of, handed_over, dequeue_of}
use Rattle.stream_maps.specs.declared.Change.{Change}
use Rattle.stream_maps.specs.Maps.{maps_of, any_mapped, blocked, why_not, moved}
use Rattle.stream_maps.proofs.Counts.{none_mapped}
use Rattle.stream_mmap.specs.Mapping.{changed_at, change_of}
use Rattle.stream_run.proofs.Grants.{grant_few, grant_fits, grant_slot}
use Rattle.stream_run.proofs.Numbered.{fresh_numbered, started_numbered, stopped_numbered}
use Rattle.stream_arrival.specs.declared.Arrival.{Arrival}
use Rattle.stream_arrival.specs.declared.Arrival.TheVariants as arrivals
use Rattle.stream_arrival.specs.Arrivals.{Arrived}
use Rattle.stream_arrival.specs.Arrivals.{run_limit, counted_run, counted, damaged_run, dropped_run, arrived_as as arrives-as, placed_in, placed_of, accepted_of, arrival_of, written_by}
use Rattle.stream_arrival.proofs.Cases.{counted_numbered}
use Rattle.stream_history.specs.Calls.{Call, Answer, World, opened, answer, with_stream, next}
use Rattle.stream_history.specs.Calls.Call.{request, enqueue, dequeue, start, stop, resize, change, arrival, other}
use Rattle.stream_history.specs.Calls.Answer.{replied, arrived}
use Rattle.stream_history.specs.Paper.{Pair, Paper, Event, index_of, blank, arrived_whole, told, frame_of, step}
use Rattle.stream_history.specs.Paper.Event.{put, whole, damaged, handed, begun, ended, sized, changed, idle}
use Rattle.stream_history.proofs.Lists.{All, all_snoc, all_append, all_join, all_map, all_both, all_of_map, all_to_map, map_snoc, nodup_before, none_passes}
use Rattle.stream_history.proofs.Sound.{Sound, Fits, line_of, line, paper, room_more}

-- a pair of the paper, as the stream keeps it
abbrev pub entry : Pair → Filled
entry x = record { index = x.index; number = reduced x.frame.place; used = length x.frame.bytes; time = x.frame.time }

-- the slot of x, in memory m with frames of this size, starts with its bytes
abbrev pub Held : ℕ → List ℕ → Pair → Type 0
Held size m x = (length x.frame.bytes ≤ size) × (take (length x.frame.bytes) (drop (slot_offset x.index size) m) ≡ x.frame.bytes)

-- n buffers are granted, and these are in the queues
pub record Holds (q : Queues) (n : ℕ) (i : List ℕ) (o : List Filled) : Type 0 where
  pub granted : q.granted ≡ n
  pub ins : q.incoming ≡ i
  pub outs : q.outgoing ≡ o

holds_empty : (m : ℕ) → Holds (emptied m) m [] []
unfolding emptied
holds_empty m = record { granted = refl; ins = refl; outs = refl }

module _ (q : Queues) (n : ℕ) (i : List ℕ) (o : List Filled) (h : Holds q n i o) where
  holds_pushed : (k : ℕ) → length o + length i < 32 → Holds (pushed q k) n (i ++ (k ∷ [])) o
  unfolding pushed
  holds_pushed k l =
      simp (h.ins, h.outs, lt-ltb _ _ l) record { granted = h.granted; ins = refl; outs = refl }

  holds_popped : Holds (popped q) n i (rest o)
  unfolding popped
  holds_popped = record { granted = h.granted; ins = h.ins; outs = ap rest h.outs }

  holds_filled : (k : ℕ) (j : List ℕ) → i ≡ k ∷ j → (a b : ℕ) (t : Time) → Holds (filled_oldest q a b t) n j (o ++ (record { index = k; number = a; used = b; time = t } ∷ []))
  unfolding filled_oldest
  holds_filled k j e a b t =
      simp (h.ins, e) record { granted = h.granted; ins = refl; outs = ap (λ (x : List Filled). x ++ (record { index = k; number = a; used = b; time = t } ∷ [])) h.outs }

pub record Tied (w : World) (p : Paper) : Type 0 where
  pub size : w.size ≡ p.size
  pub running : streaming w.stream ≡ p.running
  pub run : w.stream.run ≡ p.run
  pub number : Numbered w.stream
  pub noted : w.stream.length ≡ length w.memory
  pub holds : Holds w.stream.queues p.granted p.incoming (map entry p.outgoing)
  pub fits : p.granted * slot_size p.size ≤ length w.memory
  pub held : All (Held p.size w.memory) p.outgoing
  pub maps : w.stream.maps ≡ p.maps

pub tied_opened : (size : ℕ) (m : List ℕ) → Tied (opened size m) (blank size)
unfolding fresh_stream emptied
tied_opened size m = record {
  size = refl;
  running = refl;
  run = refl;
  number = fresh_numbered (length m);
  noted = refl;
  holds = holds_empty 0;
  fits = omega arith;
  held = tt;
  maps = refl;
}

-- a whole arrival is stored in the first incoming buffer, or dropped
abbrev pub placed_as : List ℕ → ℕ → Arrival
placed_as [] n = arrivals.Dropped
placed_as (k ∷ i) n = arrivals.Stored k n

-- a dequeue returns the first outgoing one
abbrev pub first_of : List Pair → Filled
first_of [] = no_frame
first_of (x ∷ o) = entry x

-- the answer that the paper foretells
abbrev pub Answers : Paper → Event → Answer → Type 0
Answers p (put k) a = Unit {0}
Answers p (whole b t) a = a ≡ arrived (placed_as p.incoming (reduced p.run.accepted))
Answers p damaged a = Unit {0}
Answers p handed a = a ≡ replied (Returned (first_of p.outgoing))
Answers p begun a = Unit {0}
Answers p (ended n) a = Unit {0}
Answers p (sized n) a = Unit {0}
Answers p (changed c k) a = Unit {0}
Answers p idle a = Unit {0}

-- What a call does: the event that it tells is one that a stream can make, the answer is the one foretold, and the stream is then
-- as the paper says.
pub record Follows (after : World) (p : Paper) (c : Call) (a : Answer) : Type 0 where
  pub event : Event
  pub tells : told p c a ≡ event
  pub fits : Fits p event
  pub foretold : Answers p event a
  pub tied : Tied after (step p event)

-- nothing happened
nothing : (w : World) (p : Paper) (c : Call) (a : Answer) → Tied w p → told p c a ≡ idle → Follows w p c a
nothing w p c a t e = record { event = idle; tells = e; fits = tt; foretold = tt; tied = t }

or_false : (a b : Bool) → (a || b) ≡ false → (a ≡ false) × (b ≡ false)
or_false true b h = absurd (true≢false h)
or_false false b h = (refl, h)

and_true : (a b : Bool) → (a && b) ≡ true → (a ≡ true) × (b ≡ true)
and_true true b h = (refl, h)
and_true false b h = absurd (false≢true h)

-- ---- a buffer is handed in

-- in neither queue: nowhere in the line
absent : (w : World) (p : Paper) (k : ℕ) → Tied w p → (is_incoming w.stream.queues k || is_outgoing w.stream.queues k) ≡ false
    → All (λ y. y ≢ k) (line p)
unfolding is_incoming is_outgoing
absent w p k t h =
    let (a, b) = or_false (is_incoming w.stream.queues k) (is_outgoing w.stream.queues k) h in
    let i : any (λ x. eqb x k) p.incoming ≡ false = subst (λ (l : List ℕ). any (λ x. eqb x k) l ≡ false) t.holds.ins a in
    let o : any (of_buffer k) (map entry p.outgoing) ≡ false = subst (λ (l : List Filled). any (of_buffer k) l ≡ false) t.holds.outs b in
    all_join (λ y. y ≢ k) (map index_of p.outgoing) p.incoming
    (all_to_map index_of (λ y. y ≢ k) p.outgoing
    (all_map (λ x. of_buffer k (entry x) ≡ false) (λ x. index_of x ≢ k) (λ x e. eqb-false x.index k e) p.outgoing
    (all_of_map entry (λ f. of_buffer k f ≡ false) p.outgoing (none_passes (of_buffer k) (map entry p.outgoing) o))))
    (all_map (λ x. eqb x k ≡ false) (λ x. x ≢ k) (λ x e. eqb-false x k e) p.incoming (none_passes (λ x. eqb x k) p.incoming i))

follows_enqueue : (w : World) (p : Paper) (k : ℕ) → Tied w p → Sound p → Follows (next w (enqueue k)) p (enqueue k) (answer w (enqueue k))
unfolding enqueue_of
follows_enqueue w p k t s = go (leb w.stream.queues.granted k) refl (is_incoming w.stream.queues k || is_outgoing w.stream.queues k) refl
  where
    q : Queues
    q = w.stream.queues

    r : Bool → Bool → Step
    r a b = cond a (refuses NoSuchIndex w.stream) (cond b (refuses NotDequeued w.stream) (answers Done (on_queues (λ q. pushed q k) w.stream)))

    go : (a : Bool) → leb w.stream.queues.granted k ≡ a → (b : Bool) → (is_incoming w.stream.queues k || is_outgoing w.stream.queues k) ≡ b
        → Follows (with_stream w (r a b).stream) p (enqueue k) (replied (r a b).reply)
    go true e b f = nothing w p (enqueue k) (replied (Refused NoSuchIndex)) t refl
    go false e true f = nothing w p (enqueue k) (replied (Refused NotDequeued)) t refl
    go false e false f =
        let fit : Fits p (put k) = (omega (arith, t.holds.granted, leb-false w.stream.queues.granted k e), absent w p k t f) in
        record {
          event = put k;
          tells = refl;
          fits = fit;
          foretold = tt;
          tied = record {
            size = t.size;
            running = t.running;
            run = t.run;
            number = t.number;
            noted = t.noted;
            holds = holds_pushed q p.granted p.incoming (map entry p.outgoing) t.holds k (omega (arith, room_more p k s fit, length-map p.outgoing entry));
            fits = t.fits;
            held = t.held;
            maps = t.maps;
          };
        }

-- ---- a buffer is handed over

-- a count that is far from its end grows by one
pub one_more_law : (n : ℕ) → n ≤ run_limit → one_more n ≡ n + 1
one_more_law n h = omega arith

handed_run_law : (r q : Run) → r ≡ q → q.handed ≤ run_limit
    → handed_run r ≡ record { ran = q.ran; accepted = q.accepted; handed = q.handed + 1; damaged = q.damaged; dropped = q.dropped; discarded = q.discarded }
handed_run_law r q e h =
    ap handed_run e
    ∙ ap (λ (n : ℕ). record { ran = q.ran; accepted = q.accepted; handed = n; damaged = q.damaged; dropped = q.dropped; discarded = q.discarded }) (one_more_law q.handed h)

tied_handed : (w : World) (size granted : ℕ) (on : Bool) (r : Run) (v i : List ℕ) (o : List Pair)
    → Tied w (paper size granted on r v i o) → Sound (paper size granted on r v i o) → 0 < length o
    → Tied (with_stream w (record { length = w.stream.length; streaming = w.stream.streaming; run = handed_run w.stream.run; number = w.stream.number; queues = popped w.stream.queues; maps = w.stream.maps }))
    (step (paper size granted on r v i o) handed)
tied_handed w size granted on r v i [] t s h = absurd (omega (arith, h))
tied_handed w size granted on r v i (x ∷ o) t s h = record {
  size = t.size;
  running = t.running;
  run = handed_run_law w.stream.run r t.run (omega (arith, s.adds, s.limit));
  number = t.number;
  noted = t.noted;
  holds = holds_popped w.stream.queues granted i (entry x ∷ map entry o) t.holds;
  fits = t.fits;
  held = t.held.1;
  maps = t.maps;
}

follows_handed : (w : World) (p : Paper) (o : List Pair) → p.outgoing ≡ o → Tied w p → Sound p
    → Follows (with_stream w (handed_over (oldest_of (map entry o)) w.stream).stream) p dequeue (replied (handed_over (oldest_of (map entry o)) w.stream).reply)
follows_handed w p [] e t s = nothing w p dequeue (replied (Refused NothingOutgoing)) t refl
follows_handed w p (x ∷ o) e t s =
    let some : 0 < length p.outgoing = rw e (omega arith) in
    record {
      event = handed;
      tells = refl;
      fits = some;
      foretold = rw e refl;
      tied = tied_handed w p.size p.granted p.running p.run p.maps p.incoming p.outgoing t s some;
    }

follows_dequeue : (w : World) (p : Paper) → Tied w p → Sound p → Follows (next w dequeue) p dequeue (answer w dequeue)
unfolding dequeue_of
follows_dequeue w p t s = go (eqb w.stream.queues.granted 0) (not (streaming w.stream))
  where
    r : Bool → Bool → List Filled → Step
    r a b o = cond a (refuses NoBuffers w.stream) (cond b (refuses NotStreaming w.stream) (handed_over (oldest_of o) w.stream))

    go : (a b : Bool) → Follows (with_stream w (r a b w.stream.queues.outgoing).stream) p dequeue (replied (r a b w.stream.queues.outgoing).reply)
    go true b = nothing w p dequeue (replied (Refused NoBuffers)) t refl
    go false true = nothing w p dequeue (replied (Refused NotStreaming)) t refl
    go false false =
        subst (λ (o : List Filled). Follows (with_stream w (r false false o).stream) p dequeue (replied (r false false o).reply)) (sym t.holds.outs) (follows_handed w p p.outgoing refl t s)

-- ---- a run begins and ends

follows_start : (w : World) (p : Paper) → Tied w p → Sound p → Follows (next w start) p start (answer w start)
unfolding start_of started
follows_start w p t s = go (eqb w.stream.queues.granted 0) (streaming w.stream) refl
  where
    r : Bool → Bool → Step
    r a b = cond a (refuses NoBuffers w.stream) (answers Done (cond b w.stream (started w.stream)))

    go : (a b : Bool) → streaming w.stream ≡ b → Follows (with_stream w (r a b).stream) p start (replied (r a b).reply)
    go true b f = nothing w p start (replied (Refused NoBuffers)) t refl
    go false true f = nothing w p start (replied Done) t (ap (λ (x : Bool). cond x idle begun) (sym t.running ∙ f))
    go false false f = record {
      event = begun;
      tells = ap (λ (x : Bool). cond x idle begun) (sym t.running ∙ f);
      fits = sym t.running ∙ f;
      foretold = tt;
      tied = record { size = t.size; running = refl; run = refl; number = started_numbered w.stream; noted = t.noted; holds = t.holds; fits = t.fits; held = t.held; maps = t.maps };
    }

ended_run : (a on : Bool) → not a ≡ on → (r q : Run) → r ≡ q → (d n : ℕ) → d ≡ n → cond a r (stopped_run r d) ≡ cond on (stopped_run q n) q
ended_run true on e r q f d n g = rw (sym e) f
ended_run false on e r q f d n g = rw (sym e) (rw (f, g))

-- a stop, or a request for n buffers, that is accepted
tied_ended : (w : World) (p : Paper) (n : ℕ) → Tied w p → n * slot_size p.size ≤ length w.memory
    → Tied (with_stream w (stopped w.stream n)) (step p (ended n))
unfolding stopped
tied_ended w p n t h = record {
  size = t.size;
  running = refl;
  run = ended_run (eqb w.stream.streaming 0) p.running t.running w.stream.run p.run t.run (length w.stream.queues.outgoing) (length p.outgoing)
      (ap length t.holds.outs ∙ length-map p.outgoing entry);
  number = stopped_numbered w.stream n t.number;
  noted = t.noted;
  holds = holds_empty n;
  fits = h;
  held = tt;
  maps = t.maps;
}

follows_stop : (w : World) (p : Paper) → Tied w p → Sound p → Follows (next w stop) p stop (answer w stop)
unfolding stop_of
follows_stop w p t s = record {
  event = ended p.granted;
  tells = refl;
  fits = (s.few, s.maps.spare, s.slots);
  foretold = tt;
  tied = subst (λ (n : ℕ). Tied (with_stream w (stopped w.stream n)) (step p (ended p.granted))) (sym t.holds.granted) (tied_ended w p p.granted t t.fits);
}

follows_request : (w : World) (p : Paper) (n : ℕ) → Tied w p → Sound p → Follows (next w (request n)) p (request n) (answer w (request n))
unfolding request_buffers_of
follows_request w p n t s = go (any_mapped w.stream.maps) refl (streaming w.stream && not (eqb n 0))
  where
    g : ℕ
    g = grant_of w.stream.length n w.size

    r : Bool → Bool → Step
    r a b = cond a (refuses StillMapped w.stream) (cond b (refuses Streaming w.stream)
        (answers (Granted (grant_of w.stream.length n w.size)) (stopped w.stream (grant_of w.stream.length n w.size))))

    fit : g * slot_size p.size ≤ length w.memory
    fit = subst (λ (z : ℕ). g * slot_size z ≤ length w.memory) t.size (subst (λ (l : ℕ). g * slot_size w.size ≤ l) t.noted (grant_fits w.stream.length n w.size))

    go : (a : Bool) → any_mapped w.stream.maps ≡ a → (b : Bool) → Follows (with_stream w (r a b).stream) p (request n) (replied (r a b).reply)
    go true e b = nothing w p (request n) (replied (Refused StillMapped)) t refl
    go false e true = nothing w p (request n) (replied (Refused Streaming)) t refl
    go false e false = record {
      event = ended g;
      tells = refl;
      fits = (
        grant_few w.stream.length n w.size,
        λ k h. ap (λ (m : List ℕ). maps_of m k) (sym t.maps) ∙ none_mapped w.stream.maps e k,
        λ h. subst (λ (z : ℕ). 0 < slot_size z) t.size (grant_slot w.stream.length n w.size h),
      );
      foretold = tt;
      tied = tied_ended w p g t fit;
    }

-- ---- a buffer is mapped or unmapped

follows_change : (w : World) (p : Paper) (c : Change) (o l : ℕ) → Tied w p → Sound p → Follows (next w (change c o l)) p (change c o l) (answer w (change c o l))
unfolding change_of slot_at
follows_change w p c o l t s = go (is_slot (min w.stream.queues.granted 32) w.size o l) refl
  where
    k : ℕ
    k = buffer_at w.size o

    r : Bool → Step
    r b = cond b (refuses (why_not c) w.stream) (answers Done (with_maps w.stream (moved c w.stream.maps (buffer_at w.size o))))

    known : is_slot (min w.stream.queues.granted 32) w.size o l ≡ true → (b : Bool) → blocked c (maps_of w.stream.maps (buffer_at w.size o)) ≡ b
        → Follows (with_stream w (r b).stream) p (change c o l) (replied (r b).reply)
    known e true f = nothing w p (change c o l) (replied (Refused (why_not c))) t refl
    known e false f = record {
      event = changed c k;
      tells = ap (λ (n : ℕ). changed c (buffer_at n o)) (sym t.size);
      fits = (omega (arith, t.holds.granted, (slot_is (min w.stream.queues.granted 32) w.size o l e).3), ap (λ (m : List ℕ). blocked c (maps_of m k)) (sym t.maps) ∙ f);
      foretold = tt;
      tied = record {
        size = t.size;
        running = t.running;
        run = t.run;
        number = t.number;
        noted = t.noted;
        holds = t.holds;
        fits = t.fits;
        held = t.held;
        maps = ap (λ (m : List ℕ). moved c m k) t.maps;
      };
    }

    go : (a : Bool) → is_slot (min w.stream.queues.granted 32) w.size o l ≡ a
        → Follows (with_stream w (changed_at c w.stream (cond a (Some (buffer_at w.size o)) None)).stream) p (change c o l)
        (replied (changed_at c w.stream (cond a (Some (buffer_at w.size o)) None)).reply)
    go true e = known e (blocked c (maps_of w.stream.maps (buffer_at w.size o))) refl
    go false e = nothing w p (change c o l) (replied (Refused NoSuchBuffer)) t refl

-- ---- another frame size

-- with no buffers nothing is outgoing
none_out : (o : List Pair) (i : List ℕ) → All (λ k. k < 0) (line_of o i) → o ≡ []
none_out [] i a = refl
none_out (x ∷ o) i a = absurd (omega (arith, a.0))

follows_resize : (w : World) (p : Paper) (n : ℕ) → Tied w p → Sound p → Follows (next w (resize n)) p (resize n) (answer w (resize n))
follows_resize w p n t s = go (eqb w.stream.queues.granted 0) refl
  where
    go : (a : Bool) → eqb w.stream.queues.granted 0 ≡ a
        → Follows (record { stream = w.stream; size = cond a n w.size; memory = w.memory }) p (resize n) (replied (cond a Done (Refused BuffersExist)))
    go false e = nothing w p (resize n) (replied (Refused BuffersExist)) t refl
    go true e =
        let z : p.granted ≡ 0 = sym t.holds.granted ∙ eqb-true w.stream.queues.granted 0 e in
        let o : p.outgoing ≡ [] = none_out p.outgoing p.incoming (subst (λ (g : ℕ). All (λ k. k < g) (line p)) z s.below) in
        record {
          event = sized n;
          tells = refl;
          fits = z;
          foretold = tt;
          tied = record {
            size = refl;
            running = t.running;
            run = t.run;
            number = t.number;
            noted = t.noted;
            holds = t.holds;
            fits = subst (λ (g : ℕ). g * slot_size n ≤ length w.memory) (sym z) (omega arith);
            held = subst (All (Held n w.memory)) (sym o) tt;
            maps = t.maps;
          };
        }

-- ---- a frame arrives

-- a record of these counts
abbrev counts : ℕ → ℕ → ℕ → ℕ → ℕ → ℕ → Run
counts n a h d e f = record { ran = n; accepted = a; handed = h; damaged = d; dropped = e; discarded = f }

damaged_run_law : (r q : Run) → r ≡ q → q.damaged ≤ run_limit
    → damaged_run (counted_run r) ≡ counts q.ran (q.accepted + 1) q.handed (q.damaged + 1) q.dropped q.discarded
damaged_run_law r q e h =
    ap (λ (x : Run). damaged_run (counted_run x)) e
    ∙ ap (λ (n : ℕ). counts q.ran (q.accepted + 1) q.handed n q.dropped q.discarded) (one_more_law q.damaged h)

dropped_run_law : (r q : Run) → r ≡ q → q.dropped ≤ run_limit
    → dropped_run (counted_run r) ≡ counts q.ran (q.accepted + 1) q.handed q.damaged (q.dropped + 1) q.discarded
dropped_run_law r q e h =
    ap (λ (x : Run). dropped_run (counted_run x)) e
    ∙ ap (λ (n : ℕ). counts q.ran (q.accepted + 1) q.handed q.damaged n q.discarded) (one_more_law q.dropped h)

stored_run : (r q : Run) → r ≡ q → counted_run r ≡ counts q.ran (q.accepted + 1) q.handed q.damaged (q.dropped + 0) q.discarded
stored_run r q e =
    ap counted_run e ∙ ap (λ (n : ℕ). counts q.ran (q.accepted + 1) q.handed q.damaged n q.discarded) (sym (add-zero q.dropped))

-- another slot keeps what it holds
held_other : (size k : ℕ) (m b : List ℕ) → length b ≤ size → (x : Pair) → Held size m x × (x.index ≢ k) → Held size (sets m (slot_offset k size) b) x
held_other size k m b l x g = (g.0.0, same ∙ g.0.1)
  where
    same : take (length x.frame.bytes) (drop (slot_offset x.index size) (sets m (slot_offset k size) b))
        ≡ take (length x.frame.bytes) (drop (slot_offset x.index size) m)
    same = elim (dec_lt x.index k) [
      | yes lt ↦ part_before b m (slot_offset k size) (slot_offset x.index size) (length x.frame.bytes)
          (omega (arith, slots_apart x.index k size lt, slot_least size, g.0.0))
      | no ge ↦ part_behind b m (slot_offset k size) (slot_offset x.index size) (length x.frame.bytes)
          (omega (arith, slots_apart k x.index size (omega (arith, g.1)), slot_least size))
    ]

-- the number of an arrival is its place reduced
number_is : (s : Stream) (q : Run) → Numbered s → s.run ≡ q → s.number ≡ reduced q.accepted
number_is s q n e = n ∙ ap (λ (x : Run). reduced x.accepted) e

-- what a stored arrival leaves
abbrev stored_stream : World → List ℕ → Time → Stream
stored_stream w b t =
    on_queues (λ q. filled_oldest q w.stream.number (length b) t) (counted w.stream)

tied_stored : (w : World) (size granted : ℕ) (on : Bool) (r : Run) (v : List ℕ) (k : ℕ) (i : List ℕ) (o : List Pair) (b : List ℕ) (t : Time)
    → Tied w (paper size granted on r v (k ∷ i) o) → Sound (paper size granted on r v (k ∷ i) o) → length b ≤ size
    → Tied (record { stream = stored_stream w b t; size = w.size; memory = sets w.memory (slot_offset k size) b })
    (step (paper size granted on r v (k ∷ i) o) (whole b t))
tied_stored w size granted on r v k i o b t x s l =
    let p : Paper = paper size granted on r v (k ∷ i) o in
    let m : List ℕ = w.memory in
    let at : ℕ = slot_offset k size in
    let new : Pair = record { index = k; frame = frame_of p b t } in
    let lt : k < granted = (all_append (λ j. j < granted) (map index_of o) (k ∷ i) s.below).1.0 in
    let in-it : at + slot_size size ≤ length m = omega (arith, slots_apart k granted size lt, x.fits) in
    let notk : All (λ y. y.index ≢ k) o = all_of_map index_of (λ y. y ≢ k) o (nodup_before (map index_of o) k i s.apart) in
    let number : w.stream.number ≡ reduced r.accepted = number_is w.stream r x.number x.run in
    let entries : map entry o ++ (record { index = k; number = w.stream.number; used = length b; time = t } ∷ []) ≡ map entry (o ++ (new ∷ [])) =
    ap (λ (n : ℕ). map entry o ++ (record { index = k; number = n; used = length b; time = t } ∷ [])) number ∙ sym (map_snoc entry o new) in
    record {
      size = x.size;
      running = x.running;
      run = stored_run w.stream.run r x.run;
      number = counted_numbered w.stream x.number;
      noted = x.noted ∙ sym (length-sets m at b);
      holds = subst (Holds (filled_oldest w.stream.queues w.stream.number (length b) t) granted i) entries
          (holds_filled w.stream.queues granted (k ∷ i) (map entry o) x.holds k i refl w.stream.number (length b) t);
      fits = omega (arith, x.fits, length-sets m at b);
      held = all_snoc (Held size (sets m at b)) o new
          (all_map (λ y. Held size m y × (y.index ≢ k)) (Held size (sets m at b)) (held_other size k m b l) o (all_both (Held size m) (λ y. y.index ≢ k) o x.held notk))
          (l, part_stored b m at (omega (arith, slot_least size)));
      maps = x.maps;
    }

-- an accepted arrival is whole or damaged, as the paper tells it
accepted_told : (p : Paper) (b : List ℕ) (t : Time) (fl v : Bool) → p.running ≡ true → (fl && leb (length b) p.size) ≡ v
    → cond p.running (arrived_whole p b t fl) idle ≡ cond v (whole b t) damaged
accepted_told p b t fl v on e = ap (λ (x : Bool). cond x (arrived_whole p b t fl) idle) on ∙ ap (λ (x : Bool). cond x (whole b t) damaged) e

-- what comes of an answer to an arrival with the memory lent
abbrev Comes : World → Paper → List ℕ → Time → Bool → List ℕ → Arrived → Type 0
Comes w p b t fl lends r =
    Follows (record { stream = r.stream; size = w.size; memory = written_by r.arrival w.size w.memory b }) p (arrival b t fl lends) (arrived r.arrival)

comes_placed : (w : World) (size granted : ℕ) (on : Bool) (r : Run) (v i : List ℕ) (o : List Pair) (b : List ℕ) (t : Time) (fl : Bool) (lends : List ℕ)
    → Tied w (paper size granted on r v i o) → Sound (paper size granted on r v i o) → Fits (paper size granted on r v i o) (whole b t)
    → cond on (arrived_whole (paper size granted on r v i o) b t fl) idle ≡ whole b t
    → Comes w (paper size granted on r v i o) b t fl lends (placed_of (counted w.stream) w.stream.number (length b) t)
unfolding placed_of
comes_placed w size granted on r v i o b t fl lends x s f e =
    subst (λ (l : List ℕ). Comes w (paper size granted on r v i o) b t fl lends (placed_in (next_of l) (counted w.stream) w.stream.number (length b) t))
    (sym x.holds.ins) (go i x s f e)
  where
    go : (i : List ℕ) → Tied w (paper size granted on r v i o) → Sound (paper size granted on r v i o) → Fits (paper size granted on r v i o) (whole b t)
        → cond on (arrived_whole (paper size granted on r v i o) b t fl) idle ≡ whole b t
        → Comes w (paper size granted on r v i o) b t fl lends (placed_in (next_of i) (counted w.stream) w.stream.number (length b) t)
    go [] x s f e = record {
      event = whole b t;
      tells = e;
      fits = f;
      foretold = refl;
      tied = record {
        size = x.size;
        running = x.running;
        run = dropped_run_law w.stream.run r x.run (omega (arith, s.adds, s.limit));
        number = counted_numbered w.stream x.number;
        noted = x.noted;
        holds = x.holds;
        fits = x.fits;
        held = x.held;
        maps = x.maps;
      };
    }
    go (k ∷ i) x s f e = record {
      event = whole b t;
      tells = e;
      fits = f;
      foretold = ap (λ (n : ℕ). arrived (arrivals.Stored k n)) (number_is w.stream r x.number x.run);
      tied = subst (λ (n : ℕ). Tied (record { stream = stored_stream w b t; size = w.size; memory = sets w.memory (slot_offset k n) b }) (step (paper size granted on r v (k ∷ i) o) (whole b t)))
          (sym x.size) (tied_stored w size granted on r v k i o b t x s f.2);
    }

comes_accepted : (w : World) (p : Paper) (b : List ℕ) (t : Time) (fl : Bool) (lends : List ℕ) → Tied w p → Sound p → p.running ≡ true → p.run.accepted < run_limit
    → Comes w p b t fl lends (accepted_of (counted w.stream) w.stream.number (length b) fl w.size t)
unfolding accepted_of
comes_accepted w p b t fl lends x s on l = go (fl && leb (length b) w.size) refl
  where
    z : Bool → Arrived
    z v = cond v (placed_of (counted w.stream) w.stream.number (length b) t)
        (arrives-as arrivals.Damaged (with_run (counted w.stream) (damaged_run (counted_run w.stream.run))))

    tell : (v : Bool) → (fl && leb (length b) w.size) ≡ v → cond p.running (arrived_whole p b t fl) idle ≡ cond v (whole b t) damaged
    tell v e = accepted_told p b t fl v on (ap (λ (n : ℕ). fl && leb (length b) n) (sym x.size) ∙ e)

    go : (v : Bool) → (fl && leb (length b) w.size) ≡ v → Comes w p b t fl lends (z v)
    go true e =
        let short : length b ≤ p.size = omega (arith, x.size, leb-true (length b) w.size (and_true fl (leb (length b) w.size) e).1) in
        comes_placed w p.size p.granted p.running p.run p.maps p.incoming p.outgoing b t fl lends x s (on, l, short) (tell true e)
    go false e = record {
      event = damaged;
      tells = tell false e;
      fits = (on, l);
      foretold = tt;
      tied = record {
        size = x.size;
        running = x.running;
        run = damaged_run_law w.stream.run p.run x.run (omega (arith, s.adds, s.limit));
        number = counted_numbered w.stream x.number;
        noted = x.noted;
        holds = x.holds;
        fits = x.fits;
        held = x.held;
        maps = x.maps;
      };
    }

-- with the memory lent
comes_lent : (w : World) (p : Paper) (b : List ℕ) (t : Time) (fl : Bool) (lends : List ℕ) → Tied w p → Sound p
    → Comes w p b t fl lends (arrival_of w.stream (length w.memory) (length b) fl w.size t)
unfolding arrival_of
comes_lent w p b t fl lends x s =
    go (eqb (length w.memory) w.stream.length) (eq-eqb _ _ (sym x.noted)) (streaming w.stream) refl (leb run_limit w.stream.run.accepted) refl
  where
    z : Bool → Bool → Bool → Arrived
    z a c d = cond (not a) (arrives-as (arrivals.Refused MemoryLength) w.stream) (cond (not c) (arrives-as arrivals.Ignored w.stream)
        (cond d (arrives-as (arrivals.Refused RunFull) w.stream)
        (accepted_of (counted w.stream) w.stream.number (length b) fl w.size t)))

    go : (a : Bool) → a ≡ true → (c : Bool) → streaming w.stream ≡ c → (d : Bool) → leb run_limit w.stream.run.accepted ≡ d → Comes w p b t fl lends (z a c d)
    go false e c f d g = absurd (false≢true e)
    go true e false f d g = nothing w p (arrival b t fl lends) (arrived arrivals.Ignored) x (ap (λ (v : Bool). cond v (arrived_whole p b t fl) idle) (sym x.running ∙ f))
    go true e true f true g = nothing w p (arrival b t fl lends) (arrived (arrivals.Refused RunFull)) x refl
    go true e true f false g =
        comes_accepted w p b t fl lends x s (sym x.running ∙ f) (omega (arith, leb-false run_limit w.stream.run.accepted g, ap (λ (q : Run). q.accepted) x.run))

-- with something of another length
comes_other : (w : World) (p : Paper) (b : List ℕ) (t : Time) (fl : Bool) (lends : List ℕ) → Tied w p → length lends ≢ length w.memory
    → Follows (with_stream w (arrival_of w.stream (length lends) (length b) fl w.size t).stream) p (arrival b t fl lends)
    (arrived (arrival_of w.stream (length lends) (length b) fl w.size t).arrival)
unfolding arrival_of
comes_other w p b t fl lends x h = rw (ne_eqb (length lends) w.stream.length (λ e. h (e ∙ x.noted))) (nothing w p (arrival b t fl lends) (arrived (arrivals.Refused MemoryLength)) x refl)

follows_arrival : (w : World) (p : Paper) (b : List ℕ) (t : Time) (fl : Bool) (lends : List ℕ) → Tied w p → Sound p
    → Follows (next w (arrival b t fl lends)) p (arrival b t fl lends) (answer w (arrival b t fl lends))
follows_arrival w p b t fl lends x s = go (eqb (length lends) (length w.memory)) refl
  where
    r : Bool → Arrived
    r v = arrival_of w.stream (length (cond v w.memory lends)) (length b) fl w.size t

    go : (v : Bool) → eqb (length lends) (length w.memory) ≡ v
        → Follows (record { stream = (r v).stream; size = w.size; memory = cond v (written_by (r v).arrival w.size w.memory b) w.memory }) p (arrival b t fl lends) (arrived (r v).arrival)
    go true e = comes_lent w p b t fl lends x s
    go false e = comes_other w p b t fl lends x (eqb-false (length lends) (length w.memory) e)

-- ---- any call

pub follows : (w : World) (p : Paper) (c : Call) → Tied w p → Sound p → Follows (next w c) p c (answer w c)
follows w p (request n) t s = follows_request w p n t s
follows w p (enqueue k) t s = follows_enqueue w p k t s
follows w p dequeue t s = follows_dequeue w p t s
follows w p start t s = follows_start w p t s
follows w p stop t s = follows_stop w p t s
follows w p (resize n) t s = follows_resize w p n t s
follows w p (change c o l) t s = follows_change w p c o l t s
follows w p (arrival b u fl lends) t s = follows_arrival w p b u fl lends t s
follows w p other t s = nothing w p other (replied Done) t refl
