-- Demand 3, the counts, the buffers and the verdicts of our device: what was proved of its boxes, told from the calls.
use mathlib.Core.Path.{◌≡◌, refl, sym, ap, ap₂, ◌∙◌, subst}
use borrow.Author.Tests.{ne_eqb}
use Rattle.stream_words.specs.declared.Time.{Time}
use mathlib.Core.Bool.{Bool, true, false, cond}
use Prim.Native.Nat.{ℕ, ◌+◌, ◌*◌, ◌≤◌}
use native.Mathlib.Omega.{arith}
use lib.Dec.{eqb, leb}
use mathlib.Core.List.{List, [], ◌∷◌, ◌++◌}
use lib.ListN.{length, take, drop}
use Rattle.wire_read.specs.Words.{word_at}
use Rattle.wire_signed.specs.Signed.{signed_at}
use Rattle.ioctl_table.specs.Table.{request_of, argument_size}
use Rattle.ioctl_table.specs.declared.table.Call.{Call as Asked}
use Rattle.ioctl_table.specs.declared.table.Call.TheVariants.{Querybuf}
use Rattle.ioctl_table.specs.declared.refusals.Refusal.TheVariants.{Closed, MemoryLength, NoSuchIndex}
use Rattle.stream_slots.specs.Slot.{slot_offset}
use Rattle.stream_words.specs.Moves.{standing_of}
use Rattle.stream_run.specs.Stream.{reduced}
use Rattle.stream_arrival.specs.declared.Arrival.{Arrival}
use Rattle.stream_arrival.specs.declared.Arrival.TheVariants.{Refused, Stored}
use Rattle.stream_arrival.specs.Arrivals.{written_by}
use Rattle.stream_maps.specs.Maps.{is_mapped}
use Rattle.stream_status.specs.declared.Status.{Status}
use Rattle.std.specs.Prelude.{Ok, Err}
use Rattle.stream_verdict.specs.declared.Verdict.TheVariants.{Running, Blank, Gaps, Complete}
use Rattle.stream_status.specs.Buffer.{flags_of, described_of, status_of, query_of}
use Rattle.buffer_replies.specs.Replies.{buffer_reply}
use Rattle.buffer_replies.proofs.Lengths.{buffer_length, buffer_flags}
use Rattle.device_state.specs.State.{State, closed_state}
use Rattle.device_state.specs.Answers.{Answer}
use Rattle.buffer_calls.specs.Buffers.{queried_as, querybuf_of}
use Rattle.stream_words.specs.Stream.{Stream}
use Rattle.buffer_calls.specs.Buffers.{StreamAnswer}
use Rattle.request_topics.specs.Request.{stream_call, call_answer}
use Rattle.device_film.specs.Film.{taken_of, taken_memory, frame_size}
use Rattle.stream_history.specs.Paper.{Paper, blank, handed_over, noted, wholes, dequeues}
use Rattle.stream_history.specs.Claims.{mapped_on, times_in, times_out}
use Rattle.stream_history.proofs.Machine.{leaves_append, noted_tells}
use Rattle.claims.specs.Calls.{Kind, type_of, Call, Reply, arrival_time}
use Rattle.claims.specs.Calls.Call.{request, arrival, change}
use Rattle.claims.specs.Calls.Reply.{answered, taken}
use Rattle.claims.specs.Machine.{more}
use Rattle.claims.specs.Words.{told, opening_size, events_in, paper_in, handed_in}
use Rattle.claims.specs.Table.{kind_of}
use Rattle.claims.specs.Device.{lent_to, stream_of}
use Rattle.claims.proofs.Checks.{size_of}
use Rattle.claims.proofs.Open.{same_type, kind_back, size_back}
use Rattle.claims.specs.Demands.{since, StoredInIt, ReturnedWithIt, Comes, Demand3, Counts}
use Rattle.claims.proofs.Boxes as boxes
use Rattle.claims.proofs.Boxes.{Box, opened, asks, arrives, reply, seen, next, after, events, paper_after, handed_after, box_after, ours}
use Rattle.claims.proofs.Steps.{whole_reply}
use Rattle.claims.proofs.Formats.{Reached, reached}
use Rattle.claims.proofs.Arrivals.{taken_is}
use Rattle.claims.proofs.Totals.{history_equation, within_limit, mapped_tallied, one_place}
use Rattle.claims.proofs.Demand.{demand_3, verdict_means}
use Rattle.claims.proofs.Lists as lists
use Rattle.claims.proofs.Lists.{Since, one_more_law, same_seen, same_events, same_paper}
use Rattle.claims.proofs.Told.{closed_ready, lent_long, stream_argument}

untaken : {x y : Arrival} → taken x ≡ taken y → x ≡ y
untaken h = cc h

-- an index that is there is told as it stands
pub querybuf_answers : (x : Stream) (kind size : ℕ) (a : List ℕ) → length a ≡ 68 → (querybuf_of x kind size a).number ≡ 0
    → (querybuf_of x kind size a).argument ≡ buffer_reply kind (status_of x (word_at a 0) size)
unfolding querybuf_of query_of
querybuf_answers x kind size a l = go (leb x.queues.granted (word_at a 0))
  where
    st : Status
    st = status_of x (word_at a 0) size

    r : Bool → StreamAnswer
    r y = queried_as (cond y (Err NoSuchIndex) (Ok (status_of x (word_at a 0) size))) x kind a

    go : (y : Bool) → (r y).number ≡ 0 → (r y).argument ≡ buffer_reply kind (status_of x (word_at a 0) size)
    go true h = absurd (omega (arith, h))
    go false h = whole_reply a (buffer_reply kind st) 68 l (buffer_length kind st)

-- a frame is refused when a memory of another length is lent
refused_length : (k : Kind) (d : State) (l : ℕ) (f : List ℕ) (t : Time) → eqb d.ready 0 ≡ false → eqb l (stream_of k d).length ≡ false → (taken_of d (type_of k) l f t).arrival ≡ Refused MemoryLength
refused_length Kind.pictures d l f t e n = (taken_is d 1 l f t).0 ∙ rw (e, n)
refused_length Kind.captions d l f t e n = (taken_is d 6 l f t).0 ∙ rw (e, n)

-- with these flags
-- a flag is 0 or 1
mapped_most : (b : Bool) → cond b 1 0 ≤ 1
mapped_most true = omega arith
mapped_most false = omega arith

status_flags : (x : Stream) (i size : ℕ) → (status_of x i size).flags ≡ flags_of (is_mapped x.maps i) (standing_of x.queues i)
unfolding status_of described_of
status_flags x i size = refl

module _ (s : List ℕ) (m : Kind → List ℕ) (k : Kind) where
  same_handed : (cs : List Call) → handed_in s (ours s m) k cs ≡ handed_after s m k cs
  same_handed cs = ap (handed_over (blank (opening_size s k)) []) (same_events s m k cs [] (blank (opening_size s k)))

  module _ (before : List Call) (w : ℕ) (a : List ℕ) (mid : List Call) where
    same_since : since s (ours s m) k before w a mid ≡ boxes.since s m k before w a mid
    same_since =
        ap (λ (p : Paper). events_in s (ours s m) k (more before (request w a)) p mid) (same_paper s m k (more before (request w a)))
        ∙ same_events s m k mid (more before (request w a)) (paper_after s m k (more before (request w a)))

    -- the QBUF that was accepted
    was : ((ours s m).request before w a).number ≡ 0 → (b : List ℕ) × (reply (box_after s m before) (request w a) ≡ answered 0 b)
    was n = ((asks (box_after s m before) w a).argument, ap (λ (j : ℕ). answered j (asks (box_after s m before) w a).argument) n)

    stored : StoredInIt s (ours s m) k before w a mid
    stored f x y other (e, nm, n, c) i h =
        let cs : List Call = before ++ request w a ∷ mid in
        let v : Call = arrival (type_of k) f x y other in
        let (p, q) = (demand_3 s m k before w a mid).0 f x y other (e, nm, was n, rw same_since at c)
        (ap wholes (sym same_since) ∙ i ∙ ap (λ (p : Paper). length p.incoming) (same_paper s m k before))
        (sym (ap₂ (λ (p : Paper) (z : Reply × List ℕ). told k p v z) (same_paper s m k cs) (same_seen s m cs v)) ∙ h) in (
          untaken p ∙ ap (λ (p : Paper). Stored (word_at a 0) (reduced p.run.accepted)) (sym (same_paper s m k cs)),
          ap (λ (p : Paper). take (length f) (drop (slot_offset (word_at a 0) p.size) ((box_after s m (more cs v)).memory k))) (same_paper s m k cs)
              ∙ ap (λ (b : Box). take (length f) (drop (slot_offset (word_at a 0) (paper_after s m k cs).size) (b.memory k))) (one_more_law s m cs v) ∙ q,
        )

    -- the arrival behind it
    comes : (n : ℕ) → boxes.ArrivalAmong k (box_after s m (more before (request w a))) (paper_after s m k (more before (request w a))) mid n
        → Comes s (ours s m) k (more before (request w a)) mid n
    comes n r =
        let h : List Call = more before (request w a) in
        let c : Call = arrival (type_of k) r.frame r.seconds r.microseconds r.other in
        let p : paper_in s (ours s m) k (h ++ r.front) ≡ noted (paper_after s m k h) (events k (box_after s m h) (paper_after s m k h) r.front) =
        same_paper s m k (h ++ r.front) ∙ noted_tells seen next (told k) h r.front (opened s m) (blank (opening_size s k)) in
        let b : box_after s m (h ++ r.front) ≡ after (box_after s m h) r.front = leaves_append seen next (told k) h r.front (opened s m) in
        record {
          front = r.front;
          frame = r.frame;
          seconds = r.seconds;
          microseconds = r.microseconds;
          other = r.other;
          back = r.back;
          is = r.is;
          accepted = ap₂ (λ (p : Paper) (z : Reply × List ℕ). told k p c z) p (same_seen s m (h ++ r.front) c)
              ∙ ap (λ (x : Box). told k (noted (paper_after s m k h) (events k (box_after s m h) (paper_after s m k h) r.front)) c (seen x c)) b ∙ r.accepted;
          place = ap (λ (p : Paper). wholes (events_in s (ours s m) k h p r.front)) (same_paper s m k h) ∙ ap wholes (same_events s m k r.front h (paper_after s m k h)) ∙ r.place;
        }

    returned : ReturnedWithIt s (ours s m) k before w a mid
    unfolding comes
    returned v c (e, nm, n, j) d q dn z =
        let cs : List Call = before ++ request w a ∷ mid in
        let i : length (paper_in s (ours s m) k before).incoming ≡ length (paper_after s m k before).incoming = ap (λ (p : Paper). length p.incoming) (same_paper s m k before) in
        let o : length (paper_in s (ours s m) k before).outgoing ≡ length (paper_after s m k before).outgoing = ap (λ (p : Paper). length p.outgoing) (same_paper s m k before) in
        let (r, x1, x2, x3, x4, x5, x6) = (demand_3 s m k before w a mid).1 v c (asks (box_after s m cs) v c).argument (e, nm, was n, rw same_since at j)
        (ap dequeues (sym same_since) ∙ d ∙ omega (arith, i, o)) q dn (ap (λ (l : ℕ). answered l (asks (box_after s m cs) v c).argument) z) in
        subst (λ (n : ℕ). (r : Comes s (ours s m) k (more before (request w a)) mid n)
        × (word_at (asks (box_after s m cs) v c).argument 0 ≡ word_at a 0)
        × (word_at (asks (box_after s m cs) v c).argument 44 ≡ reduced (paper_in s (ours s m) k (before ++ request w a ∷ r.front)).run.accepted)
        × (word_at (asks (box_after s m cs) v c).argument 8 ≡ length r.frame)
        × (signed_at (asks (box_after s m cs) v c).argument 20 ≡ (arrival_time r.seconds r.microseconds).seconds)
        × (signed_at (asks (box_after s m cs) v c).argument 24 ≡ (arrival_time r.seconds r.microseconds).microseconds)
        × (take (length r.frame) (drop (word_at (asks (box_after s m cs) v c).argument 52) ((box_after s m cs).memory k)) ≡ r.frame)) (sym i)
        (comes (length (paper_after s m k before).incoming) r, x1, x2 ∙ ap (λ (p : Paper). reduced p.run.accepted) (sym (same_paper s m k (before ++ request w a ∷ r.front))), x3, x4, x5, x6)

  -- ---- what is written

  -- a closed device refuses
  closed : (cs : List Call) (l : ℕ) (f : List ℕ) (x y : ℕ) → (box_after s m cs).state ≡ closed_state → (taken_of (box_after s m cs).state (type_of k) l f (arrival_time x y)).arrival ≡ Refused Closed
  closed cs l f x y d = (taken_is (box_after s m cs).state (type_of k) l f (arrival_time x y)).0 ∙ rw (closed_ready (box_after s m cs).state d)

  -- the size that is written by is the paper's
  written_by_law : (cs : List Call) (l : ℕ) (f : List ℕ) (x y : ℕ) (z : List ℕ)
      → written_by (taken_of (box_after s m cs).state (type_of k) l f (arrival_time x y)).arrival (frame_size (box_after s m cs).state (type_of k)) z f
      ≡ written_by (taken_of (box_after s m cs).state (type_of k) l f (arrival_time x y)).arrival (paper_after s m k cs).size z f
  written_by_law cs l f x y z = go (lists.since s m cs)
    where
      go : Since s m cs → written_by (taken_of (box_after s m cs).state (type_of k) l f (arrival_time x y)).arrival (frame_size (box_after s m cs).state (type_of k)) z f
          ≡ written_by (taken_of (box_after s m cs).state (type_of k) l f (arrival_time x y)).arrival (paper_after s m k cs).size z f
      go (Since.good g n t) = ap (λ (n : ℕ). written_by (taken_of (box_after s m cs).state (type_of k) l f (arrival_time x y)).arrival n z f) (size_back k (box_after s m cs).state ∙ (t k).safe.kept.tied.size)
      go (Since.bad n d p) = rw (closed cs l f x y d)

  lends : (cs : List Call) (f : List ℕ) (x y : ℕ) (other : List ℕ)
      → (ours s m).leaves cs (type_of k) f x y other ≡ written_by ((ours s m).arrival cs (type_of k) f x y other) (paper_in s (ours s m) k cs).size other f
  unfolding taken_memory
  lends cs f x y other =
      let b : Box = box_after s m cs in
      written_by_law cs (length other) f x y other
      ∙ ap (λ (n : ℕ). written_by (taken_of b.state (type_of k) n f (arrival_time x y)).arrival (paper_after s m k cs).size other f) (sym (lent_long b.memory (type_of k) other))
      ∙ ap (λ (p : Paper). written_by (arrives b (type_of k) f x y other).arrival p.size other f) (sym (same_paper s m k cs))

  -- something of another length is lent: nothing is written
  other_length : (cs : List Call) (f : List ℕ) (x y : ℕ) (other : List ℕ) → eqb (length other) (length ((box_after s m cs).memory k)) ≡ false
      → (z : List ℕ) (n : ℕ) → written_by (arrives (box_after s m cs) (type_of k) f x y other).arrival n z f ≡ z
  other_length cs f x y other e z n = go (lists.since s m cs)
    where
      b : Box
      b = box_after s m cs

      long_is : (arrives (box_after s m cs) (type_of k) f x y other).arrival ≡ (taken_of (box_after s m cs).state (type_of k) (length other) f (arrival_time x y)).arrival
      long_is = ap (λ (l : ℕ). (taken_of (box_after s m cs).state (type_of k) l f (arrival_time x y)).arrival) (lent_long (box_after s m cs).memory (type_of k) other)

      go : Since s m cs → written_by (arrives (box_after s m cs) (type_of k) f x y other).arrival n z f ≡ z
      go (Since.good g u t) = rw (long_is, refused_length k (box_after s m cs).state (length other) f (arrival_time x y) (t k).safe.ready (ap (eqb (length other)) (t k).safe.kept.tied.noted ∙ e))
      go (Since.bad u d p) = rw (long_is, closed cs (length other) f x y d)

  writes : (cs : List Call) (f : List ℕ) (x y : ℕ) (other : List ℕ)
      → (ours s m).memory k (more cs (arrival (type_of k) f x y other)) ≡ written_by ((ours s m).arrival cs (type_of k) f x y other) (paper_in s (ours s m) k cs).size ((ours s m).memory k cs) f
  unfolding taken_memory
  writes cs f x y other =
      ap (λ (c : Box). c.memory k) (one_more_law s m cs (arrival (type_of k) f x y other))
      ∙ ap (λ (z : Bool). cond z (cond (eqb (length other) (length (b.memory k))) (written_by (arrives b (type_of k) f x y other).arrival (frame_size b.state (type_of k)) (lent_to b.memory (type_of k) other) f) (b.memory k)) (b.memory k)) (same_type k)
      ∙ go (eqb (length other) (length (b.memory k))) refl
      ∙ ap (λ (p : Paper). written_by (arrives b (type_of k) f x y other).arrival p.size (b.memory k) f) (sym (same_paper s m k cs))
    where
      b : Box
      b = box_after s m cs

      lent_is : (v : Bool) → eqb (length other) (length (b.memory k)) ≡ v → lent_to b.memory (type_of k) other ≡ cond v (b.memory k) other
      lent_is v e = ap (λ (j : Kind). cond (eqb (length other) (length (b.memory j))) (b.memory j) other) (kind_back k) ∙ ap (λ (x : Bool). cond x (b.memory k) other) e

      go : (v : Bool) → eqb (length other) (length (b.memory k)) ≡ v
          → cond v (written_by (arrives b (type_of k) f x y other).arrival (frame_size b.state (type_of k)) (lent_to b.memory (type_of k) other) f) (b.memory k)
          ≡ written_by (arrives b (type_of k) f x y other).arrival (paper_after s m k cs).size (b.memory k) f
      go true e =
          ap (λ (z : List ℕ). written_by (arrives b (type_of k) f x y other).arrival (frame_size b.state (type_of k)) z f) (lent_is true e)
          ∙ written_by_law cs (length (lent_to b.memory (type_of k) other)) f x y (b.memory k)
      go false e = sym (other_length cs f x y other e (b.memory k) (paper_after s m k cs).size)

  pub told_3 : Demand3 s m (ours s m) k
  told_3 = record {
    stored = stored;
    returned = returned;
    complete = λ cs. rw (same_paper s m k cs, same_handed cs) (verdict_means s m k cs Complete);
    lends = lends;
    begins = refl;
    asks = λ cs w a. ap (λ (b : Box). b.memory k) (one_more_law s m cs (request w a));
    maps = λ cs c t o l. ap (λ (b : Box). b.memory k) (one_more_law s m cs (change c t o l));
    writes = writes;
    elsewhere = λ cs t f x y other n.
        ap (λ (b : Box). b.memory k) (one_more_law s m cs (arrival t f x y other))
        ∙ ap (λ (z : Bool). cond z (cond (eqb (length other) (length ((box_after s m cs).memory k))) (taken_memory (box_after s m cs).state t (lent_to (box_after s m cs).memory t other) f (arrival_time x y)) ((box_after s m cs).memory k)) ((box_after s m cs).memory k)) (ne_eqb t (type_of k) n);
  }

  -- ---- the flags that QUERYBUF answers
  flags_told : (cs : List Call) (w : ℕ) (a : List ℕ) → (request_of w).call ≡ Querybuf → word_at a 4 ≡ type_of k → ((ours s m).request cs w a).number ≡ 0
      → word_at ((ours s m).request cs w a).argument 12 ≡ mapped_on (paper_in s (ours s m) k cs) (word_at a 0) + 2 * times_in (paper_in s (ours s m) k cs) (word_at a 0) + 4 * times_out (paper_in s (ours s m) k cs) (word_at a 0)
  flags_told cs w a e nm h =
      let b : Box = box_after s m cs in
      let q : Reached b.sheet b.state w a = reached b.sheet b.state w a h in
      let is : asks b w a ≡ stream_call querybuf_of 4 b.state a = q.is ∙ ap (λ (call : Asked). call_answer call b.sheet b.state a) e in
      let at : kind_of (word_at a 4) ≡ k = ap kind_of nm ∙ kind_back k in
      let (n, v) = subst (λ (j : Kind). ((querybuf_of (stream_of j b.state) (type_of j) (size_of j b.state) a).number ≡ 0)
      × ((stream_call querybuf_of 4 b.state a).argument ≡ (querybuf_of (stream_of j b.state) (type_of j) (size_of j b.state) a).argument)) at
      (stream_argument querybuf_of 4 b.state a (ap (λ (r : Answer). r.number) (sym is) ∙ h)) in
      let (x, y, z) = one_place s m k cs (word_at a 0) in
      let st : Status = status_of (stream_of k b.state) (word_at a 0) (size_of k b.state) in
      let fl : st.flags ≡ mapped_on (paper_after s m k cs) (word_at a 0) + 2 * times_in (paper_after s m k cs) (word_at a 0) + 4 * times_out (paper_after s m k cs) (word_at a 0) = status_flags (stream_of k b.state) (word_at a 0) (size_of k b.state) ∙ z in
      ap (λ (r : Answer). word_at r.argument 12) is
      ∙ ap (λ (l : List ℕ). word_at l 12) (v ∙ querybuf_answers (stream_of k b.state) (type_of k) (size_of k b.state) a (q.long ∙ ap argument_size e) n)
      ∙ buffer_flags (type_of k) st (omega (arith, x, fl, mapped_most (is_mapped (paper_after s m k cs).maps (word_at a 0))))
      ∙ fl ∙ ap (λ (p : Paper). mapped_on p (word_at a 0) + 2 * times_in p (word_at a 0) + 4 * times_out p (word_at a 0)) (sym (same_paper s m k cs))

  pub told_counts : Counts s (ours s m) k
  told_counts = record {
    adds = λ cs. rw (same_paper s m k cs) (history_equation s m k cs).0;
    counted = λ cs. rw (same_paper s m k cs) (history_equation s m k cs).1;
    within = λ cs. rw (same_paper s m k cs) (within_limit s m k cs);
    once = λ cs i. rw (same_paper s m k cs) (one_place s m k cs i).0;
    beyond = λ cs i. rw (same_paper s m k cs) (one_place s m k cs i).1;
    tallied = λ cs i. rw (same_paper s m k cs, same_events s m k cs [] (blank (opening_size s k))) (mapped_tallied s m k cs i).0;
    most = λ cs i. rw (same_paper s m k cs) (mapped_tallied s m k cs i).1;
    spare = λ cs i. rw (same_paper s m k cs) (mapped_tallied s m k cs i).2;
    flags = flags_told;
    running = λ cs. rw (same_paper s m k cs) (verdict_means s m k cs Running);
    blank = λ cs. rw (same_paper s m k cs) (verdict_means s m k cs Blank);
    gaps = λ cs. rw (same_paper s m k cs) (verdict_means s m k cs Gaps);
  }
