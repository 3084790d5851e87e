-- A buffer that is handed in gets its arrival and comes back with it.
use mathlib.Core.Path.{◌≡◌, refl, sym, ap, ◌∙◌, subst}
use mathlib.Core.Bool.{Bool, true, false, cond, ◌&&◌, true≢false}
use Prim.Native.Nat.{ℕ, ◌+◌}
use lib.Dec.{leb}
use mathlib.Core.List.{List, [], ◌∷◌, ◌++◌, append_assoc}
use lib.ListN.{length, take, drop}
use Rattle.stream_words.specs.declared.Time.{Time}
use Rattle.stream_words.specs.declared.Filled.{Filled}
use Rattle.stream_slots.specs.Slot.{slot_offset}
use Rattle.stream_run.specs.Replies.Reply.{Done, Returned}
use Rattle.stream_run.specs.Stream.{reduced}
use Rattle.stream_run.specs.Switches.{request_buffers_of, start_of, stop_of}
use Rattle.stream_queue.specs.Queueing.{enqueue_of, dequeue_of}
use Rattle.stream_slots.specs.Slot.{buffer_at}
use Rattle.stream_mmap.specs.Mapping.{change_of}
use Rattle.stream_arrival.specs.declared.Arrival.TheVariants as arrivals
use Rattle.stream_history.specs.Calls.{Call, Answer, World, opened, arrives, size_reply, answer, next, after}
use Rattle.stream_history.specs.Calls.Call.{request, enqueue, dequeue, start, stop, resize, change, arrival, other}
use Rattle.stream_history.specs.Calls.Answer.{replied, arrived}
use Rattle.stream_history.specs.Paper.{Pair, Paper, Event, blank, refused_reply, refused_arrival, grant_in, told, frame_of, filled, step, noted, events, wholes, dequeues, Calm}
use Rattle.stream_history.specs.Paper.Event.{put, whole, damaged, handed, begun, ended, sized, changed, idle}
use Rattle.stream_history.specs.Claims.{paper_after, world_after, slot_bytes, Stores, ArrivalAmong, Returns}
use Rattle.stream_history.proofs.Lists.{All, all_append}
use Rattle.stream_history.proofs.Sound.{Fits}
use Rattle.stream_history.proofs.Tied.{Tied, Answers, Held, entry, placed_as, first_of}
use Rattle.stream_history.proofs.Every.{Kept, fits_next, foretold_next, kept_next, kept_after_law, legal_events, kept}
use Rattle.stream_history.proofs.Machine.{leaves_append, noted_tells, Cut, cut}
use Rattle.stream_history.proofs.Order.{At, Leaves, pair_of, comes_first, leaves}

-- ---- at one moment

-- the first incoming buffer is k: a whole arrival is stored there
stored_now : (w : World) (p : Paper) (k : ℕ) (r : List ℕ) (b : List ℕ) (t : Time) (fl : Bool) (lends : List ℕ) → Kept w p → p.incoming ≡ k ∷ r
    → told p (arrival b t fl lends) (answer w (arrival b t fl lends)) ≡ whole b t
    → (answer w (arrival b t fl lends) ≡ arrived (arrivals.Stored k (reduced p.run.accepted)))
    × (slot_bytes (next w (arrival b t fl lends)) k (length b) ≡ b)
stored_now w p k r b t fl lends g e h =
    let c : Call = arrival b t fl lends in
    let a : answer w c ≡ arrived (placed_as p.incoming (reduced p.run.accepted)) = subst (λ (v : Event). Answers p v (answer w c)) h (foretold_next w p c g) in
    let n : Tied (next w c) (step p (whole b t)) = subst (λ (v : Event). Tied (next w c) (step p v)) h (kept_next w p c g).tied in
    let m : List ℕ = (next w c).memory in
    let all : All (Held p.size m) (filled (k ∷ r) (frame_of p b t) p.outgoing) =
    subst (λ (i : List ℕ). All (Held p.size m) (filled i (frame_of p b t) p.outgoing)) e n.held in (
      a ∙ ap (λ (i : List ℕ). arrived (placed_as i (reduced p.run.accepted))) e,
      ap (λ (z : ℕ). take (length b) (drop (slot_offset k z) m)) n.size ∙ (all_append (Held p.size m) p.outgoing (pair_of k p b t ∷ []) all).1.0.1,
    )

-- the first outgoing pair is x: a dequeue returns it, and its slot holds its bytes
returned_now : (w : World) (p : Paper) (x : Pair) (r : List Pair) (f : Filled) → Kept w p → p.outgoing ≡ x ∷ r → answer w dequeue ≡ replied (Returned f)
    → (f ≡ entry x) × (slot_bytes w x.index (length x.frame.bytes) ≡ x.frame.bytes)
returned_now w p x r f g e h =
    let told-handed : told p dequeue (answer w dequeue) ≡ handed = ap (told p dequeue) h in
    let a : answer w dequeue ≡ replied (Returned (first_of p.outgoing)) =
    subst (λ (v : Event). Answers p v (answer w dequeue)) told-handed (foretold_next w p dequeue g) in
    let q : replied (Returned f) ≡ replied (Returned (entry x)) = sym h ∙ a ∙ ap (λ (o : List Pair). replied (Returned (first_of o))) e in
    let held : Held p.size w.memory x = (subst (All (Held p.size w.memory)) e g.tied.held).0 in
    (cc q, ap (λ (z : ℕ). take (length x.frame.bytes) (drop (slot_offset x.index z) w.memory)) g.tied.size ∙ held.1)

-- ---- from the moment that k is handed in

stores_at : (w : World) (p : Paper) (k : ℕ) (mid : List Call) (b : List ℕ) (t : Time) (fl : Bool) (lends : List ℕ) → Kept w (step p (put k))
    → Calm (events w (step p (put k)) mid) → wholes (events w (step p (put k)) mid) ≡ length p.incoming
    → told (noted (step p (put k)) (events w (step p (put k)) mid)) (arrival b t fl lends) (answer (after w mid) (arrival b t fl lends)) ≡ whole b t
    → (answer (after w mid) (arrival b t fl lends) ≡ arrived (arrivals.Stored k (reduced (noted (step p (put k)) (events w (step p (put k)) mid)).run.accepted)))
    × (slot_bytes (next (after w mid) (arrival b t fl lends)) k (length b) ≡ b)
stores_at w p k mid b t fl lends g c n h =
    let (r, e) = comes_first p k (events w (step p (put k)) mid) c n in
    stored_now (after w mid) (noted (step p (put k)) (events w (step p (put k)) mid)) k r b t fl lends (kept_after_law mid w (step p (put k)) g) e h

-- A call that tells of a whole arrival is one.
record IsArrival (c : Call) (b : List ℕ) (t : Time) : Type 0 where
  flag : Bool
  lends : List ℕ
  is : c ≡ arrival b t flag lends

-- whether an event is a whole arrival
abbrev pub is_whole : Event → Bool
is_whole (put k) = false
is_whole (whole b t) = true
is_whole damaged = false
is_whole handed = false
is_whole begun = false
is_whole (ended n) = false
is_whole (sized n) = false
is_whole (changed c k) = false
is_whole idle = false

pub never : (e : Event) (b : List ℕ) (t : Time) {A : Type 0} → is_whole e ≡ false → e ≡ whole b t → A
never e b t n h = absurd (true≢false (sym (ap is_whole h) ∙ n))

-- a call that does not, refused or not
pub unless : (x : Bool) (e : Event) (b : List ℕ) (t : Time) {A : Type 0} → is_whole e ≡ false → cond x idle e ≡ whole b t → A
unless true e b t n h = never idle b t refl h
unless false e b t n h = never e b t n h

whole_call : (w : World) (p : Paper) (c : Call) (b : List ℕ) (t : Time) → told p c (answer w c) ≡ whole b t → IsArrival c b t
whole_call w p (request n) b t h = unless (refused_reply (request_buffers_of w.stream n w.size).reply) (ended (grant_in (request_buffers_of w.stream n w.size).reply)) b t refl h
whole_call w p (enqueue k) b t h = unless (refused_reply (enqueue_of w.stream k).reply) (put k) b t refl h
whole_call w p dequeue b t h = unless (refused_reply (dequeue_of w.stream).reply) handed b t refl h
whole_call w p start b t h =
    unless (refused_reply (start_of w.stream).reply) (cond p.running idle begun) b t
    (elim p.running as (λ x. is_whole (cond x idle begun) ≡ false) [ true ↦ refl | false ↦ refl ]) h
whole_call w p stop b t h = unless (refused_reply (stop_of w.stream).reply) (ended p.granted) b t refl h
whole_call w p (resize n) b t h = unless (refused_reply (size_reply w.stream.queues.granted)) (sized n) b t refl h
whole_call w p (change c o l) b t h = unless (refused_reply (change_of c w.stream w.size o l).reply) (changed c (buffer_at p.size o)) b t refl h
whole_call w p other b t h = never idle b t refl h
whole_call w p (arrival d u fl lends) b t h = go (refused_arrival (arrives w d u fl lends).arrival) p.running (fl && leb (length d) p.size) h
  where
    go : (z x y : Bool) → cond z idle (cond x (cond y (whole d u) damaged) idle) ≡ whole b t → IsArrival (arrival d u fl lends) b t
    go true x y e = never idle b t refl e
    go false true true e = record { flag = fl; lends = lends; is = cc e }
    go false true false e = never damaged b t refl e
    go false false y e = never idle b t refl e

arrival_of_law : (w : World) (p : Paper) (cs : List Call) (n : ℕ) (a : At (events w p cs) n) → Cut answer next told w p cs a.front (whole a.bytes a.time) → ArrivalAmong w p cs n
arrival_of_law w p cs n a c = go (whole_call (after w c.fore) (noted p (events w p c.fore)) c.call a.bytes a.time c.tells_call)
  where
    go : IsArrival c.call a.bytes a.time → ArrivalAmong w p cs n
    go i = record {
      front = c.fore;
      bytes = a.bytes;
      time = a.time;
      flag = i.flag;
      lends = i.lends;
      back = c.aft;
      is = rw i.is at c.is;
      accepted = rw i.is at c.tells_call;
      place = ap wholes c.tells_front ∙ a.place;
    }

-- what comes back: the arrival before which n whole ones came
abbrev ComesBack : World → Paper → ℕ → List Call → Filled → ℕ → Type 0
ComesBack w q k mid f n =
    (a : ArrivalAmong w q mid n)
    × (f ≡ record { index = k; number = reduced (noted q (events w q a.front)).run.accepted; used = length a.bytes; time = a.time })
    × (slot_bytes (after w mid) k (length a.bytes) ≡ a.bytes)

returns_at : (w : World) (p : Paper) (k : ℕ) (mid : List Call) (f : Filled) → Kept w (step p (put k))
    → Calm (events w (step p (put k)) mid) → dequeues (events w (step p (put k)) mid) ≡ length p.outgoing + length p.incoming
    → answer (after w mid) dequeue ≡ replied (Returned f) → ComesBack w (step p (put k)) k mid f (length p.incoming)
unfolding arrival_of_law
returns_at w p k mid f g c n h =
    go (leaves p k (events w (step p (put k)) mid) c (legal_events mid w (step p (put k)) g)
    (subst (Fits now_paper) (ap (told now_paper dequeue) h) (fits_next (after w mid) now_paper dequeue now_kept)) n)
  where
    now_paper : Paper
    now_paper = noted (step p (put k)) (events w (step p (put k)) mid)

    now_kept : Kept (after w mid) (noted (step p (put k)) (events w (step p (put k)) mid))
    now_kept = kept_after_law mid w (step p (put k)) g

    go : Leaves p k (events w (step p (put k)) mid) → ComesBack w (step p (put k)) k mid f (length p.incoming)
    go l =
        let q : Paper = step p (put k) in
        let t : Cut answer next told w q mid l.at.front (whole l.at.bytes l.at.time) = cut answer next told mid w q l.at.front (whole l.at.bytes l.at.time) l.at.back l.at.is in
        let (x, y) = returned_now (after w mid) now_paper (pair_of k (noted q l.at.front) l.at.bytes l.at.time) l.behind f now_kept l.first h in
        let back : List Event → Filled = λ es. record { index = k; number = reduced (noted q es).run.accepted; used = length l.at.bytes; time = l.at.time } in
        (arrival_of_law w q mid (length p.incoming) l.at t, x ∙ ap back (sym t.tells_front), y)

-- the same on any paper that is as it was when k was handed in
returns_on : (w : World) (p q : Paper) (k : ℕ) (mid : List Call) (f : Filled) → q ≡ step p (put k) → Kept w q → Calm (events w q mid)
    → dequeues (events w q mid) ≡ length p.outgoing + length p.incoming
    → answer (after w mid) dequeue ≡ replied (Returned f) → ComesBack w q k mid f (length p.incoming)
returns_on w p q k mid f e =
    subst (λ (q : Paper). Kept w q → Calm (events w q mid) → dequeues (events w q mid) ≡ length p.outgoing + length p.incoming
    → answer (after w mid) dequeue ≡ replied (Returned f) → ComesBack w q k mid f (length p.incoming))
    (sym e) (returns_at w p k mid f)

-- ---- from the opening

module _ (size : ℕ) (m : List ℕ) (before : List Call) (k : ℕ) where
  -- the paper and the stream when k has been handed in and accepted
  paper_in_law : answer (world_after size m before) (enqueue k) ≡ replied Done → paper_after size m (before ++ enqueue k ∷ []) ≡ step (paper_after size m before) (put k)
  paper_in_law h =
      noted_tells answer next told before (enqueue k ∷ []) (opened size m) (blank size) ∙ ap (λ (a : Answer). step (paper_after size m before) (told (paper_after size m before) (enqueue k) a)) h

  kept_in : answer (world_after size m before) (enqueue k) ≡ replied Done → Kept (world_after size m (before ++ enqueue k ∷ [])) (step (paper_after size m before) (put k))
  kept_in h = subst (Kept (world_after size m (before ++ enqueue k ∷ []))) (paper_in_law h) (kept size m (before ++ enqueue k ∷ []))

  -- and after more calls
  split : (mid : List Call) → before ++ enqueue k ∷ mid ≡ (before ++ enqueue k ∷ []) ++ mid
  split mid = sym (append_assoc before (enqueue k ∷ []) mid)

  world_mid : (mid : List Call) → world_after size m (before ++ enqueue k ∷ mid) ≡ after (world_after size m (before ++ enqueue k ∷ [])) mid
  world_mid mid = ap (after (opened size m)) (split mid) ∙ leaves_append answer next told (before ++ enqueue k ∷ []) mid (opened size m)

  paper_mid : (mid : List Call) → paper_after size m (before ++ enqueue k ∷ mid)
      ≡ noted (paper_after size m (before ++ enqueue k ∷ [])) (events (world_after size m (before ++ enqueue k ∷ [])) (paper_after size m (before ++ enqueue k ∷ [])) mid)
  paper_mid mid = ap (paper_after size m) (split mid) ∙ noted_tells answer next told (before ++ enqueue k ∷ []) mid (opened size m) (blank size)

pub stores : Stores
stores size m before k mid b t fl lends (h, c) n e =
    rw (world_mid size m before k mid, paper_mid size m before k mid, paper_in_law size m before k h)
    (stores_at (world_after size m (before ++ enqueue k ∷ [])) (paper_after size m before) k mid b t fl lends (kept_in size m before k h)
    (rw (paper_in_law size m before k h) at c) (rw (paper_in_law size m before k h) at n)
    (rw (world_mid size m before k mid, paper_mid size m before k mid, paper_in_law size m before k h) at e))

pub returns_in_order : Returns
returns_in_order size m before k mid f (h, c) n e =
    let w : World = world_after size m (before ++ enqueue k ∷ []) in
    let q : Paper = paper_after size m (before ++ enqueue k ∷ []) in
    let (a, x, y) = returns_on w (paper_after size m before) q k mid f (paper_in_law size m before k h) (kept size m (before ++ enqueue k ∷ [])) c n
    (rw (world_mid size m before k mid) at e) in
    let back : Paper → Filled = λ p. record { index = k; number = reduced p.run.accepted; used = length a.bytes; time = a.time } in
    (a, x ∙ ap back (sym (paper_mid size m before k a.front)), rw (world_mid size m before k mid) y)
