-- Demand 3 of our device and its memory.
use mathlib.Core.Path.{◌≡◌, refl, sym, ap, ◌∙◌, subst}
use mathlib.Core.Bool.{Bool, true, false, cond, not, true≢false, false≢true}
use Prim.Native.Nat.{ℕ, ◌+◌, ◌^◌, ◌≤◌, ◌<◌}
use native.Mathlib.Omega.{arith}
use lib.Dec.{eqb}
use borrow.Author.Tests.{eqb-true, eq-eqb}
use mathlib.Core.List.{List, [], ◌∷◌, ◌++◌, map, append_assoc}
use lib.ListN.{length, get_or, take, drop}
use Rattle.wire_read.specs.Words.{word_at}
use Rattle.wire_signed.specs.Signed.{signed_at}
use Rattle.ioctl_table.specs.Table.{request_of}
use Rattle.ioctl_table.specs.declared.table.Call.{Call as Asked}
use Rattle.ioctl_table.specs.declared.table.Call.TheVariants.{Unknown, Querycap, EnumFmt, GFmt, SFmt, TryFmt, Reqbufs, Querybuf, Qbuf, Dqbuf, Streamon, Streamoff, GCtrl, SCtrl, Queryctrl, Cropcap, GCrop, SCrop, GSlicedVbiCap}
use Rattle.format_rules.proofs.Bounds.{image_fits}
use Rattle.sheet_geometry.specs.Geometry.{line_alignment}
use Rattle.stream_words.specs.declared.Time.{Time}
use Rattle.stream_slots.specs.Slot.{slot_offset, buffer_at}
use Rattle.stream_slots.proofs.Slots.{slots_apart}
use Rattle.stream_run.specs.Stream.{reduced}
use Rattle.stream_arrival.specs.declared.Arrival.TheVariants as arrivals
use Rattle.stream_status.specs.declared.Status.{Status}
use Rattle.stream_verdict.specs.Film.{verdict_of}
use Rattle.stream_verdict.specs.declared.Verdict.{Verdict}
use Rattle.stream_verdict.specs.declared.Verdict.TheVariants.{Running, Blank, Gaps, Complete}
use Rattle.stream_status.specs.Buffer.{described_of, returned_of}
use Rattle.buffer_replies.specs.Replies.{buffer_reply}
use Rattle.buffer_replies.proofs.Lengths.{buffer_index, buffer_used, buffer_number, buffer_offset, buffer_seconds, buffer_microseconds}
use Rattle.device_state.specs.State.{closed_state}
use Rattle.device_maps.specs.Mapping.{mapped_of}
use Rattle.device_film.specs.Film.{device_verdict}
use Rattle.stream_history.specs.Paper.{Pair, Paper, Event, index_of, blank, refused_arrival, frame_of, filled, step, noted, wholes, dequeues, Calm}
use Rattle.stream_history.specs.Paper.Event.{put, whole, damaged, handed, begun, changed, idle}
use Rattle.stream_history.specs.Claims.{◌⇔◌}
use Rattle.stream_history.proofs.Lists.{All, all_append}
use Rattle.stream_history.proofs.Sound.{Fits, sound_blank}
use Rattle.stream_history.proofs.Rising.{Ordered, ordered_after, ordered_blank}
use Rattle.stream_history.proofs.Tied.{Tied, Held, entry, placed_as, first_of}
use Rattle.stream_history.proofs.Order.{At, Leaves, pair_of, comes_first, leaves}
use Rattle.stream_history.proofs.Machine.{leaves_append, noted_tells, Cut, cut, keeps_after, legal_tells}
use Rattle.stream_history.proofs.InOrder.{is_whole, never}
use Rattle.stream_history.proofs.Meanings.{Means, exactly}
use Rattle.claims.specs.Calls.Call.{request, arrival, change}
use Rattle.claims.specs.Calls.Reply.{answered, taken}
use Rattle.claims.proofs.Steps.{view, Timed, Safe, Foretold}
use Rattle.claims.proofs.Open.{fits_next, foretold_next, safe_next}
use Rattle.claims.proofs.Shut.{Shut, shut_request, shut_after, closed_shut, Begun, begins}
use Rattle.claims.specs.Calls.{Kind, type_of, Call, Reply, arrival_time}
use Rattle.claims.proofs.Boxes.{Box, opened, asks, arrives, reply, seen, next, after, events, paper_after, handed_after, box_after, StoredInIt, ArrivalAmong, ReturnedWithIt}
use Rattle.claims.specs.Words.{type_at, request_told, told_by, told, opening_size}
use Rattle.claims.specs.Table.{whole_on}
use Rattle.claims.specs.Device.{stream_of}
use Rattle.claims.proofs.Checks.{size_of}
use Rattle.service_rules.specs.Negotiation.{io_size}
use Rattle.service_rules.proofs.Counts.{count_most}
use Rattle.device_state.specs.State.{State}

io_most : (l : List ℕ) → io_size l ≤ 302764032
unfolding io_size
io_most l = omega (arith, count_most 48 (λ k. not (eqb (get_or l k 0) 0)))

-- ---- of one stream

module _ (kd : Kind) where
  -- ---- at one moment

  -- a frame size is far from 32 bits
  size_most : (b : Box) (p : Paper) → Safe kd b p → size_of kd b.state ≤ 302764032
  size_most b p s = go kd s
    where
      go : (j : Kind) → Safe j b p → size_of j b.state ≤ 302764032
      go Kind.pictures z = omega (arith, z.sized.1, image_fits b.state.format (line_alignment b.sheet))
      go Kind.captions z = io_most b.state.services

  -- what an accepted request that names the stream tells
  told_accepted : (b : Box) (p : Paper) (v : ℕ) (c a : List ℕ) (call : Asked) → (request_of v).call ≡ call → word_at c (type_at call) ≡ type_of kd → reply b (request v c) ≡ answered 0 a
      → told kd p (request v c) (seen b (request v c)) ≡ request_told kd p call c a
  told_accepted b p v c a call w n h =
      ap (λ (z : Reply). told kd p (request v c) (z, b.state.services)) h
      ∙ ap (λ (x : Asked). told_by kd p x c a) w
      ∙ ap (λ (x : Bool). cond x (request_told kd p call c a) idle) (eq-eqb (word_at c (type_at call)) (type_of kd) n)

  -- the first incoming buffer is k: a whole arrival is stored there
  stored_now : (b : Box) (p : Paper) (k : ℕ) (r : List ℕ) (f : List ℕ) (x y : ℕ) (other : List ℕ) → Safe kd b p → p.incoming ≡ k ∷ r
      → told kd p (arrival (type_of kd) f x y other) (seen b (arrival (type_of kd) f x y other)) ≡ whole f (arrival_time x y)
      → (reply b (arrival (type_of kd) f x y other) ≡ taken (arrivals.Stored k (reduced p.run.accepted)))
      × (take (length f) (drop (slot_offset k p.size) ((next b (arrival (type_of kd) f x y other)).memory kd)) ≡ f)
  stored_now b p k r f x y other s e h =
      let c : Call = arrival (type_of kd) f x y other in
      let a : reply b c ≡ taken (placed_as p.incoming (reduced p.run.accepted)) = subst (λ (v : Event). Foretold kd p v (reply b c)) h (foretold_next kd b p c s) in
      let n : Tied (view kd (next b c)) (step p (whole f (arrival_time x y))) = subst (λ (v : Event). Tied (view kd (next b c)) (step p v)) h (safe_next kd b p c s).kept.tied in
      let m : List ℕ = (next b c).memory kd in
      let all : All (Held p.size m) (filled (k ∷ r) (frame_of p f (arrival_time x y)) p.outgoing) =
      subst (λ (l : List ℕ). All (Held p.size m) (filled l (frame_of p f (arrival_time x y)) p.outgoing)) e n.held in (
        a ∙ ap (λ (l : List ℕ). taken (placed_as l (reduced p.run.accepted))) e,
        (all_append (Held p.size m) p.outgoing (pair_of k p f (arrival_time x y) ∷ []) all).1.0.1,
      )

  -- What the answer of a dequeue says of x, the pair that it hands over.
  record Says (b : Box) (p : Paper) (x : Pair) (a : List ℕ) : Type 0 where
    index : word_at a 0 ≡ x.index
    number : word_at a 44 ≡ reduced x.frame.place
    used : word_at a 8 ≡ length x.frame.bytes
    seconds : signed_at a 20 ≡ x.frame.time.seconds
    microseconds : signed_at a 24 ≡ x.frame.time.microseconds
    bytes : take (length x.frame.bytes) (drop (word_at a 52) (b.memory kd)) ≡ x.frame.bytes

  says : (b : Box) (p : Paper) (x : Pair) (r : List Pair) → Safe kd b p → p.outgoing ≡ x ∷ r → Says b p x (buffer_reply (type_of kd) (returned_of p.maps (entry x) p.size))
  unfolding returned_of described_of
  says b p x r s e =
      let st : Status = returned_of p.maps (entry x) p.size in
      let held : Held p.size (b.memory kd) x = (subst (All (Held p.size (b.memory kd))) e s.kept.tied.held).0 in
      let timed : Timed x.frame.time = (subst (All (λ y. Timed y.frame.time)) e s.timed).0 in
      let below : x.index < p.granted = (subst (λ (l : List Pair). All (λ k. k < p.granted) (map index_of l ++ p.incoming)) e s.kept.sound.below).0 in
      let image : p.size ≤ 302764032 = omega (arith, s.kept.tied.size, size_most b p s) in
      let at : slot_offset x.index p.size < 2 ^ 32 = omega (arith, slots_apart x.index p.granted p.size below, s.kept.tied.fits, s.short) in
      record {
        index = buffer_index (type_of kd) st (omega (arith, below, s.kept.sound.few));
        number = buffer_number (type_of kd) st (omega arith);
        used = buffer_used (type_of kd) st (omega (arith, held.0, image));
        seconds = buffer_seconds (type_of kd) st timed.0;
        microseconds = buffer_microseconds (type_of kd) st timed.1;
        bytes = ap (λ (n : ℕ). take (length x.frame.bytes) (drop n (b.memory kd))) (buffer_offset (type_of kd) st at) ∙ held.1;
      }

  -- the first outgoing pair is x: an accepted DQBUF hands it over
  returned_now : (b : Box) (p : Paper) (x : Pair) (r : List Pair) (v : ℕ) (c a : List ℕ) → Safe kd b p → p.outgoing ≡ x ∷ r
      → (request_of v).call ≡ Dqbuf → word_at c 4 ≡ type_of kd → reply b (request v c) ≡ answered 0 a → Says b p x a
  returned_now b p x r v c a s e w n h =
      let told-handed : told kd p (request v c) (seen b (request v c)) ≡ handed = told_accepted b p v c a Dqbuf w n h in
      let g : reply b (request v c) ≡ answered 0 (buffer_reply (type_of kd) (returned_of p.maps (first_of p.outgoing) p.size)) =
      subst (λ (z : Event). Foretold kd p z (reply b (request v c))) told-handed (foretold_next kd b p (request v c) s) in
      let q : answered 0 (buffer_reply (type_of kd) (returned_of p.maps (entry x) p.size)) ≡ answered 0 a =
      sym (g ∙ ap (λ (l : List Pair). answered 0 (buffer_reply (type_of kd) (returned_of p.maps (first_of l) p.size))) e) ∙ h in
      subst (Says b p x) (cc q) (says b p x r s e)

  -- an accepted DQBUF found a filled buffer
  some_handed : (b : Box) (p : Paper) (v : ℕ) (c a : List ℕ) → Safe kd b p → (request_of v).call ≡ Dqbuf → word_at c 4 ≡ type_of kd → reply b (request v c) ≡ answered 0 a → 0 < length p.outgoing
  some_handed b p v c a s w n h = subst (Fits p) (told_accepted b p v c a Dqbuf w n h) (fits_next kd b p (request v c) s)

  -- ---- the call behind a whole arrival

  record IsArrival (c : Call) (f : List ℕ) (t : Time) : Type 0 where
    seconds : ℕ
    microseconds : ℕ
    other : List ℕ
    is : c ≡ arrival (type_of kd) f seconds microseconds other
    time : arrival_time seconds microseconds ≡ t

  -- no request tells of one
  not_whole : (p : Paper) (call : Asked) (a b : List ℕ) → is_whole (request_told kd p call a b) ≡ false
  not_whole p Unknown a b = refl
  not_whole p Querycap a b = refl
  not_whole p EnumFmt a b = refl
  not_whole p GFmt a b = refl
  not_whole p SFmt a b = refl
  not_whole p TryFmt a b = refl
  not_whole p Reqbufs a b = refl
  not_whole p Querybuf a b = refl
  not_whole p Qbuf a b = refl
  not_whole p Dqbuf a b = refl
  not_whole p Streamon a b = elim p.running as (λ x. is_whole (cond x idle begun) ≡ false) [ true ↦ refl | false ↦ refl ]
  not_whole p Streamoff a b = refl
  not_whole p GCtrl a b = refl
  not_whole p SCtrl a b = refl
  not_whole p Queryctrl a b = refl
  not_whole p Cropcap a b = refl
  not_whole p GCrop a b = refl
  not_whole p SCrop a b = refl
  not_whole p GSlicedVbiCap a b = refl

  whole_call : (b : Box) (p : Paper) (c : Call) (f : List ℕ) (t : Time) → told kd p c (seen b c) ≡ whole f t → IsArrival c f t
  whole_call b p (request w a) f t h = go (eqb (asks b w a).number 0) (eqb (word_at a (type_at (request_of w).call)) (type_of kd)) h
    where
      go : (x y : Bool) → cond x (cond y (request_told kd p (request_of w).call a (asks b w a).argument) idle) idle ≡ whole f t → IsArrival (request w a) f t
      go true true e = never (request_told kd p (request_of w).call a (asks b w a).argument) f t (not_whole p (request_of w).call a (asks b w a).argument) e
      go true false e = never idle f t refl e
      go false y e = never idle f t refl e
  whole_call b p (arrival n g x y other) f t h = go (eqb n (type_of kd)) refl (refused_arrival (arrives b n g x y other).arrival) p.running (whole_on kd p.size b.state.services g (arrival_time x y)) h
    where
      go : (z : Bool) → eqb n (type_of kd) ≡ z → (u v w : Bool) → cond z (cond u idle (cond v (cond w (whole g (arrival_time x y)) damaged) idle)) idle ≡ whole f t → IsArrival (arrival n g x y other) f t
      go false i u v w e = never idle f t refl e
      go true i true v w e = never idle f t refl e
      go true i false false w e = never idle f t refl e
      go true i false true false e = never damaged f t refl e
      go true i false true true e = record { seconds = x; microseconds = y; other = other; is = cc (eqb-true n (type_of kd) i, e); time = cc e }
  whole_call b p (change c n o l) f t h = go (eqb (mapped_of c b.state n o l).number 0) (eqb n (type_of kd)) h
    where
      go : (x y : Bool) → cond x (cond y (changed c (buffer_at p.size o)) idle) idle ≡ whole f t → IsArrival (change c n o l) f t
      go true true e = never (changed c (buffer_at p.size o)) f t refl e
      go true false e = never idle f t refl e
      go false y e = never idle f t refl e

  arrival_of_law : (b : Box) (p : Paper) (cs : List Call) (n : ℕ) (a : At (events kd b p cs) n) (c : Cut seen next (told kd) b p cs a.front (whole a.bytes a.time))
      → IsArrival c.call a.bytes a.time → ArrivalAmong kd b p cs n
  arrival_of_law b p cs n a c k = record {
    front = c.fore;
    frame = a.bytes;
    seconds = k.seconds;
    microseconds = k.microseconds;
    other = k.other;
    back = c.aft;
    is = rw k.is at c.is;
    accepted = rw k.is at c.tells_call ∙ ap (whole a.bytes) (sym k.time);
    place = ap wholes c.tells_front ∙ a.place;
  }

  -- ---- from the moment that k is handed in

  pub safe_after : (cs : List Call) (b : Box) (p : Paper) → Safe kd b p → Safe kd (after b cs) (noted p (events kd b p cs))
  safe_after = keeps_after seen next (told kd) (Safe kd) (safe_next kd)

  stores_at : (b : Box) (p : Paper) (k : ℕ) (mid : List Call) (f : List ℕ) (x y : ℕ) (other : List ℕ) → Safe kd b (step p (put k))
      → Calm (events kd b (step p (put k)) mid) → wholes (events kd b (step p (put k)) mid) ≡ length p.incoming
      → told kd (noted (step p (put k)) (events kd b (step p (put k)) mid)) (arrival (type_of kd) f x y other) (seen (after b mid) (arrival (type_of kd) f x y other)) ≡ whole f (arrival_time x y)
      → (reply (after b mid) (arrival (type_of kd) f x y other) ≡ taken (arrivals.Stored k (reduced (noted (step p (put k)) (events kd b (step p (put k)) mid)).run.accepted)))
      × (take (length f) (drop (slot_offset k (noted (step p (put k)) (events kd b (step p (put k)) mid)).size) ((next (after b mid) (arrival (type_of kd) f x y other)).memory kd)) ≡ f)
  stores_at b p k mid f x y other s c n h =
      let (r, e) = comes_first p k (events kd b (step p (put k)) mid) c n in
      stored_now (after b mid) (noted (step p (put k)) (events kd b (step p (put k)) mid)) k r f x y other (safe_after mid b (step p (put k)) s) e h

  -- what comes back: the arrival before which n whole ones came
  abbrev ComesBack : Box → Paper → ℕ → List Call → List ℕ → ℕ → Type 0
  ComesBack b q k mid a n =
      (r : ArrivalAmong kd b q mid n)
      × (word_at a 0 ≡ k)
      × (word_at a 44 ≡ reduced (noted q (events kd b q r.front)).run.accepted)
      × (word_at a 8 ≡ length r.frame)
      × (signed_at a 20 ≡ (arrival_time r.seconds r.microseconds).seconds)
      × (signed_at a 24 ≡ (arrival_time r.seconds r.microseconds).microseconds)
      × (take (length r.frame) (drop (word_at a 52) ((after b mid).memory kd)) ≡ r.frame)

  returns_at : (b : Box) (p : Paper) (k : ℕ) (mid : List Call) (v : ℕ) (c a : List ℕ) → Safe kd b (step p (put k))
      → Calm (events kd b (step p (put k)) mid) → dequeues (events kd b (step p (put k)) mid) ≡ length p.outgoing + length p.incoming
      → (request_of v).call ≡ Dqbuf → word_at c 4 ≡ type_of kd → reply (after b mid) (request v c) ≡ answered 0 a → ComesBack b (step p (put k)) k mid a (length p.incoming)
  unfolding arrival_of_law
  returns_at b p k mid v c a s calm n w d h =
      go (leaves p k (events kd b (step p (put k)) mid) calm (legal_tells seen next (told kd) (Safe kd) (safe_next kd) (fits_next kd) mid b (step p (put k)) s) (some_handed (after b mid) now_paper v c a now_safe w d h) n)
    where
      now_paper : Paper
      now_paper = noted (step p (put k)) (events kd b (step p (put k)) mid)

      now_safe : Safe kd (after b mid) (noted (step p (put k)) (events kd b (step p (put k)) mid))
      now_safe = safe_after mid b (step p (put k)) s

      go : Leaves p k (events kd b (step p (put k)) mid) → ComesBack b (step p (put k)) k mid a (length p.incoming)
      go l =
          let q : Paper = step p (put k) in
          let t : Cut seen next (told kd) b q mid l.at.front (whole l.at.bytes l.at.time) =
          cut seen next (told kd) mid b q l.at.front (whole l.at.bytes l.at.time) l.at.back l.at.is in
          let y : IsArrival t.call l.at.bytes l.at.time = whole_call (after b t.fore) (noted q (events kd b q t.fore)) t.call l.at.bytes l.at.time t.tells_call in
          let z : Says (after b mid) now_paper (pair_of k (noted q l.at.front) l.at.bytes l.at.time) a =
          returned_now (after b mid) now_paper (pair_of k (noted q l.at.front) l.at.bytes l.at.time) l.behind v c a now_safe l.first w d h in (
            arrival_of_law b q mid (length p.incoming) l.at t y,
            z.index,
            z.number ∙ ap (λ (es : List Event). reduced (noted q es).run.accepted) (sym t.tells_front),
            z.used,
            z.seconds ∙ ap (λ (u : Time). u.seconds) (sym y.time),
            z.microseconds ∙ ap (λ (u : Time). u.microseconds) (sym y.time),
            z.bytes,
          )

  -- the same on any paper that is as it was when k was handed in
  returns_on : (b : Box) (p q : Paper) (k : ℕ) (mid : List Call) (v : ℕ) (c a : List ℕ) → q ≡ step p (put k) → Safe kd b q → Calm (events kd b q mid)
      → dequeues (events kd b q mid) ≡ length p.outgoing + length p.incoming
      → (request_of v).call ≡ Dqbuf → word_at c 4 ≡ type_of kd → reply (after b mid) (request v c) ≡ answered 0 a → ComesBack b q k mid a (length p.incoming)
  returns_on b p q k mid v c a e =
      subst (λ (q : Paper). Safe kd b q → Calm (events kd b q mid) → dequeues (events kd b q mid) ≡ length p.outgoing + length p.incoming
      → (request_of v).call ≡ Dqbuf → word_at c 4 ≡ type_of kd → reply (after b mid) (request v c) ≡ answered 0 a → ComesBack b q k mid a (length p.incoming))
      (sym e) (returns_at b p k mid v c a)

-- ---- from an opening

module _ (s : List ℕ) (m : Kind → List ℕ) (kd : Kind) (before : List Call) (w : ℕ) (a : List ℕ) where
  -- the paper when the buffer has been handed in and accepted
  paper_in_law : (request_of w).call ≡ Qbuf → word_at a 4 ≡ type_of kd → (b : List ℕ) → reply (box_after s m before) (request w a) ≡ answered 0 b
      → paper_after s m kd (before ++ request w a ∷ []) ≡ step (paper_after s m kd before) (put (word_at a 0))
  paper_in_law e n b h =
      noted_tells seen next (told kd) before (request w a ∷ []) (opened s m) (blank (opening_size s kd))
      ∙ ap (step (paper_after s m kd before)) (told_accepted kd (box_after s m before) (paper_after s m kd before) w a b Qbuf e n h)

  -- and after more calls
  split : (mid : List Call) → before ++ request w a ∷ mid ≡ (before ++ request w a ∷ []) ++ mid
  split mid = sym (append_assoc before (request w a ∷ []) mid)

  box_mid : (mid : List Call) → box_after s m (before ++ request w a ∷ mid) ≡ after (box_after s m (before ++ request w a ∷ [])) mid
  box_mid mid = ap (after (opened s m)) (split mid) ∙ leaves_append seen next (told kd) (before ++ request w a ∷ []) mid (opened s m)

  paper_mid : (mid : List Call) → paper_after s m kd (before ++ request w a ∷ mid)
      ≡ noted (paper_after s m kd (before ++ request w a ∷ [])) (events kd (box_after s m (before ++ request w a ∷ [])) (paper_after s m kd (before ++ request w a ∷ [])) mid)
  paper_mid mid = ap (paper_after s m kd) (split mid) ∙ noted_tells seen next (told kd) (before ++ request w a ∷ []) mid (opened s m) (blank (opening_size s kd))

-- the verdict on a film is that of its stream
verdict_of_law : (k : Kind) (d : State) → eqb d.ready 0 ≡ false → device_verdict d (type_of k) ≡ verdict_of (stream_of k d)
unfolding device_verdict
verdict_of_law Kind.pictures d e = rw e
verdict_of_law Kind.captions d e = rw e

-- an open device
module _ (s : List ℕ) (m : Kind → List ℕ) (kd : Kind) (start : Safe kd (opened s m) (blank (opening_size s kd))) where
  safe_at : (cs : List Call) → Safe kd (box_after s m cs) (paper_after s m kd cs)
  safe_at cs = safe_after kd cs (opened s m) (blank (opening_size s kd)) start

  ordered_at : (cs : List Call) → Ordered (paper_after s m kd cs) (handed_after s m kd cs)
  ordered_at cs =
      ordered_after (events kd (opened s m) (blank (opening_size s kd)) cs) (blank (opening_size s kd)) [] (sound_blank (opening_size s kd))
      (legal_tells seen next (told kd) (Safe kd) (safe_next kd) (fits_next kd) cs (opened s m) (blank (opening_size s kd)) start) (ordered_blank (opening_size s kd))

  open_verdict : (cs : List Call) (v : Verdict) → (device_verdict (box_after s m cs).state (type_of kd) ≡ v) ⇔ Means (paper_after s m kd cs) (handed_after s m kd cs) v
  open_verdict cs v =
      subst (λ (z : Verdict). (z ≡ v) ⇔ Means (paper_after s m kd cs) (handed_after s m kd cs) v) (sym (verdict_of_law kd (box_after s m cs).state (safe_at cs).ready))
      (exactly (view kd (box_after s m cs)) (paper_after s m kd cs) (handed_after s m kd cs) (safe_at cs).kept (ordered_at cs) v)

-- and a QBUF on it
module _ (s : List ℕ) (m : Kind → List ℕ) (kd : Kind) (start : Safe kd (opened s m) (blank (opening_size s kd))) (before : List Call) (w : ℕ) (a : List ℕ) (mid : List Call) where
  stored_in_it : StoredInIt s m kd before w a mid
  stored_in_it f x y other (e, nm, (b, h), c) n t =
      let into : paper_after s m kd (before ++ request w a ∷ []) ≡ step (paper_after s m kd before) (put (word_at a 0)) = paper_in_law s m kd before w a e nm b h in
      rw (box_mid s m kd before w a mid, paper_mid s m kd before w a mid, into)
      (stores_at kd (box_after s m (before ++ request w a ∷ [])) (paper_after s m kd before) (word_at a 0) mid f x y other
      (subst (Safe kd (box_after s m (before ++ request w a ∷ []))) into (safe_at s m kd start (before ++ request w a ∷ [])))
      (rw into at c) (rw into at n) (rw (box_mid s m kd before w a mid, paper_mid s m kd before w a mid, into) at t))

  returned_with_it : ReturnedWithIt s m kd before w a mid
  returned_with_it v g b (e, nm, (b2, h), c) n d dn t =
      let box : Box = box_after s m (before ++ request w a ∷ []) in
      let q : Paper = paper_after s m kd (before ++ request w a ∷ []) in
      let (r, x1, x2, x3, x4, x5, x6) = returns_on kd box (paper_after s m kd before) q (word_at a 0) mid v g b (paper_in_law s m kd before w a e nm b2 h) (safe_at s m kd start (before ++ request w a ∷ [])) c n d dn
      (rw (box_mid s m kd before w a mid) at t) in
      (r, x1, x2 ∙ ap (λ (p : Paper). reduced p.run.accepted) (sym (paper_mid s m kd before w a r.front)), x3, x4, x5, rw (box_mid s m kd before w a mid) x6)

-- a closed device
module _ (s : List ℕ) (m : Kind → List ℕ) (kd : Kind) (start : (opened s m).state ≡ closed_state) where
  pub closed_at : (cs : List Call) → ((box_after s m cs).state ≡ closed_state) × (paper_after s m kd cs ≡ blank (opening_size s kd))
  closed_at cs = let (x, y) = shut_after kd cs (opened s m) (blank (opening_size s kd)) (closed_shut (opened s m) start) in (x ∙ start, y)

  shut_at : (cs : List Call) → Shut (box_after s m cs)
  shut_at cs = closed_shut (box_after s m cs) (closed_at cs).0

  never_accepted : (cs : List Call) (w : ℕ) (a b : List ℕ) {A : Type 0} → reply (box_after s m cs) (request w a) ≡ answered 0 b → A
  never_accepted cs w a b h = absurd (true≢false (cc (sym (shut_request (box_after s m cs) w a (shut_at cs)) ∙ h)))

  -- nothing was handed over: BLANK, and no other verdict
  only_blank : (n : ℕ) (l : List ℕ) (v : Verdict) → (Blank ≡ v) ⇔ Means (blank n) l v
  only_blank n l Running = (λ h. absurd (true≢false (cc h)), λ h. absurd (false≢true h))
  only_blank n l Blank = (λ h. (refl, refl), λ h. refl)
  only_blank n l Gaps = (λ h. absurd (true≢false (cc h)), λ h. absurd (omega (arith, h.1)))
  only_blank n l Complete = (λ h. absurd (true≢false (cc h)), λ h. absurd (omega (arith, h.2)))

  shut_verdict : (cs : List Call) (v : Verdict) → (device_verdict (box_after s m cs).state (type_of kd) ≡ v) ⇔ Means (paper_after s m kd cs) (handed_after s m kd cs) v
  unfolding device_verdict
  shut_verdict cs v =
      rw (shut_at cs) (subst (λ (p : Paper). (Blank ≡ v) ⇔ Means p (handed_after s m kd cs) v) (sym (closed_at cs).1) (only_blank (opening_size s kd) (handed_after s m kd cs) v))

-- each verdict, of any device
pub verdict_means : (s : List ℕ) (m : Kind → List ℕ) (kd : Kind) (cs : List Call) (v : Verdict) → (device_verdict (box_after s m cs).state (type_of kd) ≡ v) ⇔ Means (paper_after s m kd cs) (handed_after s m kd cs) v
verdict_means s m kd cs v = go (begins s m)
  where
    go : Begun s m → (device_verdict (box_after s m cs).state (type_of kd) ≡ v) ⇔ Means (paper_after s m kd cs) (handed_after s m kd cs) v
    go (Begun.safe x) = open_verdict s m kd (x kd) cs v
    go (Begun.shut x) = shut_verdict s m kd x cs v

-- for every QBUF both halves hold
pub demand_3 : (s : List ℕ) (m : Kind → List ℕ) (kd : Kind) (before : List Call) (w : ℕ) (a : List ℕ) (mid : List Call) → StoredInIt s m kd before w a mid × ReturnedWithIt s m kd before w a mid
demand_3 s m kd before w a mid = go (begins s m)
  where
    go : Begun s m → StoredInIt s m kd before w a mid × ReturnedWithIt s m kd before w a mid
    go (Begun.safe x) = (stored_in_it s m kd (x kd) before w a mid, returned_with_it s m kd (x kd) before w a mid)
    go (Begun.shut x) = (
      λ f y z other (q, nm, (b, h), c) n t. never_accepted s m kd x before w a b h,
      λ v g b (q, nm, (b2, h), c) n d dn t. never_accepted s m kd x before w a b2 h,
    )
