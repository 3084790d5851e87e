-- Demand 1 of our device: the tests of its state are those of the paper.
use mathlib.Core.Path.{◌≡◌, refl, sym, ap, ap₂, ◌∙◌, fun_ext}
use mathlib.Core.Logic.{◌≢◌}
use mathlib.Core.Bool.{Bool, true, false, cond, not, ◌&&◌, ◌||◌, true≢false}
use Prim.Native.Nat.{ℕ, ◌≤◌, min}
use native.Mathlib.Omega.{arith}
use borrow.Author.Tests.{eqb-true}
use lib.Dec.{eqb}
use mathlib.Core.List.{List, [], ◌∷◌, map}
use lib.ListN.{length, length-map}
use Rattle.wire_read.specs.Words.{word_at}
use Rattle.ioctl_table.specs.Refusal.{errno_of}
use Rattle.ioctl_table.specs.Table.{request_of, argument_size}
use Rattle.ioctl_table.specs.declared.refusals.Refusal.TheVariants.{WrongType, WrongMemory, StillMapped, Streaming}
use Rattle.ioctl_table.specs.declared.table.Call.{Call as Asked}
use Rattle.ioctl_table.specs.declared.table.Call.TheVariants.{Unknown, Querycap, EnumFmt, GFmt, SFmt, TryFmt, Reqbufs, Querybuf, Qbuf, Dqbuf, Streamon, Streamoff, GCtrl, SCtrl, Queryctrl, Cropcap, GCrop, SCrop, GSlicedVbiCap}
use Rattle.sheet_copy.specs.Copy.{kept_of}
use Rattle.sheet_copy.proofs.Copies.{kept_format_count, kept_control_count, kept_id, kept_control}
use Rattle.sheet_rules.specs.Rules.{good_sheet}
use Rattle.sheet_rules.proofs.Good.{fits_copy}
use Rattle.control_place_rules.specs.Find.{present, place_of, place_above, queried_place}
use Rattle.stream_words.specs.declared.Time.{Time}
use Rattle.wire_read.specs.Lists.{any}
use Rattle.stream_words.specs.Moves.{is_incoming, is_outgoing, of_buffer}
use Rattle.stream_maps.specs.declared.Change.{Change}
use Rattle.stream_maps.specs.Maps.{any_mapped}
use Rattle.stream_run.specs.Stream.{streaming, stopped}
use Rattle.stream_run.specs.Switches.{Step, grant_of, refuses, answers, request_buffers_of as bufferRequest}
use Rattle.stream_run.specs.Replies.{Reply as replies}
use Rattle.stream_run.proofs.Grants.{grant_few}
use Rattle.stream_arrival.specs.declared.Arrival.{Arrival}
use Rattle.buffer_replies.specs.Replies.{buffers_reply}
use Rattle.buffer_replies.proofs.Lengths.{buffers_length, buffers_count}
use Rattle.device_state.specs.State.{State, closed_state}
use Rattle.device_state.specs.Answers.{Answer, refused}
use Rattle.buffer_calls.specs.Buffers.{stream_answer, stepped, request_reply, reqbufs_of}
use Rattle.request_topics.specs.Request.{by_video, by_captions, stream_call, call_answer}
use Rattle.stream_words.specs.Stream.{Stream}
use Rattle.buffer_calls.specs.Buffers.{StreamAnswer}
use Rattle.device_film.specs.Film.{taken_of, taken_memory, frame_size}
use Rattle.stream_history.specs.Paper.{Pair, Paper, index_of}
use Rattle.stream_history.proofs.Tied.{entry}
use Rattle.claims.specs.Calls.{Kind, type_of, Call, arrival_time}
use Rattle.claims.specs.Calls.Call.{request, arrival, change}
use Rattle.claims.specs.Machine.{NoTrace}
use Rattle.claims.specs.Words.{papers_in}
use Rattle.claims.specs.Device.{lent_to, kept_on, stream_of}
use Rattle.claims.specs.Desk.{desk_in}
use Rattle.claims.specs.Table.{first_number, kind_of, paper_at, queued_on, tests, request_tests, arrival_tests, change_tests, refused_by, arrived_on, arrival_number}
use Rattle.claims.specs.Demands.{Demand1}
use Rattle.claims.proofs.Boxes.{Box, asks, paper_after, box_after, ours}
use Rattle.claims.proofs.Checks.{size_of, checks, request_checks, arrival_checks, change_checks, arrived_by}
use Rattle.claims.proofs.Steps.{by_kind, Safe, whole_reply, one_not_six}
use Rattle.claims.proofs.Arrivals.{taken_is, written_refused, opening_number}
use Rattle.claims.proofs.Mapping.{mapped_number, mapped_kept}
use Rattle.claims.proofs.Honest.{honest_request}
use Rattle.claims.proofs.Formats.{Reached, reached}
use Rattle.claims.proofs.Table.{request_table}
use Rattle.claims.proofs.Services.{same_services}
use Rattle.claims.proofs.Shut.{opened_by}
use Rattle.claims.proofs.Lists.{Since, since, same_paper, no_trace}

-- ---- the sheet's copy

module _ (s : List ℕ) (fits : length s ≤ 2688) where
  pub kept_present : present (kept_of s) ≡ present s
  unfolding present
  kept_present = rw (kept_control_count s fits)

  pub kept_place : (id : ℕ) → place_of (kept_of s) id ≡ place_of s id
  unfolding place_of
  kept_place id = simp (kept_present, kept_id s fits)

  kept_above : (id : ℕ) → place_above (kept_of s) id ≡ place_above s id
  unfolding place_above
  kept_above id = simp (kept_present, kept_id s fits)

  pub kept_queried : (id : ℕ) → queried_place (kept_of s) id ≡ queried_place s id
  unfolding queried_place
  kept_queried id = simp (kept_place, kept_above)

-- ---- the stream's queues

any_entry : (k : ℕ) (o : List Pair) → any (of_buffer k) (map entry o) ≡ any (λ x. eqb (index_of x) k) o
unfolding any
any_entry k [] = refl
any_entry k (x ∷ o) = ap (λ (b : Bool). cond (eqb x.index k) true b) (any_entry k o)

module _ (k : Kind) (b : Box) (p : Paper) (safe : Safe k b p) where
  on_queues_law : (i : ℕ) → (is_incoming (stream_of k b.state).queues i || is_outgoing (stream_of k b.state).queues i) ≡ queued_on p i
  unfolding is_incoming is_outgoing
  on_queues_law i = rw (safe.kept.tied.holds.ins, safe.kept.tied.holds.outs, any_entry i p.outgoing)

  some_outgoing : length (stream_of k b.state).queues.outgoing ≡ length p.outgoing
  some_outgoing = rw safe.kept.tied.holds.outs (length-map p.outgoing entry)

-- ---- the tests

module _ (s : List ℕ) (fits : length s ≤ 2688) (d : State) (P : Kind → Paper) (a : List ℕ)
    (granted : (k : Kind) → (stream_of k d).queues.granted ≡ (P k).granted)
    (running : (k : Kind) → streaming (stream_of k d) ≡ (P k).running)
    (queued : (k : Kind) (i : ℕ) → (is_incoming (stream_of k d).queues i || is_outgoing (stream_of k d).queues i) ≡ queued_on (P k) i)
    (outgoing : (k : Kind) → length (stream_of k d).queues.outgoing ≡ length (P k).outgoing)
    (maps : (k : Kind) → (stream_of k d).maps ≡ (P k).maps) where
  same_tests : (call : Asked) → checks call (kept_of s) d a ≡ tests call s P a
  same_tests Unknown = refl
  same_tests Querycap = refl
  same_tests EnumFmt = rw (kept_format_count s fits)
  same_tests GFmt = refl
  same_tests SFmt = rw (granted (kind_of (word_at a 0)))
  same_tests TryFmt = refl
  same_tests Reqbufs = rw (maps (kind_of (word_at a 4)), running (kind_of (word_at a 4)))
  same_tests Querybuf = rw (granted (kind_of (word_at a 4)))
  same_tests Qbuf = rw (queued (kind_of (word_at a 4)) (word_at a 0), granted (kind_of (word_at a 4)))
  same_tests Dqbuf = rw (outgoing (kind_of (word_at a 4)), granted (kind_of (word_at a 4)), running (kind_of (word_at a 4)))
  same_tests Streamon = rw (granted (kind_of (word_at a 0)))
  same_tests Streamoff = refl
  same_tests GCtrl = simp (kept_present s fits, kept_place s fits, kept_control s fits)
  same_tests SCtrl = simp (kept_present s fits, kept_place s fits, kept_control s fits)
  same_tests Queryctrl = simp (kept_present s fits, kept_queried s fits)
  same_tests Cropcap = refl
  same_tests GCrop = refl
  same_tests SCrop = refl
  same_tests GSlicedVbiCap = refl

-- ---- a call on a stream that is accepted

-- it is the named stream's, whose type is the one named
pub stream_accepted : (f : Stream → ℕ → ℕ → List ℕ → StreamAnswer) (at : ℕ) (d : State) (a : List ℕ) → (stream_call f at d a).number ≡ 0
    → (type_of (kind_of (word_at a at)) ≡ word_at a at)
    × (stream_call f at d a ≡ by_kind (kind_of (word_at a at)) d (f (stream_of (kind_of (word_at a at)) d) (type_of (kind_of (word_at a at))) (size_of (kind_of (word_at a at)) d) a))
stream_accepted f at d a h = go (eqb (word_at a at) 1) refl (eqb (word_at a at) 6) refl h
  where
    go : (u : Bool) → eqb (word_at a at) 1 ≡ u → (v : Bool) → eqb (word_at a at) 6 ≡ v
        → (cond u (by_video d (f d.video 1 d.size a)) (cond v (by_captions d (f d.captions 6 (size_of Kind.captions d) a)) (refused WrongType d a))).number ≡ 0
        → (type_of (cond v Kind.captions Kind.pictures) ≡ word_at a at)
        × (cond u (by_video d (f d.video 1 d.size a)) (cond v (by_captions d (f d.captions 6 (size_of Kind.captions d) a)) (refused WrongType d a))
        ≡ by_kind (cond v Kind.captions Kind.pictures) d (f (stream_of (cond v Kind.captions Kind.pictures) d) (type_of (cond v Kind.captions Kind.pictures)) (size_of (cond v Kind.captions Kind.pictures) d) a))
    go true e true g h = absurd (true≢false (sym g ∙ one_not_six (word_at a at) e))
    go true e false g h = (sym (eqb-true (word_at a at) 1 e), refl)
    go false e true g h = (sym (eqb-true (word_at a at) 6 g), refl)
    go false e false g h = absurd (omega (arith, h))

-- what it leaves in its argument
pub stream_argument : (f : Stream → ℕ → ℕ → List ℕ → StreamAnswer) (at : ℕ) (d : State) (a : List ℕ) → (stream_call f at d a).number ≡ 0
    → ((f (stream_of (kind_of (word_at a at)) d) (type_of (kind_of (word_at a at))) (size_of (kind_of (word_at a at)) d) a).number ≡ 0)
    × ((stream_call f at d a).argument ≡ (f (stream_of (kind_of (word_at a at)) d) (type_of (kind_of (word_at a at))) (size_of (kind_of (word_at a at)) d) a).argument)
stream_argument f at d a h =
    let k : Kind = kind_of (word_at a at) in
    let is = (stream_accepted f at d a h).1 in
    let r : StreamAnswer = f (stream_of k d) (type_of k) (size_of k d) a in
    (by_number k r ∙ ap (λ (z : Answer). z.number) (sym is) ∙ h, ap (λ (z : Answer). z.argument) is ∙ by_argument k r)
  where
    by_number : (k : Kind) (r : StreamAnswer) → r.number ≡ (by_kind k d r).number
    by_number Kind.pictures r = refl
    by_number Kind.captions r = refl

    by_argument : (k : Kind) (r : StreamAnswer) → (by_kind k d r).argument ≡ r.argument
    by_argument Kind.pictures r = refl
    by_argument Kind.captions r = refl

-- ---- what a buffer request answers

pub reqbufs_answers : (x : Stream) (kind size : ℕ) (a : List ℕ) → length a ≡ 20 → (reqbufs_of x kind size a).number ≡ 0
    → (reqbufs_of x kind size a).argument ≡ buffers_reply kind (grant_of x.length (word_at a 0) size)
unfolding reqbufs_of bufferRequest
reqbufs_answers x kind size a l = go (not (eqb (word_at a 8) 1)) (any_mapped x.maps) (streaming x && not (eqb (word_at a 0) 0))
  where
    g : ℕ
    g = grant_of x.length (word_at a 0) size

    t : Bool → Bool → Step
    t u z = cond u (refuses StillMapped x) (cond z (refuses Streaming x) (answers (replies.Granted (grant_of x.length (word_at a 0) size)) (stopped x (grant_of x.length (word_at a 0) size))))

    r : Bool → Bool → Bool → StreamAnswer
    r y u z = cond y (stream_answer (errno_of WrongMemory) x a) (stepped (t u z) (request_reply (t u z).reply kind a))

    go : (y u z : Bool) → (r y u z).number ≡ 0 → (r y u z).argument ≡ buffers_reply kind (grant_of x.length (word_at a 0) size)
    go true u z h = absurd (omega (arith, h))
    go false true z h = absurd (omega (arith, h))
    go false false true h = absurd (omega (arith, h))
    go false false false h = whole_reply a (buffers_reply kind g) 20 l (buffers_length kind g)

-- ---- what an arrival is answered

answers_same : (k : Kind) (b : Box) (p : Paper) → Safe k b p → (f : List ℕ) (t : Time) → arrived_by k b.state f t ≡ arrived_on k p b.state.services f t
answers_same k b p safe f t = rw (safe.kept.tied.number, safe.kept.tied.size, safe.kept.tied.running, safe.kept.tied.run, safe.kept.tied.holds.ins)

-- ---- from an opening

-- the copy of a good sheet holds all of it
pub short : (s : List ℕ) → good_sheet s ≡ true → length s ≤ 2688
short s good = omega (arith, fits_copy s good)

-- the whole table
table_told : (s : List ℕ) (b : Box) (P : Kind → Paper) (w : ℕ) (a : List ℕ) (n : ℕ) → good_sheet s ≡ true → n ≡ 0 → ((k : Kind) → Safe k b (P k)) → b.sheet ≡ kept_of s
    → request_checks b.sheet b.state w a ≡ request_tests n s P w a
table_told s b P w a n good z safe sheet =
    rw (sheet, (safe Kind.pictures).ready, z)
    (cc (same_tests s (short s good) b.state P a (λ k. (safe k).kept.tied.holds.granted) (λ k. (safe k).kept.tied.running) (λ k. on_queues_law k b (P k) (safe k)) (λ k. some_outgoing k b (P k) (safe k)) (λ k. (safe k).kept.tied.maps) (request_of w).call))

-- a closed device
pub closed_ready : (d : State) → d ≡ closed_state → d.ready ≡ 0
unfolding closed_state
closed_ready d e = ap (λ (x : State). x.ready) e

-- accepts nothing
pub never : (d : State) {A : Type 0} → d ≡ closed_state → eqb d.ready 0 ≡ false → A
never d e r = absurd (true≢false (sym (ap (λ (n : ℕ). eqb n 0) (closed_ready d e)) ∙ r))

-- what is lent is as long as what the call names
pub lent_long : (m : Kind → List ℕ) (t : ℕ) (other : List ℕ) → length (lent_to m t other) ≡ length other
lent_long m t other = go (eqb (length other) (length (m (kind_of t)))) refl
  where
    go : (x : Bool) → eqb (length other) (length (m (kind_of t))) ≡ x → length (cond x (m (kind_of t)) other) ≡ length other
    go true e = sym (eqb-true (length other) (length (m (kind_of t))) e)
    go false e = refl

-- the stream of a type is the one that it names
pub kind_named : (k : Kind) (t : ℕ) → eqb t (type_of k) ≡ true → kind_of t ≡ k
kind_named k t e = ap kind_of (eqb-true t (type_of k) e) ∙ back k
  where
    back : (j : Kind) → kind_of (type_of j) ≡ j
    back Kind.pictures = refl
    back Kind.captions = refl

-- what is given back as it was leaves every memory
unwritten : (m : Kind → List ℕ) (t : ℕ) (other : List ℕ) → kept_on m t other (lent_to m t other) ≡ m
unwritten m t other = fun_ext λ k. go k (eqb t (type_of k)) refl (eqb (length other) (length (m k))) refl
  where
    go : (k : Kind) (x : Bool) → eqb t (type_of k) ≡ x → (y : Bool) → eqb (length other) (length (m k)) ≡ y → cond x (cond y (lent_to m t other) (m k)) (m k) ≡ m k
    go k false e y f = refl
    go k true e false f = refl
    go k true e true f = ap (λ (j : Kind). cond (eqb (length other) (length (m j))) (m j) other) (kind_named k t e) ∙ ap (λ (y : Bool). cond y (m k) other) f

module _ (s : List ℕ) (m : Kind → List ℕ) where
  -- the papers of both
  pub same_papers : (cs : List Call) → papers_in s (ours s m) cs ≡ (λ k. paper_after s m k cs)
  same_papers cs = fun_ext λ k. same_paper s m k cs

  requests_told : (cs : List Call) (w : ℕ) (a : List ℕ) → ((ours s m).request cs w a).number ≡ first_number (request_tests (ours s m).opening s (papers_in s (ours s m) cs) w a)
  requests_told cs w a = request_table (box_after s m cs).sheet (box_after s m cs).state a w ∙ go (since s m cs)
    where
      go : Since s m cs → first_number (request_checks (box_after s m cs).sheet (box_after s m cs).state w a)
          ≡ first_number (request_tests (ours s m).opening s (papers_in s (ours s m) cs) w a)
      go (Since.good g n t) =
          ap first_number (table_told s (box_after s m cs) (λ k. paper_after s m k cs) w a (opened_by s m).number g n (λ k. (t k).safe) (t Kind.pictures).sheet)
          ∙ ap (λ (P : Kind → Paper). first_number (request_tests (opened_by s m).number s P w a)) (sym (same_papers cs))
      go (Since.bad n d p) = rw (n, closed_ready (box_after s m cs).state d)

  arrivals_told : (cs : List Call) (t : ℕ) (f : List ℕ) (x y : ℕ) (other : List ℕ)
      → (ours s m).arrival cs t f x y other
      ≡ refused_by (arrival_tests (ours s m).opening (λ k. length (m k)) (papers_in s (ours s m) cs) t (length other))
      (arrived_on (kind_of t) (papers_in s (ours s m) cs (kind_of t)) (desk_in s (ours s m) cs).services f (arrival_time x y))
  arrivals_told cs t f x y other =
      ap (λ (n : ℕ). (taken_of (box_after s m cs).state t n f (arrival_time x y)).arrival) (lent_long (box_after s m cs).memory t other)
      ∙ (taken_is (box_after s m cs).state t (length other) f (arrival_time x y)).0
      ∙ go (since s m cs)
      ∙ ap₂ (λ (P : Kind → Paper) (l : List ℕ). refused_by (arrival_tests (opened_by s m).number (λ k. length (m k)) P t (length other)) (arrived_on (kind_of t) (P (kind_of t)) l f (arrival_time x y)))
      (sym (same_papers cs)) (sym (same_services s m cs))
    where
      k : Kind
      k = kind_of t

      go : Since s m cs → refused_by (arrival_checks (box_after s m cs).state t (length other)) (arrived_by (kind_of t) (box_after s m cs).state f (arrival_time x y))
          ≡ refused_by (arrival_tests (opened_by s m).number (λ k. length (m k)) (λ k. paper_after s m k cs) t (length other)) (arrived_on (kind_of t) (paper_after s m (kind_of t) cs) (box_after s m cs).state.services f (arrival_time x y))
      go (Since.good g n u) =
          let long : (stream_of (kind_of t) (box_after s m cs).state).length ≡ length (m (kind_of t)) = (u (kind_of t)).safe.kept.tied.noted ∙ (u (kind_of t)).long in
          rw (answers_same (kind_of t) (box_after s m cs) (paper_after s m (kind_of t) cs) (u (kind_of t)).safe f (arrival_time x y), (u Kind.pictures).safe.ready, n, long, (u (kind_of t)).safe.kept.tied.running, (u (kind_of t)).safe.kept.tied.run)
      go (Since.bad n d p) = rw (n, closed_ready (box_after s m cs).state d)

  changes_told : (cs : List Call) (c : Change) (t o l : ℕ) → (ours s m).change cs c t o l ≡ first_number (change_tests (ours s m).opening (papers_in s (ours s m) cs) c t o l)
  changes_told cs c t o l =
      mapped_number c (box_after s m cs).state t o l ∙ go (since s m cs)
      ∙ ap (λ (P : Kind → Paper). first_number (change_tests (opened_by s m).number P c t o l)) (sym (same_papers cs))
    where
      -- never more than 32 are granted
      few : (n : ℕ) → n ≤ 32 → min n 32 ≡ n
      few n h = omega arith

      go : Since s m cs → first_number (change_checks c (box_after s m cs).state t o l) ≡ first_number (change_tests (opened_by s m).number (λ k. paper_after s m k cs) c t o l)
      go (Since.good g n u) =
          let safe = (u (kind_of t)).safe in
          rw ((u Kind.pictures).safe.ready, n, safe.kept.tied.holds.granted, few (paper_after s m (kind_of t) cs).granted safe.kept.sound.few, safe.kept.tied.size, safe.kept.tied.maps)
      go (Since.bad n d p) = rw (n, closed_ready (box_after s m cs).state d)

  -- a refusal leaves the box as it was
  changes_kept : (cs : List Call) (c : Change) (t o l : ℕ) → (ours s m).change cs c t o l ≢ 0 → NoTrace (ours s m) cs (change c t o l)
  changes_kept cs c t o l h =
      let b : Box = box_after s m cs in
      no_trace s m cs (change c t o l) (ap (λ (d : State). record { sheet = b.sheet; state = d; memory = b.memory }) (mapped_kept c b.state t o l h))

  requests_kept : (cs : List Call) (w : ℕ) (a : List ℕ) → ((ours s m).request cs w a).number ≢ 0 → (((ours s m).request cs w a).argument ≡ a) × NoTrace (ours s m) cs (request w a)
  requests_kept cs w a h =
      let b : Box = box_after s m cs in
      let (x, y) = (honest_request b.state a b.sheet w).unchanged h in
      (y, no_trace s m cs (request w a) (ap (λ (d : State). record { sheet = b.sheet; state = d; memory = b.memory }) x))

  arrivals_kept : (cs : List Call) (t : ℕ) (f : List ℕ) (x y : ℕ) (other : List ℕ) → arrival_number ((ours s m).arrival cs t f x y other) ≢ 0 → NoTrace (ours s m) cs (arrival t f x y other)
  unfolding taken_memory
  arrivals_kept cs t f x y other h =
      let b : Box = box_after s m cs in
      let l : List ℕ = lent_to b.memory t other in
      let u : Arrival = (taken_of b.state t (length l) f (arrival_time x y)).arrival in
      no_trace s m cs (arrival t f x y other)
      (ap₂ (λ (d : State) (z : Kind → List ℕ). record { sheet = b.sheet; state = d; memory = z }) ((taken_is b.state t (length l) f (arrival_time x y)).1 h)
      (ap (kept_on b.memory t other) (written_refused u (frame_size b.state t) l f h) ∙ unwritten b.memory t other))

  grants_told : (cs : List Call) (w : ℕ) (a : List ℕ) → (request_of w).call ≡ Reqbufs → ((ours s m).request cs w a).number ≡ 0
      → word_at ((ours s m).request cs w a).argument 0 ≡ grant_of (length (m (kind_of (word_at a 4)))) (word_at a 0) (paper_at (papers_in s (ours s m) cs) a 4).size
  grants_told cs w a e h =
      let b : Box = box_after s m cs in
      let k : Kind = kind_of (word_at a 4) in
      let q : Reached b.sheet b.state w a = reached b.sheet b.state w a h in
      let is : asks b w a ≡ stream_call reqbufs_of 4 b.state a = q.is ∙ ap (λ (call : Asked). call_answer call b.sheet b.state a) e in
      let (n, v) = stream_argument reqbufs_of 4 b.state a (ap (λ (r : Answer). r.number) (sym is) ∙ h) in
      let g : ℕ = grant_of (stream_of k b.state).length (word_at a 0) (size_of k b.state) in
      ap (λ (r : Answer). word_at r.argument 0) is
      ∙ ap (λ (l : List ℕ). word_at l 0) (v ∙ reqbufs_answers (stream_of k b.state) (type_of k) (size_of k b.state) a (q.long ∙ ap argument_size e) n)
      ∙ buffers_count (type_of k) g (omega (arith, grant_few (stream_of k b.state).length (word_at a 0) (size_of k b.state)))
      ∙ go (since s m cs) q.ready
      ∙ ap (λ (P : Kind → Paper). grant_of (length (m k)) (word_at a 0) (P k).size) (sym (same_papers cs))
    where
      go : Since s m cs → eqb (box_after s m cs).state.ready 0 ≡ false
          → grant_of (stream_of (kind_of (word_at a 4)) (box_after s m cs).state).length (word_at a 0) (size_of (kind_of (word_at a 4)) (box_after s m cs).state)
          ≡ grant_of (length (m (kind_of (word_at a 4)))) (word_at a 0) (paper_after s m (kind_of (word_at a 4)) cs).size
      go (Since.good g n t) r =
          let u = t (kind_of (word_at a 4)) in
          ap₂ (λ (z y : ℕ). grant_of z (word_at a 0) y) (u.safe.kept.tied.noted ∙ u.long) u.safe.kept.tied.size
      go (Since.bad n d p) r = never (box_after s m cs).state d r

  pub told_1 : Demand1 s m (ours s m)
  told_1 = record {
    opening = opening_number s (length (m Kind.pictures)) (length (m Kind.captions));
    requests = requests_told;
    arrivals = arrivals_told;
    changes = changes_told;
    kept = requests_kept;
    passed = arrivals_kept;
    unturned = changes_kept;
    long = λ cs w a. (honest_request (box_after s m cs).state a (box_after s m cs).sheet w).long;
    grants = grants_told;
  }
