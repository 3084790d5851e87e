-- An open device stays as the paper says, call by call.
use mathlib.Core.Path.{◌≡◌, refl, sym, ap, ◌∙◌, subst}
use mathlib.Core.Bool.{Bool, true, false, cond, ◌&&◌}
use Prim.Native.Nat.{ℕ, ◌%◌, ◌^◌}
use native.Mathlib.Omega.{arith}
use borrow.Author.Tests.{eqb-true}
use lib.Dec.{leb, eqb}
use mathlib.Core.List.{List, [], ◌∷◌}
use lib.ListN.{length}
use lib.Seq.{length-sets}
use Rattle.wire_signed.proofs.Integers.{signed_fits}
use Rattle.ioctl_table.specs.Table.{request_of}
use Rattle.stream_words.specs.declared.Time.{Time}
use Rattle.stream_slots.specs.Slot.{slot_offset, buffer_at}
use Rattle.stream_maps.specs.declared.Change.{Change}
use Rattle.stream_run.specs.Numbers.{reply_number}
use Rattle.stream_run.specs.Switches.{Step}
use Rattle.device_maps.specs.Mapping.{Mapped, mapped, mapped_of}
use Rattle.stream_arrival.specs.declared.Arrival.{Arrival}
use Rattle.stream_arrival.specs.declared.Arrival.TheVariants as arrivals
use Rattle.stream_words.specs.Stream.{Stream}
use Rattle.stream_arrival.specs.Arrivals.{Arrived, arrival_of, written_by}
use Rattle.ioctl_table.specs.declared.refusals.Refusal.TheVariants.{Closed, WrongType}
use Rattle.sheet_geometry.specs.Geometry.{line_alignment}
use Rattle.format_rules.specs.Size.{bytes_per_line, image_size}
use Rattle.service_rules.specs.Negotiation.{io_size}
use Rattle.device_state.specs.Setup.{Setup}
use Rattle.device_state.specs.State.{State, setup_of, with_video, with_captions}
use Rattle.device_film.specs.Film.{Taken, taken as takes, taken_of, taken_memory, frame_size}
use Rattle.stream_history.specs.Calls.{World}
use Rattle.stream_history.specs.Calls.Call.{arrival as comes, change as turns}
use Rattle.stream_history.specs.Calls.Answer.{arrived}
use Rattle.stream_history.specs.Paper.{Frame, Pair, Paper, Event, refused_reply, refused_arrival, frame_of, rest, filled, step}
use Rattle.stream_history.specs.Paper.Event.{put, whole, damaged, handed, begun, ended, sized, changed, idle}
use Rattle.stream_history.proofs.Lists.{All, all_snoc}
use Rattle.stream_history.proofs.Sound.{Fits, sound_step}
use Rattle.stream_history.proofs.Tied.{Tied, Answers, follows}
use Rattle.claims.specs.Calls.Call.{request, arrival, change}
use Rattle.claims.specs.Calls.Reply.{taken, numbered}
use Rattle.claims.proofs.Steps.{view, Timed, Sized, Safe, Foretold, Timely, Does, never_told, does_request}
use Rattle.claims.proofs.Checks.{size_of}
use Rattle.claims.proofs.Arrivals.{whole_short}
use Rattle.claims.proofs.Mapping.{turned, with_kind, mapped_chosen, open_mapped, other_mapped, by_number}
use Rattle.claims.specs.Table.{kind_of, whole_on}
use Rattle.claims.specs.Device.{lent_to, stream_of}
use Rattle.claims.specs.Calls.{Kind, type_of, Call, arrival_time}
use Rattle.claims.proofs.Boxes.{Box, asks, arrives, reply, seen, next}
use Rattle.claims.specs.Words.{arrival_told, told}

-- What a call does.
pub record Goes (k : Kind) (b : Box) (p : Paper) (c : Call) : Type 0 where
  pub event : Event
  pub tells : told k p c (seen b c) ≡ event
  pub fits : Fits p event
  pub foretold : Foretold k p event (reply b c)
  pub timely : Timely event
  pub ready : eqb (next b c).state.ready 0 ≡ false
  pub tied : Tied (view k (next b c)) (step p event)
  pub sized : Sized (next b c).sheet (next b c).state
  pub long : length ((next b c).memory k) ≡ length (b.memory k)

-- ---- a frame arrives

-- what is written leaves the length of the memory
pub long_written : (x : Arrival) (size : ℕ) (m f : List ℕ) → length (written_by x size m f) ≡ length m
long_written (arrivals.Refused why) size m f = refl
long_written arrivals.Ignored size m f = refl
long_written arrivals.Damaged size m f = refl
long_written arrivals.Dropped size m f = refl
long_written (arrivals.Stored k n) size m f = length-sets m (slot_offset k size) f

timed_of : (x y : ℕ) → Timed (arrival_time x y)
timed_of x y = (signed_fits (x % 2 ^ 32) (omega arith), signed_fits (y % 2 ^ 32) (omega arith))

-- a frame arrives at a stream
abbrev pub arrives_by : Kind → State → ℕ → List ℕ → Time → Arrived
arrives_by k d l f t = arrival_of (stream_of k d) l (length f) (whole_on k (size_of k d) d.services f t) (size_of k d) t

pub kind_stream : (k : Kind) (d : State) (s : Stream) → stream_of k (with_kind k d s) ≡ s
kind_stream Kind.pictures d s = refl
kind_stream Kind.captions d s = refl

kind_size : (k : Kind) (d : State) (s : Stream) → size_of k (with_kind k d s) ≡ size_of k d
kind_size Kind.pictures d s = refl
kind_size Kind.captions d s = refl

-- types and streams
pub same_type : (k : Kind) → eqb (type_of k) (type_of k) ≡ true
same_type Kind.pictures = refl
same_type Kind.captions = refl

pub kind_back : (k : Kind) → kind_of (type_of k) ≡ k
kind_back Kind.pictures = refl
kind_back Kind.captions = refl

pub size_back : (k : Kind) (d : State) → frame_size d (type_of k) ≡ size_of k d
size_back Kind.pictures d = refl
size_back Kind.captions d = refl

-- an open device hands a frame to the stream of its type
pub open_taken : (k : Kind) (d : State) → eqb d.ready 0 ≡ false → (l : ℕ) (f : List ℕ) (t : Time)
    → taken_of d (type_of k) l f t ≡ takes (arrives_by k d l f t).arrival (with_kind k d (arrives_by k d l f t).stream)
unfolding taken_of
open_taken Kind.pictures d e l f t = rw e
open_taken Kind.captions d e l f t = rw e

-- and leaves the state of another
pub other_taken : (k : Kind) (d : State) → eqb d.ready 0 ≡ false → (t : ℕ) → eqb t (type_of k) ≡ false → (l : ℕ) (f : List ℕ) (u : Time)
    → ((taken_of d t l f u).state.ready ≡ d.ready) × (stream_of k (taken_of d t l f u).state ≡ stream_of k d) × (size_of k (taken_of d t l f u).state ≡ size_of k d)
unfolding taken_of
other_taken Kind.pictures d e t n l f u = rw (e, n) (go (eqb t 6))
  where
    go : (x : Bool) → ((cond x (takes (arrives_by Kind.captions d l f u).arrival (with_captions d (arrives_by Kind.captions d l f u).stream)) (takes (arrivals.Refused WrongType) d)).state.ready ≡ d.ready)
        × ((cond x (takes (arrives_by Kind.captions d l f u).arrival (with_captions d (arrives_by Kind.captions d l f u).stream)) (takes (arrivals.Refused WrongType) d)).state.video ≡ d.video)
        × ((cond x (takes (arrives_by Kind.captions d l f u).arrival (with_captions d (arrives_by Kind.captions d l f u).stream)) (takes (arrivals.Refused WrongType) d)).state.size ≡ d.size)
    go true = (refl, refl, refl)
    go false = (refl, refl, refl)
other_taken Kind.captions d e t n l f u = rw (e, n) (go (eqb t 1))
  where
    go : (x : Bool) → ((cond x (takes (arrives_by Kind.pictures d l f u).arrival (with_video d (arrives_by Kind.pictures d l f u).stream)) (takes (arrivals.Refused WrongType) d)).state.ready ≡ d.ready)
        × ((cond x (takes (arrives_by Kind.pictures d l f u).arrival (with_video d (arrives_by Kind.pictures d l f u).stream)) (takes (arrivals.Refused WrongType) d)).state.captions ≡ d.captions)
        × (io_size (cond x (takes (arrives_by Kind.pictures d l f u).arrival (with_video d (arrives_by Kind.pictures d l f u).stream)) (takes (arrivals.Refused WrongType) d)).state.services ≡ io_size d.services)
    go true = (refl, refl, refl)
    go false = (refl, refl, refl)

-- no arrival changes what requests chose
pub taken_chosen : (d : State) (t l : ℕ) (f : List ℕ) (u : Time) → setup_of (taken_of d t l f u).state ≡ setup_of d
unfolding taken_of
taken_chosen d t l f u = go (eqb d.ready 0) (eqb t 1) (eqb t 6)
  where
    go : (x y z : Bool) → setup_of (cond x (takes (arrivals.Refused Closed) d) (cond y (takes (arrives_by Kind.pictures d l f u).arrival (with_video d (arrives_by Kind.pictures d l f u).stream))
        (cond z (takes (arrives_by Kind.captions d l f u).arrival (with_captions d (arrives_by Kind.captions d l f u).stream)) (takes (arrivals.Refused WrongType) d)))).state ≡ setup_of d
    go true y z = refl
    go false true z = refl
    go false false true = refl
    go false false false = refl

-- a stream after a frame of its type, the size of its frames and its memory: what was lent was its memory, or something else
abbrev arrived_view : Kind → Box → List ℕ → Time → List ℕ → Bool → World
arrived_view k b f t other v = record {
  stream = (arrives_by k b.state (length (cond v (b.memory k) other)) f t).stream;
  size = size_of k b.state;
  memory = cond v (written_by (arrives_by k b.state (length (cond v (b.memory k) other)) f t).arrival (size_of k b.state) (b.memory k) f) (b.memory k);
}

arrival_view : (k : Kind) (b : Box) → eqb b.state.ready 0 ≡ false → (f : List ℕ) (x y : ℕ) (other : List ℕ)
    → view k (next b (arrival (type_of k) f x y other)) ≡ arrived_view k b f (arrival_time x y) other (eqb (length other) (length (b.memory k)))
unfolding taken_memory
arrival_view Kind.pictures b e f x y other = go (eqb (length other) (length (b.memory Kind.pictures)))
  where
    r : Bool → Taken
    r v = taken_of b.state 1 (length (cond v (b.memory Kind.pictures) other)) f (arrival_time x y)

    go : (v : Bool) → record { stream = (r v).state.video; size = (r v).state.size; memory = cond v (written_by (r v).arrival b.state.size (cond v (b.memory Kind.pictures) other) f) (b.memory Kind.pictures) }
        ≡ arrived_view Kind.pictures b f (arrival_time x y) other v
    go true = rw (open_taken Kind.pictures b.state e (length (b.memory Kind.pictures)) f (arrival_time x y))
    go false = rw (open_taken Kind.pictures b.state e (length other) f (arrival_time x y))
arrival_view Kind.captions b e f x y other = go (eqb (length other) (length (b.memory Kind.captions)))
  where
    r : Bool → Taken
    r v = taken_of b.state 6 (length (cond v (b.memory Kind.captions) other)) f (arrival_time x y)

    go : (v : Bool) → record { stream = (r v).state.captions; size = io_size (r v).state.services; memory = cond v (written_by (r v).arrival (io_size b.state.services) (cond v (b.memory Kind.captions) other) f) (b.memory Kind.captions) }
        ≡ arrived_view Kind.captions b f (arrival_time x y) other v
    go true = rw (open_taken Kind.captions b.state e (length (b.memory Kind.captions)) f (arrival_time x y))
    go false = rw (open_taken Kind.captions b.state e (length other) f (arrival_time x y))

-- a state with the same setup is sized as before
chosen_sized : (k : Kind) (b : Box) (p : Paper) → Safe k b p → (e : State) → setup_of e ≡ setup_of b.state → Sized b.sheet e
chosen_sized k b p safe e q = (
  ap (λ (z : Setup). z.line) q ∙ safe.sized.0 ∙ sym (ap (λ (z : Setup). bytes_per_line z.format (line_alignment b.sheet)) q),
  ap (λ (z : Setup). z.size) q ∙ safe.sized.1 ∙ sym (ap (λ (z : Setup). image_size z.format (line_alignment b.sheet)) q),
)

module _ (k : Kind) (b : Box) (p : Paper) (safe : Safe k b p) (f : List ℕ) (x y : ℕ) (other : List ℕ) where
  abbrev d : State
  d = b.state

  abbrev time : Time
  time = arrival_time x y

  -- what is lent, by whether its length fits
  lent_is : lent_to b.memory (type_of k) other ≡ cond (eqb (length other) (length (b.memory k))) (b.memory k) other
  lent_is = ap (λ (j : Kind). cond (eqb (length other) (length (b.memory j))) (b.memory j) other) (kind_back k)

  abbrev arrived_here : Bool → World
  arrived_here = arrived_view k b f (arrival_time x y) other

  tells_same : cond p.running (arrival_told k p d.services f x y) idle
      ≡ cond p.running (cond (whole_on k (size_of k d) d.services f time && leb (length f) p.size) (whole f time) damaged) idle
  tells_same =
      ap (λ (n : ℕ). cond p.running (cond (whole_on k n d.services f time) (whole f time) damaged) idle) (sym safe.kept.tied.size)
      ∙ ap (λ (v : Bool). cond p.running (cond v (whole f time) damaged) idle) (sym (whole_short k d f time))
      ∙ ap (λ (n : ℕ). cond p.running (cond (whole_on k (size_of k d) d.services f time && leb (length f) n) (whole f time) damaged) idle) safe.kept.tied.size

  timely_told : (a r v : Bool) → Timely (cond a idle (cond r (cond v (whole f time) damaged) idle))
  timely_told true r v = tt
  timely_told false false v = tt
  timely_told false true false = tt
  timely_told false true true = timed_of x y

  foretold_of : (e : Event) (r : Arrival) → Answers p e (arrived r) → Foretold k p e (taken r)
  foretold_of (put i) r h = tt
  foretold_of (whole g t) r h = cc h
  foretold_of damaged r h = tt
  foretold_of handed r h = cc h
  foretold_of begun r h = tt
  foretold_of (ended n) r h = tt
  foretold_of (sized n) r h = tt
  foretold_of (changed c j) r h = tt
  foretold_of idle r h = tt

  -- one of its own type
  goes_own : Goes k b p (arrival (type_of k) f x y other)
  goes_own =
      let fl : Bool = whole_on k (size_of k d) d.services f time in
      let v : Bool = eqb (length other) (length (b.memory k)) in
      let h = follows (view k b) p (comes f time fl other) safe.kept.tied safe.kept.sound in
      let l : ℕ = length (lent_to b.memory (type_of k) other) in
      let r : Arrived = arrives_by k d (length (cond v (b.memory k) other)) f time in
      let same : (arrives b (type_of k) f x y other).arrival ≡ r.arrival =
      ap (λ (z : Taken). z.arrival) (open_taken k d safe.ready l f time) ∙ ap (λ (z : List ℕ). (arrives_by k d (length z) f time).arrival) lent_is in
      record {
        event = h.event;
        tells =
            ap (λ (z : Bool). cond z (cond (refused_arrival (arrives b (type_of k) f x y other).arrival) idle (cond p.running (arrival_told k p d.services f x y) idle)) idle) (same_type k)
            ∙ ap (λ (z : Arrival). cond (refused_arrival z) idle (cond p.running (arrival_told k p d.services f x y) idle)) same
            ∙ ap (λ (e : Event). cond (refused_arrival r.arrival) idle e) tells_same ∙ h.tells;
        fits = h.fits;
        foretold = subst (λ (z : Arrival). Foretold k p h.event (taken z)) (sym same) (foretold_of h.event r.arrival h.foretold);
        timely = subst Timely h.tells (timely_told (refused_arrival r.arrival) p.running (fl && leb (length f) p.size));
        ready = ap (λ (z : Setup). eqb z.ready 0) (taken_chosen d (type_of k) l f time) ∙ safe.ready;
        tied = subst (λ (w : World). Tied w (step p h.event)) (sym (arrival_view k b safe.ready f x y other)) h.tied;
        sized = chosen_sized k b p safe (taken_of d (type_of k) l f time).state (taken_chosen d (type_of k) l f time);
        long = ap (λ (w : World). length w.memory) (arrival_view k b safe.ready f x y other) ∙ go v;
      }
    where
      go : (v : Bool) → length (arrived_here v).memory ≡ length (b.memory k)
      go true = long_written (arrives_by k b.state (length (b.memory k)) f (arrival_time x y)).arrival (size_of k b.state) (b.memory k) f
      go false = refl

  -- one of another type
  goes_other : (t : ℕ) → eqb t (type_of k) ≡ false → Goes k b p (arrival t f x y other)
  goes_other t n =
      let l : ℕ = length (lent_to b.memory t other) in
      let (e1, e2, e3) = other_taken k d safe.ready t n l f time in
      record {
        event = idle;
        tells = ap (λ (z : Bool). cond z (cond (refused_arrival (arrives b t f x y other).arrival) idle (cond p.running (arrival_told k p d.services f x y) idle)) idle) n;
        fits = tt;
        foretold = tt;
        timely = tt;
        ready = ap (λ (z : ℕ). eqb z 0) e1 ∙ safe.ready;
        tied = subst (λ (w : World). Tied w p) (sym (rw (n, e2, e3))) safe.kept.tied;
        sized = chosen_sized k b p safe (taken_of d t l f time).state (taken_chosen d t l f time);
        long = ap (λ (z : Bool). length (cond z (cond (eqb (length other) (length (b.memory k))) (taken_memory d t (lent_to b.memory t other) f time) (b.memory k)) (b.memory k))) n;
      }

-- ---- a buffer is mapped or unmapped

module _ (k : Kind) (b : Box) (p : Paper) (safe : Safe k b p) (c : Change) where
  -- the size of the frames stays
  same_size : (j : Kind) (t o l : ℕ) → size_of j (mapped_of c b.state t o l).state ≡ size_of j b.state
  same_size Kind.pictures t o l = ap (λ (z : Setup). z.size) (mapped_chosen c b.state t o l).0
  same_size Kind.captions t o l = ap io_size (mapped_chosen c b.state t o l).1

  -- the stream, and the rest of what it is seen with
  turned_view : (t o l : ℕ) (z : Stream) → stream_of k (mapped_of c b.state t o l).state ≡ z
      → view k (next b (change c t o l)) ≡ record { stream = z; size = size_of k b.state; memory = b.memory k }
  turned_view t o l z e = rw (e, same_size k t o l)

  module _ (o l : ℕ) where
    -- of its own type
    turns_own : Goes k b p (change c (type_of k) o l)
    turns_own =
        let d : State = b.state in
        let r : Step = turned k c d o l in
        let h = follows (view k b) p (turns c o l) safe.kept.tied safe.kept.sound in
        let is : mapped_of c d (type_of k) o l ≡ mapped (reply_number r.reply) (with_kind k d r.stream) = open_mapped k c d o l safe.ready in
        let event : Event = cond (refused_reply r.reply) idle (changed c (buffer_at p.size o)) in
        record {
          event = event;
          tells = ap (λ (z : Bool). cond (eqb (mapped_of c d (type_of k) o l).number 0) (cond z (changed c (buffer_at p.size o)) idle) idle) (same_type k)
              ∙ ap (λ (z : Mapped). cond (eqb z.number 0) (changed c (buffer_at p.size o)) idle) is
              ∙ by_number r.reply (changed c (buffer_at p.size o));
          fits = subst (Fits p) (sym h.tells) h.fits;
          foretold = foretold_by (refused_reply r.reply);
          timely = timely_by (refused_reply r.reply);
          ready = ap (λ (z : Setup). eqb z.ready 0) (mapped_chosen c d (type_of k) o l).0 ∙ safe.ready;
          tied = subst (λ (w : World). Tied w (step p event)) (sym (turned_view (type_of k) o l r.stream (ap (λ (z : Mapped). stream_of k z.state) is ∙ kind_stream k d r.stream)))
              (subst (λ (e : Event). Tied (record { stream = r.stream; size = size_of k d; memory = b.memory k }) (step p e)) (sym h.tells) h.tied);
          sized = chosen_sized k b p safe (mapped_of c d (type_of k) o l).state (mapped_chosen c d (type_of k) o l).0;
          long = refl;
        }
      where
        foretold_by : (x : Bool) → Foretold k p (cond x idle (changed c (buffer_at p.size o))) (numbered (mapped_of c b.state (type_of k) o l).number)
        foretold_by true = tt
        foretold_by false = tt

        timely_by : (x : Bool) → Timely (cond x idle (changed c (buffer_at p.size o)))
        timely_by true = tt
        timely_by false = tt

    -- of another
    turns_other : (t : ℕ) → eqb t (type_of k) ≡ false → Goes k b p (change c t o l)
    turns_other t n =
        let d : State = b.state in
        record {
          event = idle;
          tells = ap (λ (z : Bool). cond (eqb (mapped_of c d t o l).number 0) (cond z (changed c (buffer_at p.size o)) idle) idle) n ∙ never_told (eqb (mapped_of c d t o l).number 0) (changed c (buffer_at p.size o));
          fits = tt;
          foretold = tt;
          timely = tt;
          ready = ap (λ (z : Setup). eqb z.ready 0) (mapped_chosen c d t o l).0 ∙ safe.ready;
          tied = subst (λ (w : World). Tied w p) (sym (turned_view t o l (stream_of k d) (other_mapped k c d t o l n))) safe.kept.tied;
          sized = chosen_sized k b p safe (mapped_of c d t o l).state (mapped_chosen c d t o l).0;
          long = refl;
        }

-- ---- any call

pub goes : (k : Kind) (b : Box) (p : Paper) (c : Call) → Safe k b p → Goes k b p c
goes k b p (request w a) safe =
    let d : Does k b p (request_of w).call a (asks b w a) = does_request k b p a safe w in
    record {
      event = d.event;
      tells = d.tells;
      fits = d.fits;
      foretold = d.foretold;
      timely = d.timely;
      ready = d.ready;
      tied = d.tied;
      sized = d.sized;
      long = refl;
    }
goes k b p (arrival t f x y other) safe = go (eqb t (type_of k)) refl
  where
    go : (v : Bool) → eqb t (type_of k) ≡ v → Goes k b p (arrival t f x y other)
    go true e = subst (λ (n : ℕ). Goes k b p (arrival n f x y other)) (sym (eqb-true t (type_of k) e)) (goes_own k b p safe f x y other)
    go false e = goes_other k b p safe f x y other t e
goes k b p (change c t o l) safe = go (eqb t (type_of k)) refl
  where
    go : (v : Bool) → eqb t (type_of k) ≡ v → Goes k b p (change c t o l)
    go true e = subst (λ (n : ℕ). Goes k b p (change c n o l)) (sym (eqb-true t (type_of k) e)) (turns_own k b p safe c o l)
    go false e = turns_other k b p safe c o l t e

timed_filled : (i : List ℕ) (g : Frame) (o : List Pair) → All (λ x. Timed x.frame.time) o → Timed g.time → All (λ x. Timed x.frame.time) (filled i g o)
timed_filled [] g o a t = a
timed_filled (k ∷ i) g o a t = all_snoc (λ x. Timed x.frame.time) o (record { index = k; frame = g }) a t

timed_rest : (o : List Pair) → All (λ x. Timed x.frame.time) o → All (λ x. Timed x.frame.time) (rest o)
timed_rest [] a = tt
timed_rest (x ∷ o) a = a.1

timed_step : (p : Paper) (e : Event) → All (λ x. Timed x.frame.time) p.outgoing → Timely e → All (λ x. Timed x.frame.time) (step p e).outgoing
timed_step p (put k) a t = a
timed_step p (whole b u) a t = timed_filled p.incoming (frame_of p b u) p.outgoing a t
timed_step p damaged a t = a
timed_step p handed a t = timed_rest p.outgoing a
timed_step p begun a t = a
timed_step p (ended n) a t = tt
timed_step p (sized n) a t = a
timed_step p (changed c j) a t = a
timed_step p idle a t = a

pub fits_next : (k : Kind) (b : Box) (p : Paper) (c : Call) → Safe k b p → Fits p (told k p c (seen b c))
fits_next k b p c safe = let g : Goes k b p c = goes k b p c safe in subst (Fits p) (sym g.tells) g.fits

pub foretold_next : (k : Kind) (b : Box) (p : Paper) (c : Call) → Safe k b p → Foretold k p (told k p c (seen b c)) (reply b c)
foretold_next k b p c safe = let g : Goes k b p c = goes k b p c safe in subst (λ (e : Event). Foretold k p e (reply b c)) (sym g.tells) g.foretold

pub safe_next : (k : Kind) (b : Box) (p : Paper) (c : Call) → Safe k b p → Safe k (next b c) (step p (told k p c (seen b c)))
safe_next k b p c safe =
    let g : Goes k b p c = goes k b p c safe in
    subst (λ (e : Event). Safe k (next b c) (step p e)) (sym g.tells)
    (record {
      ready = g.ready;
      kept = record { tied = g.tied; sound = sound_step p g.event safe.kept.sound g.fits };
      short = omega (arith, g.long, safe.short);
      sized = g.sized;
      timed = timed_step p g.event safe.timed g.timely;
    })
