-- Arrivals and openings by the refusal table, and what a refusal leaves.
use mathlib.Core.Path.{◌≡◌, refl, ap}
use mathlib.Core.Logic.{◌≢◌}
use mathlib.Core.Bool.{Bool, true, false, cond, not, ◌&&◌}
use Prim.Native.Nat.{ℕ}
use native.Mathlib.Omega.{arith}
use borrow.Author.Tests.{eqb-true, le-leb}
use lib.Dec.{eqb, leb, ltb}
use mathlib.Core.List.{List, [], ◌∷◌}
use lib.ListN.{length}
use Rattle.ioctl_table.specs.declared.refusals.Refusal.TheVariants.{MemoryLength, Closed, WrongType, BadSheet, MemoryTooLong, RunFull}
use Rattle.sheet_rules.specs.Rules.{good_sheet}
use Rattle.stream_words.specs.declared.Time.{Time}
use Rattle.stream_words.specs.Stream.{Stream, with_run}
use Rattle.stream_words.specs.Moves.{next_of}
use Rattle.stream_run.specs.Stream.{streaming}
use Rattle.stream_arrival.specs.declared.Arrival.{Arrival}
use Rattle.stream_arrival.specs.declared.Arrival.TheVariants as arrivals
use Rattle.stream_arrival.specs.Arrivals.{Arrived, run_limit, arrived_as, counted_run, counted, damaged_run, placed_in, placed_of, accepted_of, arrival_of, written_by}
use Rattle.picture_rules.specs.Picture.{in_second, whole_picture}
use Rattle.caption_rules.proofs.Fits.{caption_short}
use Rattle.sheet_copy.specs.Copy.{kept_of}
use Rattle.device_state.specs.State.{State, opening_state, with_video, with_captions}
use Rattle.device_opening.specs.Opening.{Opened, longest_memory, closed_by, opened_of}
use Rattle.device_film.specs.Film.{Taken, taken, picture_arrives, captions_arrive, taken_of}
use Rattle.claims.specs.Calls.{Kind}
use Rattle.claims.specs.Device.{stream_of}
use Rattle.claims.specs.Table.{check, first_number, kind_of, opening_tests, refused_by, placed_on, whole_on, arrival_number}
use Rattle.claims.proofs.Checks.{size_of, arrival_checks, arrived_by}

-- ---- a whole frame is no longer than the frame size

picture_short : (n size : ℕ) (t : Time) → (whole_picture n size t && leb n size) ≡ whole_picture n size t
unfolding whole_picture
picture_short n size t = go (in_second t.microseconds) (eqb n size) refl
  where
    go : (x y : Bool) → eqb n size ≡ y → (cond x y false && leb n size) ≡ cond x y false
    go true true e = le-leb n size (omega (arith, eqb-true n size e))
    go true false e = refl
    go false y e = refl

pub whole_short : (k : Kind) (d : State) (f : List ℕ) (t : Time) → (whole_on k (size_of k d) d.services f t && leb (length f) (size_of k d)) ≡ whole_on k (size_of k d) d.services f t
whole_short Kind.pictures d f t = picture_short (length f) d.size t
whole_short Kind.captions d f t = caption_short d.services f t

-- ---- arrivals

-- the stream's own tests, and what it answers where none holds
module _ (s : Stream) (lent n : ℕ) (w : Bool) (size : ℕ) (t : Time) (short : (w && leb n size) ≡ w) where
  stream_answers : ((arrival_of s lent n w size t).arrival
      ≡ refused_by (check (not (eqb lent s.length)) MemoryLength ∷ check (streaming s && leb run_limit s.run.accepted) RunFull ∷ [])
      (cond (not (streaming s)) arrivals.Ignored (cond w (placed_on s.queues.incoming s.number) arrivals.Damaged)))
      × (arrival_number (arrival_of s lent n w size t).arrival ≢ 0 → (arrival_of s lent n w size t).stream ≡ s)
  unfolding arrival_of accepted_of placed_of
  stream_answers = rw short (go (not (eqb lent s.length)) (streaming s) (leb run_limit s.run.accepted) w s.queues.incoming)
    where
      r : Bool → Bool → Bool → Bool → List ℕ → Arrived
      r x y z u i = cond x (arrived_as (arrivals.Refused MemoryLength) s) (cond (not y) (arrived_as arrivals.Ignored s) (cond z (arrived_as (arrivals.Refused RunFull) s)
          (cond u (placed_in (next_of i) (counted s) s.number n t) (arrived_as arrivals.Damaged (with_run (counted s) (damaged_run (counted_run s.run)))))))

      go : (x y z u : Bool) (i : List ℕ)
          → ((r x y z u i).arrival ≡ refused_by (check x MemoryLength ∷ check (y && z) RunFull ∷ []) (cond (not y) arrivals.Ignored (cond u (placed_on i s.number) arrivals.Damaged)))
          × (arrival_number (r x y z u i).arrival ≢ 0 → (r x y z u i).stream ≡ s)
      go true y z u i = (refl, λ h. refl)
      go false false z u i = (refl, λ h. refl)
      go false true true u i = (refl, λ h. refl)
      go false true false false i = (refl, λ h. absurd (h refl))
      go false true false true [] = (refl, λ h. absurd (h refl))
      go false true false true (k ∷ i) = (refl, λ h. absurd (h refl))

-- what an arrival of a type is answered, and that a refusal changes nothing
pub taken_is : (d : State) (t lent : ℕ) (f : List ℕ) (time : Time) → ((taken_of d t lent f time).arrival ≡ refused_by (arrival_checks d t lent) (arrived_by (kind_of t) d f time))
    × (arrival_number (taken_of d t lent f time).arrival ≢ 0 → (taken_of d t lent f time).state ≡ d)
unfolding taken_of
taken_is d t lent f time = go (eqb d.ready 0) (eqb t 1) refl (eqb t 6) refl
  where
    r : Bool → Bool → Bool → Taken
    r x y z = cond x (taken (arrivals.Refused Closed) d)
        (cond y (taken (picture_arrives d lent f time).arrival (with_video d (picture_arrives d lent f time).stream))
        (cond z (taken (captions_arrive d lent f time).arrival (with_captions d (captions_arrive d lent f time).stream))
        (taken (arrivals.Refused WrongType) d)))

    go : (x y : Bool) → eqb t 1 ≡ y → (z : Bool) → eqb t 6 ≡ z
        → ((r x y z).arrival ≡ refused_by (check x Closed ∷ check (not y && not z) WrongType ∷ check (not (eqb lent (stream_of (cond z Kind.captions Kind.pictures) d).length)) MemoryLength
        ∷ check (streaming (stream_of (cond z Kind.captions Kind.pictures) d) && leb run_limit (stream_of (cond z Kind.captions Kind.pictures) d).run.accepted) RunFull ∷ []) (arrived_by (cond z Kind.captions Kind.pictures) d f time))
        × (arrival_number (r x y z).arrival ≢ 0 → (r x y z).state ≡ d)
    go true y e z g = (refl, λ h. refl)
    go false true e true g = absurd (omega (arith, eqb-true t 1 e, eqb-true t 6 g))
    go false true e false g =
        let (a, b) = stream_answers d.video lent (length f) (whole_on Kind.pictures d.size d.services f time) d.size time (whole_short Kind.pictures d f time) in
        (a, λ h. ap (with_video d) (b h))
    go false false e true g =
        let (a, b) = stream_answers d.captions lent (length f) (whole_on Kind.captions (size_of Kind.captions d) d.services f time) (size_of Kind.captions d) time (whole_short Kind.captions d f time) in
        (a, λ h. ap (with_captions d) (b h))
    go false false e false g = (refl, λ h. refl)

-- what is refused writes nothing
pub written_refused : (x : Arrival) (size : ℕ) (m f : List ℕ) → arrival_number x ≢ 0 → written_by x size m f ≡ m
written_refused (arrivals.Refused why) size m f h = refl
written_refused arrivals.Ignored size m f h = refl
written_refused arrivals.Damaged size m f h = refl
written_refused arrivals.Dropped size m f h = refl
written_refused (arrivals.Stored k n) size m f h = absurd (h refl)

-- the number that an opening gives
pub opening_number : (s : List ℕ) (n m : ℕ) → (opened_of s n m).number ≡ first_number (opening_tests s n m)
unfolding opened_of closed_by
opening_number s n m = go (good_sheet s) (ltb longest_memory n) (ltb longest_memory m)
  where
    r : Bool → Bool → Bool → Opened
    r x y z = cond (not x) (closed_by BadSheet) (cond y (closed_by MemoryTooLong) (cond z (closed_by MemoryTooLong) (record { number = 0; device = record { sheet = kept_of s; state = opening_state (kept_of s) n m } })))

    go : (x y z : Bool) → (r x y z).number ≡ first_number (check (not x) BadSheet ∷ check y MemoryTooLong ∷ check z MemoryTooLong ∷ [])
    go false y z = refl
    go true true z = refl
    go true false true = refl
    go true false false = refl
