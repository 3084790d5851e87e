-- The history equation, the numbers and the places of buffers, after every list of calls on a device.
use mathlib.Core.Path.{◌≡◌, refl, sym, ap, ◌∙◌, subst}
use Prim.Native.Nat.{ℕ, ◌+◌, ◌*◌, ◌≤◌}
use native.Mathlib.Omega.{arith}
use mathlib.Core.List.{List}
use lib.ListN.{length}
use Rattle.wire_read.specs.Lists.{any}
use Rattle.stream_words.specs.Moves.{emptied, is_incoming, is_outgoing, standing_of}
use Rattle.stream_run.specs.Stream.{Numbered, fresh_stream}
use Rattle.stream_arrival.specs.Arrivals.{run_limit}
use Rattle.stream_maps.specs.declared.Change.{Change}
use Rattle.stream_maps.specs.declared.Change.TheVariants.{Map, Unmap}
use Rattle.stream_maps.specs.Maps.{most_maps, no_maps, maps_of, is_mapped}
use Rattle.stream_maps.proofs.Counts.{none_mapped, opening_unmapped}
use Rattle.stream_status.specs.Buffer.{flags_of}
use Rattle.device_state.specs.State.{State}
use Rattle.device_state.specs.State.{closed_state}
use Rattle.stream_history.specs.Paper.{Paper, blank, changes}
use Rattle.stream_history.specs.Claims.{mapped_on, times_in, times_out}
use Rattle.stream_history.proofs.Sound.{sound_blank}
use Rattle.stream_history.proofs.Machine.{legal_tells}
use Rattle.stream_history.proofs.Tallies.{tally, opening_tally}
use Rattle.stream_history.proofs.Places.{placed}
use Rattle.claims.proofs.Steps.{view, Safe}
use Rattle.claims.proofs.Shut.{Begun, begins, shut_unmapped, closed_shut}
use Rattle.claims.proofs.Open.{safe_next, fits_next}
use Rattle.claims.proofs.Demand.{safe_after, closed_at}
use Rattle.claims.specs.Calls.{Kind, Call}
use Rattle.claims.specs.Device.{stream_of}
use Rattle.claims.proofs.Boxes.{opened, seen, next, events, paper_after, box_after}
use Rattle.claims.specs.Words.{told, opening_size}

-- a closed device has no counts and no buffers
closed_run : (k : Kind) → (stream_of k closed_state).run ≡ (blank 0).run
unfolding closed_state fresh_stream
closed_run Kind.pictures = refl
closed_run Kind.captions = refl

closed_number : (k : Kind) → Numbered (stream_of k closed_state)
unfolding closed_state fresh_stream
closed_number Kind.pictures = refl
closed_number Kind.captions = refl

closed_flags : (k : Kind) (i : ℕ) → flags_of (is_mapped (stream_of k closed_state).maps i) (standing_of (stream_of k closed_state).queues i) ≡ 0
unfolding closed_state fresh_stream emptied standing_of is_incoming is_outgoing any
closed_flags Kind.pictures i = rw (none_mapped no_maps opening_unmapped i)
closed_flags Kind.captions i = rw (none_mapped no_maps opening_unmapped i)

blank_flags : (i : ℕ) → mapped_on (blank 0) i + 2 * times_in (blank 0) i + 4 * times_out (blank 0) i ≡ 0
blank_flags i = rw (none_mapped no_maps opening_unmapped i)

module _ (s : List ℕ) (m : Kind → List ℕ) (k : Kind) (cs : List Call) where
  -- accepted = handed over + outgoing + damaged + dropped + discarded by its stop, and the counts of the device are those
  pub history_equation : ((paper_after s m k cs).run.accepted
      ≡ (paper_after s m k cs).run.handed + length (paper_after s m k cs).outgoing + (paper_after s m k cs).run.damaged + (paper_after s m k cs).run.dropped + (paper_after s m k cs).run.discarded)
      × ((stream_of k (box_after s m cs).state).run ≡ (paper_after s m k cs).run)
  history_equation = go (begins s m)
    where
      go : Begun s m
          → ((paper_after s m k cs).run.accepted
          ≡ (paper_after s m k cs).run.handed + length (paper_after s m k cs).outgoing + (paper_after s m k cs).run.damaged + (paper_after s m k cs).run.dropped + (paper_after s m k cs).run.discarded)
          × ((stream_of k (box_after s m cs).state).run ≡ (paper_after s m k cs).run)
      go (Begun.safe x) =
          let g : Safe k (box_after s m cs) (paper_after s m k cs) = safe_after k cs (opened s m) (blank (opening_size s k)) (x k) in
          (g.kept.sound.adds, g.kept.tied.run)
      go (Begun.shut x) =
          let (d, p) = closed_at s m k x cs in
          (rw p refl, ap (λ (z : State). (stream_of k z).run) d ∙ closed_run k ∙ sym (ap (λ (q : Paper). q.run) p))

  -- no run has more arrivals than its limit
  pub within_limit : (paper_after s m k cs).run.accepted ≤ run_limit
  within_limit = go (begins s m)
    where
      go : Begun s m → (paper_after s m k cs).run.accepted ≤ run_limit
      go (Begun.safe x) = (safe_after k cs (opened s m) (blank (opening_size s k)) (x k)).kept.sound.limit
      go (Begun.shut x) = rw (closed_at s m k x cs).1 (omega arith)

  -- the number that a stream of the device keeps is its count reduced
  pub number_kept : Numbered (stream_of k (box_after s m cs).state)
  number_kept = go (begins s m)
    where
      go : Begun s m → Numbered (stream_of k (box_after s m cs).state)
      go (Begun.safe x) = (safe_after k cs (opened s m) (blank (opening_size s k)) (x k)).kept.tied.number
      go (Begun.shut x) = subst (λ (d : State). Numbered (stream_of k d)) (sym (closed_at s m k x cs).0) (closed_number k)

  -- the map counts, by the events
  pub mapped_tallied : (i : ℕ)
      → (maps_of (paper_after s m k cs).maps i + changes Unmap i (events k (opened s m) (blank (opening_size s k)) cs) ≡ changes Map i (events k (opened s m) (blank (opening_size s k)) cs))
      × (maps_of (paper_after s m k cs).maps i ≤ most_maps)
      × ((paper_after s m k cs).granted ≤ i → maps_of (paper_after s m k cs).maps i ≡ 0)
  mapped_tallied i = go (begins s m)
    where
      go : Begun s m
          → (maps_of (paper_after s m k cs).maps i + changes Unmap i (events k (opened s m) (blank (opening_size s k)) cs) ≡ changes Map i (events k (opened s m) (blank (opening_size s k)) cs))
          × (maps_of (paper_after s m k cs).maps i ≤ most_maps)
          × ((paper_after s m k cs).granted ≤ i → maps_of (paper_after s m k cs).maps i ≡ 0)
      go (Begun.safe x) =
          let g : Safe k (box_after s m cs) (paper_after s m k cs) = safe_after k cs (opened s m) (blank (opening_size s k)) (x k) in
          let l = legal_tells seen next (told k) (Safe k) (safe_next k) (fits_next k) cs (opened s m) (blank (opening_size s k)) (x k) in (
            omega (arith, tally (events k (opened s m) (blank (opening_size s k)) cs) (blank (opening_size s k)) i l (sound_blank (opening_size s k)), opening_tally (opening_size s k) i),
            g.kept.sound.maps.most i,
            g.kept.sound.maps.spare i,
          )
      go (Begun.shut x) =
          let p : paper_after s m k cs ≡ blank (opening_size s k) = (closed_at s m k x cs).1 in
          let none : maps_of (paper_after s m k cs).maps i ≡ 0 = ap (λ (q : Paper). maps_of q.maps i) p ∙ opening_tally (opening_size s k) i in
          let quiet : (c : Change) → changes c i (events k (opened s m) (blank (opening_size s k)) cs) ≡ 0 = λ c. shut_unmapped k c i cs (opened s m) (blank (opening_size s k)) (closed_shut (opened s m) x) in (
            omega (arith, none, quiet Unmap, quiet Map),
            omega (arith, none),
            λ h. none,
          )

  -- every buffer is in at most one of the two queues, no other index is in any, and the flags say in which
  pub one_place : (i : ℕ)
      → (times_in (paper_after s m k cs) i + times_out (paper_after s m k cs) i ≤ 1)
      × ((paper_after s m k cs).granted ≤ i → times_in (paper_after s m k cs) i + times_out (paper_after s m k cs) i ≡ 0)
      × (flags_of (is_mapped (stream_of k (box_after s m cs).state).maps i) (standing_of (stream_of k (box_after s m cs).state).queues i)
      ≡ mapped_on (paper_after s m k cs) i + 2 * times_in (paper_after s m k cs) i + 4 * times_out (paper_after s m k cs) i)
  one_place i = go (begins s m)
    where
      go : Begun s m
          → (times_in (paper_after s m k cs) i + times_out (paper_after s m k cs) i ≤ 1)
          × ((paper_after s m k cs).granted ≤ i → times_in (paper_after s m k cs) i + times_out (paper_after s m k cs) i ≡ 0)
          × (flags_of (is_mapped (stream_of k (box_after s m cs).state).maps i) (standing_of (stream_of k (box_after s m cs).state).queues i)
          ≡ mapped_on (paper_after s m k cs) i + 2 * times_in (paper_after s m k cs) i + 4 * times_out (paper_after s m k cs) i)
      go (Begun.safe x) = placed (view k (box_after s m cs)) (paper_after s m k cs) i (safe_after k cs (opened s m) (blank (opening_size s k)) (x k)).kept
      go (Begun.shut x) =
          let (d, p) = closed_at s m k x cs in
          rw p (
            omega arith,
            λ h. refl,
            ap (λ (z : State). flags_of (is_mapped (stream_of k z).maps i) (standing_of (stream_of k z).queues i)) d ∙ closed_flags k i ∙ sym (blank_flags i),
          )
