-- What the definitions of specs/ say in each case.
use Prim.Native.Nat.{ℕ}
use mathlib.Core.List.{List}
use mathlib.Core.Path.{◌≡◌, refl}
use lib.ListN.{length}
use borrow.Author.Tests.{eq-eqb, ne_eqb}
use Rattle.ioctl_table.specs.declared.refusals.Refusal.TheVariants.{Closed, WrongType}
use Rattle.stream_words.specs.declared.Time.{Time}
use Rattle.stream_arrival.specs.declared.Arrival.{Arrival}
use Rattle.stream_arrival.specs.declared.Arrival.TheVariants.{Refused}
use Rattle.stream_arrival.specs.Arrivals.{Arrived, written_by}
use Rattle.service_rules.specs.Negotiation.{io_size}
use Rattle.device_state.specs.State.{State, with_video, with_captions}
use Rattle.device_film.specs.Film.{taken, taken_of, taken_memory, picture_arrives, captions_arrive}

-- an arrival: its answer and the state after it, and the memory that it leaves
module _ (d : State) (kind : ℕ) (m f : List ℕ) (t : Time) where
  -- as the definitions have them
  abbrev pub Arrives : Arrival → State → List ℕ → Type 0
  Arrives r e m' = (taken r e ≡ taken_of d kind (length m) f t) × (m' ≡ taken_memory d kind m f t)

  -- at a closed device
  pub arrives_closed : d.ready ≡ 0 → Arrives (Refused Closed) d m
  unfolding taken_of taken_memory
  arrives_closed h = rw (eq-eqb d.ready 0 h) (refl, refl)

  -- at an open one; r and m' are what the stream answers and leaves
  module _ (h : d.ready ≡ 0 → ⊥) {r : Arrived} {m' : List ℕ} where
    -- a picture
    pub arrives_picture : kind ≡ 1 → r ≡ picture_arrives d (length m) f t → m' ≡ written_by r.arrival d.size m f
        → Arrives r.arrival (with_video d r.stream) m'
    unfolding taken_of taken_memory
    arrives_picture k q e = rw (ne_eqb d.ready 0 h, eq-eqb kind 1 k, ← q) (refl, e)

    -- captions
    pub arrives_captions : (kind ≡ 1 → ⊥) → kind ≡ 6 → r ≡ captions_arrive d (length m) f t → m' ≡ written_by r.arrival (io_size d.services) m f
        → Arrives r.arrival (with_captions d r.stream) m'
    unfolding taken_of taken_memory
    arrives_captions n k q e = rw (ne_eqb d.ready 0 h, ne_eqb kind 1 n, eq-eqb kind 6 k, ← q) (refl, e)

  -- of another type
  pub arrives_other : (d.ready ≡ 0 → ⊥) → (kind ≡ 1 → ⊥) → (kind ≡ 6 → ⊥) → Arrives (Refused WrongType) d m
  unfolding taken_of taken_memory
  arrives_other h n k = rw (ne_eqb d.ready 0 h, ne_eqb kind 1 n, ne_eqb kind 6 k) (refl, refl)
