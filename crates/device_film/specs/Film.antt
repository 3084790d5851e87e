-- Frame arrivals, and the verdicts. A closed device refuses the first, and its films are blank.
use Rattle.std.specs.Prelude.{ℕ, cond, List, eqb, length}
use Rattle.ioctl_table.specs.declared.refusals.Refusal.TheVariants.{Closed, WrongType}
use Rattle.stream_words.specs.declared.Time.{Time}
use Rattle.stream_arrival.specs.declared.Arrival.TheVariants.{Refused}
use Rattle.stream_arrival.specs.declared.Arrival.{Arrival}
use Rattle.stream_arrival.specs.Arrivals.{Arrived, arrival_of, written_by}
use Rattle.picture_rules.specs.Picture.{whole_picture}
use Rattle.service_rules.specs.Negotiation.{io_size}
use Rattle.caption_rules.specs.Caption.{whole_caption}
use Rattle.stream_verdict.specs.declared.Verdict.{Verdict}
use Rattle.stream_verdict.specs.declared.Verdict.TheVariants.{Blank}
use Rattle.stream_verdict.specs.Film.{verdict_of}
use Rattle.device_state.specs.State.{State, with_video, with_captions}

-- the answer to an arrival, and the state after it
pub record Taken : Type 0 where
  pub arrival : Arrival
  pub state : State

abbrev pub taken : Arrival → State → Taken
taken a d = record { arrival = a; state = d }

-- a picture arrives at its stream: whole if it has the image size and its microseconds are in 0..999,999
abbrev pub picture_arrives : State → ℕ → List ℕ → Time → Arrived
picture_arrives d lent f t = arrival_of d.video lent (length f) (whole_picture (length f) d.size t) d.size t

-- captions arrive at theirs: whole by their records and the services in force; the io size is the frame size
abbrev pub captions_arrive : State → ℕ → List ℕ → Time → Arrived
captions_arrive d lent f t = arrival_of d.captions lent (length f) (whole_caption d.services f t) (io_size d.services) t

-- what an arrival of a type answers and leaves: closed, another type than 1 and 6; then its stream's own tests
unfoldable pub taken_of : State → ℕ → ℕ → List ℕ → Time → Taken
taken_of d kind lent f t =
    cond (eqb d.ready 0) (taken (Refused Closed) d)
    (cond (eqb kind 1) (taken (picture_arrives d lent f t).arrival (with_video d (picture_arrives d lent f t).stream))
    (cond (eqb kind 6) (taken (captions_arrive d lent f t).arrival (with_captions d (captions_arrive d lent f t).stream))
    (taken (Refused WrongType) d)))

-- the size of the frames of a type
abbrev pub frame_size : State → ℕ → ℕ
frame_size d kind = cond (eqb kind 1) d.size (io_size d.services)

-- what it leaves of the memory: only a stored one writes
unfoldable pub taken_memory : State → ℕ → List ℕ → List ℕ → Time → List ℕ
taken_memory d kind m f t = written_by (taken_of d kind (length m) f t).arrival (frame_size d kind) m f

-- the verdict on the film of a type
unfoldable pub device_verdict : State → ℕ → Verdict
device_verdict d kind = cond (eqb d.ready 0) Blank (cond (eqb kind 1) (verdict_of d.video) (cond (eqb kind 6) (verdict_of d.captions) Blank))
