-- The tests that the device makes: those of the refusal table, of its state for the paper.
use Prim.Native.Nat.{ℕ, ◌/◌, ◌%◌, min}
use mathlib.Core.Bool.{true, cond, not, ◌&&◌, ◌||◌}
use mathlib.Core.List.{List, [], ◌∷◌}
use lib.Dec.{eqb, leb}
use lib.ListN.{length}
use Rattle.wire_read.specs.Words.{word_at}
use Rattle.ioctl_table.specs.Table.{request_of}
use Rattle.ioctl_table.specs.declared.refusals.Refusal.TheVariants.{ArgumentLength, MemoryLength, Closed, UnknownWord, NoSuchIndex, NoSuchControl, NotDequeued, NoBuffers, NotStreaming, ControlDisabled, ControlReadOnly, ControlIsButton, NoSuchBuffer, BuffersExist, StillMapped, Streaming, ControlGrabbed, OutOfRange, NothingOutgoing, RunFull, WrongType}
use Rattle.ioctl_table.specs.declared.table.Call.{Call}
use Rattle.ioctl_table.specs.declared.table.Call.TheVariants.{Unknown, Querycap, EnumFmt, GFmt, SFmt, TryFmt, Reqbufs, Querybuf, Qbuf, Dqbuf, Streamon, Streamoff, GCtrl, SCtrl, Queryctrl, Cropcap, GCrop, SCrop, GSlicedVbiCap}
use Rattle.sheet_contents.specs.Contents.{format_count}
use Rattle.control_place_rules.specs.Find.{present, place_of, queried_place}
use Rattle.stream_words.specs.Moves.{is_incoming, is_outgoing}
use Rattle.stream_slots.specs.Slot.{is_slot, buffer_at}
use Rattle.stream_maps.specs.declared.Change.{Change}
use Rattle.stream_maps.specs.Maps.{maps_of, any_mapped, blocked, why_not}
use Rattle.stream_run.specs.Stream.{streaming}
use Rattle.device_state.specs.State.{State}
use Rattle.stream_words.specs.declared.Time.{Time}
use Rattle.stream_arrival.specs.declared.Arrival.{Arrival}
use Rattle.stream_arrival.specs.declared.Arrival.TheVariants.{Ignored, Damaged}
use Rattle.stream_arrival.specs.Arrivals.{run_limit}
use Rattle.stream_words.specs.Stream.{Stream}
use Rattle.service_rules.specs.Negotiation.{io_size}
use Rattle.claims.specs.Calls.{Kind}
use Rattle.claims.specs.Device.{stream_of}
use Rattle.claims.specs.Table.{Check, check, kind_of, no_stream, wrong_stream, wrong_type, wrong_memory, named, out_of_range, placed_on, whole_on}

-- the size of the frames of a stream
abbrev pub size_of : Kind → State → ℕ
size_of Kind.pictures d = d.size
size_of Kind.captions d = io_size d.services

-- the stream whose type the argument names at a place
abbrev pub stream_at : State → List ℕ → ℕ → Stream
stream_at d a at = stream_of (kind_of (word_at a at)) d

-- the tests of each call, its argument having the length that its word says
abbrev pub checks : Call → List ℕ → State → List ℕ → List Check
checks Unknown s d a = check true UnknownWord ∷ []
checks Querycap s d a = []
checks EnumFmt s d a = wrong_type a 4 ∷ check (leb (format_count s) (word_at a 0)) NoSuchIndex ∷ []
checks GFmt s d a = wrong_stream a 0 ∷ []
checks SFmt s d a = wrong_stream a 0 ∷ check (not (eqb (stream_at d a 0).queues.granted 0)) BuffersExist ∷ []
checks TryFmt s d a = wrong_stream a 0 ∷ []
checks Reqbufs s d a =
    wrong_stream a 4 ∷ wrong_memory a 8 ∷ check (any_mapped (stream_at d a 4).maps) StillMapped ∷ check (streaming (stream_at d a 4) && not (eqb (word_at a 0) 0)) Streaming ∷ []
checks Querybuf s d a = wrong_stream a 4 ∷ check (leb (stream_at d a 4).queues.granted (word_at a 0)) NoSuchIndex ∷ []
checks Qbuf s d a =
    wrong_stream a 4 ∷ wrong_memory a 48 ∷ check (leb (stream_at d a 4).queues.granted (word_at a 0)) NoSuchIndex
    ∷ check (is_incoming (stream_at d a 4).queues (word_at a 0) || is_outgoing (stream_at d a 4).queues (word_at a 0)) NotDequeued ∷ []
checks Dqbuf s d a =
    wrong_stream a 4 ∷ wrong_memory a 48 ∷ check (eqb (stream_at d a 4).queues.granted 0) NoBuffers ∷ check (not (streaming (stream_at d a 4))) NotStreaming
    ∷ check (eqb (length (stream_at d a 4).queues.outgoing) 0) NothingOutgoing ∷ []
checks Streamon s d a = wrong_stream a 0 ∷ check (eqb (stream_at d a 0).queues.granted 0) NoBuffers ∷ []
checks Streamoff s d a = wrong_stream a 0 ∷ []
checks GCtrl s d a =
    check (leb (present s) (place_of s (word_at a 0))) NoSuchControl ∷ check (eqb ((named s a).flags % 2) 1) ControlDisabled
    ∷ check (eqb (named s a).kind 4) ControlIsButton ∷ []
checks SCtrl s d a =
    check (leb (present s) (place_of s (word_at a 0))) NoSuchControl ∷ check (eqb ((named s a).flags % 2) 1) ControlDisabled
    ∷ check (eqb ((named s a).flags / 4 % 2) 1) ControlReadOnly ∷ check (eqb ((named s a).flags / 2 % 2) 1) ControlGrabbed
    ∷ check (out_of_range (named s a) (word_at a 4)) OutOfRange ∷ []
checks Queryctrl s d a = check (leb (present s) (queried_place s (word_at a 0))) NoSuchControl ∷ []
checks Cropcap s d a = wrong_type a 0 ∷ []
checks GCrop s d a = wrong_type a 0 ∷ []
checks SCrop s d a = wrong_type a 0 ∷ []
checks GSlicedVbiCap s d a = check (not (eqb (word_at a 100) 6)) WrongType ∷ []

-- a request: a closed device, an unknown word, the argument's length, then the call's own tests
abbrev pub request_checks : List ℕ → State → ℕ → List ℕ → List Check
request_checks s d w a =
    check (eqb d.ready 0) Closed ∷ check (eqb (request_of w).size 0) UnknownWord
    ∷ check (not (eqb (length a) (request_of w).size)) ArgumentLength ∷ checks (request_of w).call s d a

-- the tests of an arrival of a type
abbrev pub arrival_checks : State → ℕ → ℕ → List Check
arrival_checks d t lent =
    check (eqb d.ready 0) Closed ∷ check (no_stream t) WrongType ∷ check (not (eqb lent (stream_of (kind_of t) d).length)) MemoryLength
    ∷ check (streaming (stream_of (kind_of t) d) && leb run_limit (stream_of (kind_of t) d).run.accepted) RunFull ∷ []

-- what an arrival at a stream is answered that passes them
abbrev pub arrived_by : Kind → State → List ℕ → Time → Arrival
arrived_by k d f t =
    cond (not (streaming (stream_of k d))) Ignored
    (cond (whole_on k (size_of k d) d.services f t) (placed_on (stream_of k d).queues.incoming (stream_of k d).number) Damaged)

-- a map or an unmap: a closed device, another type, no buffer there, a count at its end
abbrev pub change_checks : Change → State → ℕ → ℕ → ℕ → List Check
change_checks c d t o l =
    check (eqb d.ready 0) Closed ∷ check (no_stream t) WrongType
    ∷ check (not (is_slot (min (stream_of (kind_of t) d).queues.granted 32) (size_of (kind_of t) d) o l)) NoSuchBuffer
    ∷ check (blocked c (maps_of (stream_of (kind_of t) d).maps (buffer_at (size_of (kind_of t) d) o))) (why_not c) ∷ []
