-- The refusal table told from the calls and their answers: for each call its tests and the reason that each gives, in the order in
-- which they are made. The first that holds answers; where none holds, the call is done.
use Rattle.std.specs.Prelude.{ℕ, ◌/◌, ◌%◌, Bool, true, cond, not, ◌&&◌, ◌||◌, List, [], ◌∷◌, eqb, leb, ltb, length}
use Rattle.std.specs.Int.Signed.{lt_z}
use Rattle.wire_read.specs.Words.{word_at}
use Rattle.wire_signed.specs.Signed.{signed}
use Rattle.ioctl_table.specs.Refusal.{errno_of}
use Rattle.ioctl_table.specs.Table.{request_of}
use Rattle.ioctl_table.specs.declared.refusals.Refusal.{Refusal}
use Rattle.ioctl_table.specs.declared.refusals.Refusal.TheVariants.{ArgumentLength, MemoryLength, Closed, UnknownWord, WrongType, WrongMemory, NoSuchIndex, NoSuchControl, NotDequeued, NoBuffers, NotStreaming, ControlDisabled, ControlReadOnly, ControlIsButton, NoSuchBuffer, BuffersExist, StillMapped, Streaming, ControlGrabbed, OutOfRange, NothingOutgoing, RunFull, BadSheet, MemoryTooLong}
use Rattle.ioctl_table.specs.declared.table.Call.{Call as Asked}
use Rattle.ioctl_table.specs.declared.table.Call.TheVariants.{Unknown, Querycap, EnumFmt, GFmt, SFmt, TryFmt, Reqbufs, Querybuf, Qbuf, Dqbuf, Streamon, Streamoff, GCtrl, SCtrl, Queryctrl, Cropcap, GCrop, SCrop, GSlicedVbiCap}
use Rattle.sheet_rules.specs.Rules.{good_sheet}
use Rattle.sheet_contents.specs.Contents.{format_count}
use Rattle.sheet_records.specs.Records.{control_fields}
use Rattle.sheet_records.specs.declared.Control.{Control}
use Rattle.control_place_rules.specs.Find.{present, place_of, queried_place}
use Rattle.wire_read.specs.Lists.{any}
use Rattle.stream_slots.specs.Slot.{is_slot, buffer_at}
use Rattle.stream_maps.specs.declared.Change.{Change}
use Rattle.stream_maps.specs.Maps.{maps_of, any_mapped, blocked, why_not}
use Rattle.stream_run.specs.Stream.{reduced}
use Rattle.stream_arrival.specs.Arrivals.{run_limit}
use Rattle.picture_rules.specs.Picture.{whole_picture}
use Rattle.caption_rules.specs.Caption.{whole_caption}
use Rattle.stream_arrival.specs.declared.Arrival.{Arrival}
use Rattle.stream_arrival.specs.declared.Arrival.TheVariants.{Refused, Ignored, Damaged, Dropped, Stored}
use Rattle.stream_words.specs.declared.Time.{Time}
use Rattle.device_opening.specs.Opening.{longest_memory}
use Rattle.stream_history.specs.Paper.{Paper, index_of}
use Rattle.claims.specs.Calls.{Kind}

-- A test, and the reason that is given where it holds.
pub record Check : Type 0 where
  pub holds : Bool
  pub why : Refusal

abbrev pub check : Bool → Refusal → Check
check b r = record { holds = b; why = r }

-- the number of the first that holds, 0 where none does
abbrev pub first_number : List Check → ℕ
first_number [] = 0
first_number (c ∷ cs) = cond c.holds (errno_of c.why) (first_number cs)

-- the stream that a type names, if it names one
abbrev pub kind_of : ℕ → Kind
kind_of t = cond (eqb t 6) Kind.captions Kind.pictures

-- it names none
abbrev pub no_stream : ℕ → Bool
no_stream t = not (eqb t 1) && not (eqb t 6)

-- the type that the argument names at a place is not that of a stream; or not that of pictures, where only those have the call
abbrev pub wrong_stream : List ℕ → ℕ → Check
wrong_stream a at = check (no_stream (word_at a at)) WrongType

abbrev pub wrong_type : List ℕ → ℕ → Check
wrong_type a at = check (not (eqb (word_at a at) 1)) WrongType

-- the memory that it names is not 1
abbrev pub wrong_memory : List ℕ → ℕ → Check
wrong_memory a at = check (not (eqb (word_at a at) 1)) WrongMemory

-- the control that the argument names
abbrev pub named : List ℕ → List ℕ → Control
named s a = control_fields s (place_of s (word_at a 0))

-- a value below the minimum or above the maximum of a control that is no button
abbrev pub out_of_range : Control → ℕ → Bool
out_of_range c v = not (eqb c.kind 4) && (lt_z (signed v) c.limits.minimum || lt_z c.limits.maximum (signed v))

-- an opening: 22 for a bad sheet, or a memory of either stream that is too long
abbrev pub opening_tests : List ℕ → ℕ → ℕ → List Check
opening_tests s n m = check (not (good_sheet s)) BadSheet ∷ check (ltb longest_memory n) MemoryTooLong ∷ check (ltb longest_memory m) MemoryTooLong ∷ []

-- the paper has buffer k in one of its queues
abbrev pub queued_on : Paper → ℕ → Bool
queued_on p k = any (λ x. eqb x k) p.incoming || any (λ x. eqb (index_of x) k) p.outgoing

-- the paper of the stream whose type the argument names at a place
abbrev pub paper_at : (Kind → Paper) → List ℕ → ℕ → Paper
paper_at P a at = P (kind_of (word_at a at))

-- the tests of each call, its argument having the length that its word says; P are the papers of the streams
abbrev pub tests : Asked → List ℕ → (Kind → Paper) → List ℕ → List Check
tests Unknown s P a = check true UnknownWord ∷ []
tests Querycap s P a = []
tests EnumFmt s P a = wrong_type a 4 ∷ check (leb (format_count s) (word_at a 0)) NoSuchIndex ∷ []
tests GFmt s P a = wrong_stream a 0 ∷ []
tests SFmt s P a = wrong_stream a 0 ∷ check (not (eqb (paper_at P a 0).granted 0)) BuffersExist ∷ []
tests TryFmt s P a = wrong_stream a 0 ∷ []
tests Reqbufs s P a =
    wrong_stream a 4 ∷ wrong_memory a 8 ∷ check (any_mapped (paper_at P a 4).maps) StillMapped
    ∷ check ((paper_at P a 4).running && not (eqb (word_at a 0) 0)) Streaming ∷ []
tests Querybuf s P a = wrong_stream a 4 ∷ check (leb (paper_at P a 4).granted (word_at a 0)) NoSuchIndex ∷ []
tests Qbuf s P a =
    wrong_stream a 4 ∷ wrong_memory a 48 ∷ check (leb (paper_at P a 4).granted (word_at a 0)) NoSuchIndex
    ∷ check (queued_on (paper_at P a 4) (word_at a 0)) NotDequeued ∷ []
tests Dqbuf s P a =
    wrong_stream a 4 ∷ wrong_memory a 48 ∷ check (eqb (paper_at P a 4).granted 0) NoBuffers ∷ check (not (paper_at P a 4).running) NotStreaming
    ∷ check (eqb (length (paper_at P a 4).outgoing) 0) NothingOutgoing ∷ []
tests Streamon s P a = wrong_stream a 0 ∷ check (eqb (paper_at P a 0).granted 0) NoBuffers ∷ []
tests Streamoff s P a = wrong_stream a 0 ∷ []
tests GCtrl s P a =
    check (leb (present s) (place_of s (word_at a 0))) NoSuchControl ∷ check (eqb ((named s a).flags % 2) 1) ControlDisabled
    ∷ check (eqb (named s a).kind 4) ControlIsButton ∷ []
tests SCtrl s P a =
    check (leb (present s) (place_of s (word_at a 0))) NoSuchControl ∷ check (eqb ((named s a).flags % 2) 1) ControlDisabled
    ∷ check (eqb ((named s a).flags / 4 % 2) 1) ControlReadOnly ∷ check (eqb ((named s a).flags / 2 % 2) 1) ControlGrabbed
    ∷ check (out_of_range (named s a) (word_at a 4)) OutOfRange ∷ []
tests Queryctrl s P a = check (leb (present s) (queried_place s (word_at a 0))) NoSuchControl ∷ []
tests Cropcap s P a = wrong_type a 0 ∷ []
tests GCrop s P a = wrong_type a 0 ∷ []
tests SCrop s P a = wrong_type a 0 ∷ []
tests GSlicedVbiCap s P a = check (not (eqb (word_at a 100) 6)) WrongType ∷ []

-- a request: the opening was refused, an unknown word, the argument's length, then the call's own tests
abbrev pub request_tests : ℕ → List ℕ → (Kind → Paper) → ℕ → List ℕ → List Check
request_tests n s P w a =
    check (not (eqb n 0)) Closed ∷ check (eqb (request_of w).size 0) UnknownWord
    ∷ check (not (eqb (length a) (request_of w).size)) ArgumentLength ∷ tests (request_of w).call s P a

-- an arrival of a type: the opening was refused, no such stream, another memory is lent, the run is full
abbrev pub arrival_tests : ℕ → (Kind → ℕ) → (Kind → Paper) → ℕ → ℕ → List Check
arrival_tests n long P t lent =
    check (not (eqb n 0)) Closed ∷ check (no_stream t) WrongType ∷ check (not (eqb lent (long (kind_of t)))) MemoryLength
    ∷ check ((P (kind_of t)).running && leb run_limit (P (kind_of t)).run.accepted) RunFull ∷ []

-- a map or an unmap: the opening was refused, no such stream, no granted buffer has this offset and length, its count is at its end
abbrev pub change_tests : ℕ → (Kind → Paper) → Change → ℕ → ℕ → ℕ → List Check
change_tests n P c t o l =
    check (not (eqb n 0)) Closed ∷ check (no_stream t) WrongType ∷ check (not (is_slot (P (kind_of t)).granted (P (kind_of t)).size o l)) NoSuchBuffer
    ∷ check (blocked c (maps_of (P (kind_of t)).maps (buffer_at (P (kind_of t)).size o))) (why_not c) ∷ []

-- the first test that holds refuses an arrival; where none does, it is answered this
abbrev pub refused_by : List Check → Arrival → Arrival
refused_by [] r = r
refused_by (c ∷ cs) r = cond c.holds (Refused c.why) (refused_by cs r)

-- the first incoming buffer gets the arrival, under its number; where there is none it is dropped
abbrev pub placed_on : List ℕ → ℕ → Arrival
placed_on [] n = Dropped
placed_on (k ∷ i) n = Stored k n

-- whether a frame is whole: a picture by the image size in force, captions by the services in force
abbrev pub whole_on : Kind → ℕ → List ℕ → List ℕ → Time → Bool
whole_on Kind.pictures size services f t = whole_picture (length f) size t
whole_on Kind.captions size services f t = whole_caption services f t

-- an arrival that is not refused: ignored outside a run; damaged unless it is whole; then it is placed, and its number is the count of those
-- accepted before it in the run, reduced
abbrev pub arrived_on : Kind → Paper → List ℕ → List ℕ → Time → Arrival
arrived_on k p services f t = cond (not p.running) Ignored (cond (whole_on k p.size services f t) (placed_on p.incoming (reduced p.run.accepted)) Damaged)

-- the number that an arrival gives back
abbrev pub arrival_number : Arrival → ℕ
arrival_number (Refused why) = errno_of why
arrival_number Ignored = 0
arrival_number Damaged = 0
arrival_number Dropped = 0
arrival_number (Stored k n) = 0
