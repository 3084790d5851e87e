-- Wrong devices, each like ours but for one thing.
use Rattle.std.specs.Prelude.{ℕ, zero, suc, ◌+◌, ◌-◌, ◌/◌, ◌%◌, min, Bool, false, cond, not, ◌&&◌, ◌||◌, List, [], ◌∷◌, map, eqb, replicate, take, drop, ℤ, pos, ◌+ℤ◌, ◌-ℤ◌}
use Rattle.std.proofs.lemmas.List.Edits.{sets}
use Rattle.std.specs.Int.Signed.{lt_z}
use Rattle.wire_read.specs.Words.{word_at, bytes_of}
use Rattle.wire_signed.specs.Signed.{signed_at, distance}
use Rattle.ioctl_table.specs.Table.{request_of}
use Rattle.ioctl_table.specs.declared.table.Call.{Call as Asked}
use Rattle.ioctl_table.specs.declared.table.Call.TheVariants.{Unknown, Querycap, EnumFmt, GFmt, SFmt, TryFmt, Reqbufs, Querybuf, Qbuf, Dqbuf, Streamon, Streamoff, GCtrl, SCtrl, Queryctrl, Cropcap, GCrop, SCrop, GSlicedVbiCap}
use Rattle.sheet_geometry.specs.Geometry.{widths_of, crop_bounds, crop_default}
use Rattle.sheet_geometry.specs.declared.Range.{Range}
use Rattle.sheet_geometry.specs.declared.Rect.{Rect}
use Rattle.crop_rules.specs.Crop.{clamped_place, fields_apart, width_in, height_in, left_in, clamped_top, clamped, opening_crop}
use Rattle.crop_replies.specs.Replies.{crop_reply}
use Rattle.crop_calls.specs.Crops.{asked_crop}
use Rattle.stream_slots.specs.Slot.{slot_offset}
use Rattle.wire_read.specs.Lists.{any}
use Rattle.stream_words.specs.Stream.{Run}
use Rattle.stream_run.specs.Stream.{fresh_run}
use Rattle.stream_arrival.specs.declared.Arrival.{Arrival}
use Rattle.stream_arrival.specs.declared.Arrival.TheVariants.{Refused, Ignored, Damaged, Dropped, Stored}
use Rattle.stream_verdict.specs.declared.Verdict.{Verdict}
use Rattle.stream_verdict.specs.declared.Verdict.TheVariants.{Running, Blank, Gaps, Complete}
use Rattle.stream_history.specs.Paper.{Paper}
use Rattle.claims.specs.Calls.{Kind, type_of, Call}
use Rattle.claims.specs.Calls.Call.{request, arrival, change}
use Rattle.claims.specs.Machine.{Session, Machine, Given, more}
use Rattle.claims.specs.Words.{paper_in}
use Rattle.claims_together.specs.Meets.{Meets}
use Rattle.claims.specs.Device.{machine_of, our_device}
use Rattle.claims_shut_out.specs.Faults.{left_zero, NeverOpens, AllRefusing, GrantsNone, GrantsFewer, ConstantVerdict, AlwaysComplete, NeverComplete, IdleArrival, LaterPretend, InventedTotals, TryEchoes, OddRefused, LeftRaised, FailedCounted, StoredNumbered, YoungestFirst, SoonWhenStopped, NeverSoon, UnknownInvalid, TieUp, GreatestMissed, FromAbove, FieldsMixed, TopLowered, CropMoved, StreamsMixed, HeldUp, TwiceTaken, AllTypes, OneVerdict}

-- our device
abbrev pub ours : Machine
ours = machine_of our_device

-- ---- a session with one thing changed

module _ (S : Session) where
  abbrev pub with_opening : ℕ → Session
  with_opening n = record {
    opening = n;
    request = S.request;
    arrival = S.arrival;
    leaves = S.leaves;
    change = S.change;
    memory = S.memory;
    verdict = S.verdict;
    counts = S.counts;
    plane = S.plane;
  }

  abbrev pub with_request : (List Call → ℕ → List ℕ → Given) → Session
  with_request g = record {
    opening = S.opening;
    request = g;
    arrival = S.arrival;
    leaves = S.leaves;
    change = S.change;
    memory = S.memory;
    verdict = S.verdict;
    counts = S.counts;
    plane = S.plane;
  }

  abbrev pub with_arrival : (List Call → ℕ → List ℕ → ℕ → ℕ → List ℕ → Arrival) → Session
  with_arrival g = record {
    opening = S.opening;
    request = S.request;
    arrival = g;
    leaves = S.leaves;
    change = S.change;
    memory = S.memory;
    verdict = S.verdict;
    counts = S.counts;
    plane = S.plane;
  }

  -- the memory, the verdict and the counts: what is read and no answer
  abbrev pub telling : (Kind → List Call → List ℕ) → (List Call → ℕ → Verdict) → (Kind → List Call → Run) → Session
  telling memory verdict counts = record {
    opening = S.opening;
    request = S.request;
    arrival = S.arrival;
    leaves = S.leaves;
    change = S.change;
    memory = memory;
    verdict = verdict;
    counts = counts;
    plane = S.plane;
  }

-- the calls by their place in a row, and whether two are the same
abbrev pub place : Asked → ℕ
place Unknown = 0
place Querycap = 1
place EnumFmt = 2
place GFmt = 3
place SFmt = 4
place TryFmt = 5
place Reqbufs = 6
place Querybuf = 7
place Qbuf = 8
place Dqbuf = 9
place Streamon = 10
place Streamoff = 11
place GCtrl = 12
place SCtrl = 13
place Queryctrl = 14
place Cropcap = 15
place GCrop = 16
place SCrop = 17
place GSlicedVbiCap = 18

-- one call answered otherwise: by its argument and by what it was answered
abbrev pub only : Asked → (List ℕ → Given → Given) → Asked → List ℕ → Given → Given
only call g asked a r = cond (eqb (place asked) (place call)) (g a r) r

abbrev pub answering : Asked → (List ℕ → Given → Given) → Machine
answering call g s m = with_request (ours s m) (λ cs w a. only call g (request_of w).call a ((ours s m).request cs w a))

-- ---- requests

-- every opening is refused
abbrev pub never_opens : Machine
never_opens s m = with_opening (ours s m) 22

-- a request is refused
abbrev pub refused : List ℕ → Given → Given
refused a r = record { number = 22; argument = a }

-- all requests are, though the opening gave 0
abbrev pub all_refusing : Machine
all_refusing s m = with_request (ours s m) (λ cs w a. refused a ((ours s m).request cs w a))

-- a buffer request is answered with no buffers
abbrev pub none_in : List ℕ → Given → Given
none_in a r = record { number = r.number; argument = replicate 20 0 }

abbrev pub grants_none : Machine
grants_none = answering Reqbufs none_in

-- a buffer request tells what ours tells, and no buffer can be handed in
abbrev pub grants_fewer : Machine
grants_fewer = answering Qbuf refused

-- TRY_FMT gives its question back
abbrev pub echoed : List ℕ → Given → Given
echoed a r = record { number = r.number; argument = a }

abbrev pub try_echoes : Machine
try_echoes = answering TryFmt echoed

-- an odd width of pictures is refused
abbrev pub odd_out : List ℕ → Given → Given
odd_out a r = cond (eqb (word_at a 0) 1 && eqb (word_at a 4 % 2) 1) (refused a r) r

abbrev pub odd_tried : Machine
odd_tried = answering TryFmt odd_out

abbrev pub odd_set : Machine
odd_set = answering SFmt odd_out

-- TRY_FMT and S_FMT of pictures are answered as if another width had been asked for
abbrev pub widened : (Range → ℕ → ℕ) → List ℕ → Asked → List ℕ → List ℕ
widened g s call a =
    cond ((eqb (place call) (place TryFmt) || eqb (place call) (place SFmt)) && eqb (word_at a 0) 1) (sets a 4 (bytes_of (g (widths_of s) (word_at a 4) ∷ []))) a

abbrev pub widening : (Range → ℕ → ℕ) → Machine
widening g s m = with_request (ours s m) (λ cs w a. (ours s m).request cs w (widened g s (request_of w).call a))

-- one more: steps are even, so that this changes only what is half way, and that goes up
abbrev pub tie_up : Machine
tie_up = widening (λ r n. n + 1)

-- a step below the greatest is the most
abbrev pub greatest_missed : Machine
greatest_missed = widening (λ r n. min n (r.greatest - r.step))

-- half a step more: all that is between two goes up
abbrev pub from_above : Machine
from_above = widening (λ r n. n + r.step / 2)

-- a call as it is taken: an S_CROP of a negative left is one of left 0
abbrev pub raised : Call → Call
raised (request w a) = request w (cond (eqb (place (request_of w).call) (place SCrop) && lt_z (signed_at a 4) (pos 0)) (left_zero a) a)
raised (arrival t f x y other) = arrival t f x y other
raised (change c t o l) = change c t o l

abbrev pub left_raised : Machine
left_raised s m = with_request (ours s m) (λ cs w a. (ours s m).request (map raised cs) w a)

-- the crop after calls, where g says what becomes of a rectangle that S_CROP asks for
abbrev pub crop_after : (Rect → Rect) → Rect → List Call → Rect
crop_after g r [] = r
crop_after g r (request w a ∷ cs) = crop_after g (cond (eqb (place (request_of w).call) (place SCrop)) (g (asked_crop a)) r) cs
crop_after g r (arrival t f x y other ∷ cs) = crop_after g r cs
crop_after g r (change c t o l ∷ cs) = crop_after g r cs

-- G_CROP tells the crop by other rules: what opening makes of the default, and what S_CROP makes of a rectangle, both by the bounds
abbrev pub cropping : (Rect → Rect → Rect) → (Rect → Rect → Rect) → Machine
cropping first g s m =
    let telling : List Call → List ℕ → Given → Given = λ cs a r. record { number = r.number; argument = crop_reply (crop_after (g (crop_bounds s)) (first (crop_bounds s) (crop_default s)) cs) } in
    with_request (ours s m) (λ cs w a. only GCrop (telling cs) (request_of w).call a ((ours s m).request cs w a))

-- once a format was asked for, G_CROP tells the crop at opening
abbrev pub sets_format : Call → Bool
sets_format (request w a) = eqb (place (request_of w).call) (place SFmt)
sets_format (arrival t f x y other) = false
sets_format (change c t o l) = false

abbrev pub forgotten : List ℕ → List Call → List ℕ → Given → Given
forgotten s cs a r = cond (any sets_format cs) (record { number = r.number; argument = crop_reply (opening_crop s) }) r

abbrev pub crop_forgotten : Machine
crop_forgotten s m = with_request (ours s m) (λ cs w a. only GCrop (forgotten s cs) (request_of w).call a ((ours s m).request cs w a))

-- opening takes the default as it is
abbrev pub as_it_is : Rect → Rect → Rect
as_it_is b d = d

abbrev pub opening_left_out : Machine
opening_left_out = cropping as_it_is clamped

-- another top, and all else as it should be
abbrev pub top_by : (Rect → Rect → ℤ) → Rect → Rect → Rect
top_by top b a = record { left = left_in b a; top = top b a; width = width_in b a; height = height_in b a }

-- it is brought inside and not rounded
abbrev pub inside : Rect → Rect → Rect
inside = top_by clamped_top

abbrev pub not_rounded : Machine
not_rounded = cropping clamped inside

-- it is rounded first, and then brought inside
abbrev pub apart_first : Rect → Rect → Rect
apart_first = top_by (λ b a. clamped_place b.top b.height (height_in b a) (fields_apart b.top a.top))

abbrev pub rounded_first : Machine
rounded_first = cropping clamped apart_first

-- the top itself is made even, not its distance
abbrev pub even_itself : Rect → Rect → Rect
even_itself = top_by (λ b a. clamped_top b a -ℤ pos (distance (pos 0) (clamped_top b a) % 2))

abbrev pub top_itself : Machine
top_itself = cropping clamped even_itself

-- its distance is rounded up
abbrev pub even_up : Rect → Rect → Rect
even_up = top_by (λ b a. clamped_top b a +ℤ pos (distance b.top (clamped_top b a) % 2))

abbrev pub rounded_up : Machine
rounded_up = cropping clamped even_up

-- the buffer that an arrival was stored in, else k
abbrev pub stored_by : Arrival → ℕ → ℕ
stored_by (Refused why) k = k
stored_by Ignored k = k
stored_by Damaged k = k
stored_by Dropped k = k
stored_by (Stored j n) k = j

-- the buffer that a call filled of the stream of this type, else k
abbrev pub filled_by : ℕ → Session → List Call → Call → ℕ → ℕ
filled_by t S h (request w a) k = k
filled_by t S h (arrival u f x y other) k = cond (eqb u t) (stored_by (S.arrival h u f x y other) k) k
filled_by t S h (change c u o l) k = k

-- the buffer of it that was filled last by calls made after h, k if none was
abbrev pub youngest : ℕ → Session → List Call → List Call → ℕ → ℕ
youngest t S h [] k = k
youngest t S h (c ∷ cs) k = youngest t S (more h c) cs (filled_by t S h c k)

-- a DQBUF that is answered that buffer; an index, below 32, is one byte
abbrev pub youngest_in : Session → List Call → List ℕ → Given → Given
youngest_in S cs a r = record { number = r.number; argument = youngest (word_at a 4) S [] cs 0 ∷ 0 ∷ 0 ∷ 0 ∷ drop 4 r.argument }

abbrev pub youngest_first : Machine
youngest_first s m = with_request (ours s m) (λ cs w a. only Dqbuf (youngest_in (ours s m) cs) (request_of w).call a ((ours s m).request cs w a))

-- a DQBUF that ours refuses with 22 is answered 11
abbrev pub put_off : List ℕ → Given → Given
put_off a r = record { number = cond (eqb r.number 22) 11 r.number; argument = r.argument }

abbrev pub soon_when_stopped : Machine
soon_when_stopped = answering Dqbuf put_off

-- one that ours answers 11 is refused with 22
abbrev pub called_off : List ℕ → Given → Given
called_off a r = record { number = cond (eqb r.number 11) 22 r.number; argument = r.argument }

abbrev pub never_soon : Machine
never_soon = answering Dqbuf called_off

-- an unknown word is refused with 22
abbrev pub unknown_invalid : Machine
unknown_invalid = answering Unknown refused

-- ---- the verdict and the counts

abbrev pub judging : (Verdict → Verdict) → Machine
judging g s m = telling (ours s m) (ours s m).memory (λ cs t. g ((ours s m).verdict cs t)) (ours s m).counts

-- the film is always the same
abbrev pub always_running : Machine
always_running = judging (λ v. Running)

abbrev pub always_blank : Machine
always_blank = judging (λ v. Blank)

abbrev pub always_gaps : Machine
always_gaps = judging (λ v. Gaps)

abbrev pub always_complete : Machine
always_complete = judging (λ v. Complete)

-- it is COMPLETE as soon as it does not run
abbrev pub praised : Verdict → Verdict
praised Running = Running
praised Blank = Complete
praised Gaps = Complete
praised Complete = Complete

abbrev pub stopped_complete : Machine
stopped_complete = judging praised

-- it has gaps where it is COMPLETE
abbrev pub blamed : Verdict → Verdict
blamed Running = Running
blamed Blank = Blank
blamed Gaps = Gaps
blamed Complete = Gaps

abbrev pub never_complete : Machine
never_complete = judging blamed

abbrev pub counting : (Session → Kind → List Call → Run) → Machine
counting g s m = telling (ours s m) (ours s m).memory (ours s m).verdict (g (ours s m))

-- nothing is ever counted
abbrev pub uncounted : Machine
uncounted = counting (λ S k cs. fresh_run 0)

-- how many refused DQBUFs of a stream there are among calls made after h
abbrev pub failed_in : Session → Kind → List Call → List Call → ℕ
failed_in S k h [] = 0
failed_in S k h (request w a ∷ cs) =
    cond (eqb (place (request_of w).call) (place Dqbuf) && (eqb (word_at a 4) (type_of k) && not (eqb (S.request h w a).number 0))) 1 0
    + failed_in S k (more h (request w a)) cs
failed_in S k h (arrival t f x y other ∷ cs) = failed_in S k (more h (arrival t f x y other)) cs
failed_in S k h (change c t o l ∷ cs) = failed_in S k (more h (change c t o l)) cs

-- they count as handed over
abbrev pub with_failed : Run → ℕ → Run
with_failed r n =
    record { ran = r.ran; accepted = r.accepted; handed = r.handed + n; damaged = r.damaged; dropped = r.dropped; discarded = r.discarded }

abbrev pub failed_counted : Machine
failed_counted = counting (λ S k cs. with_failed (S.counts k cs) (failed_in S k [] cs))

-- ---- arrivals

-- a stored picture gets the count of those stored before it in its run
abbrev pub renumbered : Arrival → Run → Arrival
renumbered (Refused why) r = Refused why
renumbered Ignored r = Ignored
renumbered Damaged r = Damaged
renumbered Dropped r = Dropped
renumbered (Stored k n) r = Stored k (r.accepted - (r.damaged + r.dropped))

abbrev pub stored_numbered : Machine
stored_numbered s m =
    with_arrival (ours s m) (λ cs t f x y other. cond (eqb t 1) (renumbered ((ours s m).arrival cs t f x y other) ((ours s m).counts Kind.pictures cs)) ((ours s m).arrival cs t f x y other))

-- another memory of pictures
abbrev pub pictured : (List Call → List ℕ) → (List Call → List ℕ) → Kind → List Call → List ℕ
pictured x y Kind.pictures = x
pictured x y Kind.captions = y

abbrev pub writing : (List ℕ → Session → List ℕ → List Call → List ℕ) → Machine
writing g s m = telling (ours s m) (pictured (g s (ours s m) (m Kind.pictures)) ((ours s m).memory Kind.captions)) (ours s m).verdict (ours s m).counts

-- nothing is ever written
abbrev pub idle : Machine
idle = writing (λ s S m cs. m)

-- a frame in each of the first n slots
abbrev pub flooded : ℕ → ℕ → List ℕ → List ℕ → List ℕ
flooded zero size m f = m
flooded (suc n) size m f = sets (flooded n size m f) (slot_offset n size) f

-- this if the arrival was stored, else that
abbrev pub if_stored : Arrival → List ℕ → List ℕ → List ℕ
if_stored (Refused why) m n = n
if_stored Ignored m n = n
if_stored Damaged m n = n
if_stored Dropped m n = n
if_stored (Stored k j) m n = m

-- the first stored picture fills every buffer, and no other writes; calls made after h
abbrev pub filled_once : List ℕ → Session → List ℕ → List Call → List Call → List ℕ
filled_once s S m h [] = m
filled_once s S m h (request w a ∷ cs) = filled_once s S m (more h (request w a)) cs
filled_once s S m h (change c t o l ∷ cs) = filled_once s S m (more h (change c t o l)) cs
filled_once s S m h (arrival t f x y other ∷ cs) =
    let later : List ℕ = filled_once s S m (more h (arrival t f x y other)) cs in
    cond (eqb t 1) (if_stored (S.arrival h t f x y other) (flooded (paper_in s S Kind.pictures h).granted (paper_in s S Kind.pictures h).size m f) later) later

abbrev pub later_pretend : Machine
later_pretend = writing (λ s S m cs. filled_once s S m [] cs)

-- ---- two streams

-- a QBUF of pictures is refused where the captions have that index waiting
abbrev pub also_waiting : Paper → List ℕ → Given → Given
also_waiting p a r = cond (eqb (word_at a 4) 1 && any (λ x. eqb x (word_at a 0)) p.incoming) (refused a r) r

abbrev pub streams_mixed : Machine
streams_mixed s m =
    with_request (ours s m) (λ cs w a. only Qbuf (also_waiting (paper_in s (ours s m) Kind.captions cs)) (request_of w).call a ((ours s m).request cs w a))

-- an S_FMT of captions that ours accepts is refused with 16 where the pictures have buffers
abbrev pub busy : Paper → List ℕ → Given → Given
busy p a r = cond (eqb (word_at a 0) 6 && (eqb r.number 0 && not (eqb p.granted 0))) (record { number = 16; argument = a }) r

abbrev pub held_up : Machine
held_up s m = with_request (ours s m) (λ cs w a. only SFmt (busy (paper_in s (ours s m) Kind.pictures cs)) (request_of w).call a ((ours s m).request cs w a))

-- of a caption frame only the first record is looked at
abbrev pub first_record : ℕ → List ℕ → List ℕ
first_record t f = cond (eqb t 6) (take 64 f) f

abbrev pub twice_taken : Machine
twice_taken s m = with_arrival (ours s m) (λ cs t f x y other. (ours s m).arrival cs t (first_record t f) x y other)

-- what is no caption frame is a picture
abbrev pub all_types : Machine
all_types s m = with_arrival (ours s m) (λ cs t f x y other. (ours s m).arrival cs (cond (eqb t 6) 6 1) f x y other)

-- the verdict on the captions is told for both
abbrev pub one_verdict : Machine
one_verdict s m = telling (ours s m) (ours s m).memory (λ cs t. (ours s m).verdict cs 6) (ours s m).counts

-- a device that has the fault, and does not meet the demands
abbrev pub Wrong : (Machine → Type 0) → Machine → Type 0
Wrong Fault M = Fault M × (Meets M → ⊥)

pub record WrongDevices : Type 0 where
  pub never_opens_law : Wrong NeverOpens never_opens
  pub all_refusing_law : Wrong AllRefusing all_refusing
  pub grants_none_law : Wrong GrantsNone grants_none
  pub grants_fewer_law : Wrong GrantsFewer grants_fewer
  pub always_running_law : Wrong ConstantVerdict always_running
  pub always_blank_law : Wrong ConstantVerdict always_blank
  pub always_gaps_law : Wrong ConstantVerdict always_gaps
  pub always_complete_law : Wrong ConstantVerdict always_complete
  pub stopped_complete_law : Wrong AlwaysComplete stopped_complete
  pub never_complete_law : Wrong NeverComplete never_complete
  pub idle_arrival : Wrong IdleArrival idle
  pub later_pretend_law : Wrong LaterPretend later_pretend
  pub invented_totals : Wrong InventedTotals uncounted
  pub try_echoes_law : Wrong TryEchoes try_echoes
  pub odd_tried_law : Wrong (λ M. OddRefused M TryFmt) odd_tried
  pub odd_set_law : Wrong (λ M. OddRefused M SFmt) odd_set
  pub left_raised_law : Wrong LeftRaised left_raised
  pub failed_counted_law : Wrong FailedCounted failed_counted
  pub stored_numbered_law : Wrong StoredNumbered stored_numbered
  pub youngest_first_law : Wrong YoungestFirst youngest_first
  pub soon_when_stopped_law : Wrong SoonWhenStopped soon_when_stopped
  pub never_soon_law : Wrong NeverSoon never_soon
  pub unknown_invalid_law : Wrong UnknownInvalid unknown_invalid
  pub tie_up_law : Wrong TieUp tie_up
  pub greatest_missed_law : Wrong GreatestMissed greatest_missed
  pub from_above_law : Wrong FromAbove from_above
  pub opening_left_out_law : Wrong FieldsMixed opening_left_out
  pub not_rounded_law : Wrong FieldsMixed not_rounded
  pub rounded_first_law : Wrong FieldsMixed rounded_first
  pub top_itself_law : Wrong FieldsMixed top_itself
  pub rounded_up_law : Wrong TopLowered rounded_up
  pub crop_forgotten_law : Wrong CropMoved crop_forgotten
  pub streams_mixed_law : Wrong StreamsMixed streams_mixed
  pub held_up_law : Wrong HeldUp held_up
  pub twice_taken_law : Wrong TwiceTaken twice_taken
  pub all_types_law : Wrong AllTypes all_types
  pub one_verdict_law : Wrong OneVerdict one_verdict
