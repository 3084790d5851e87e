-- Faults that a machine can have. Each is said of any machine whatever, by what it gives back; none that has it meets the demands.
use Rattle.std.specs.Prelude.{ℕ, suc, ◌+◌, ◌-◌, ◌/◌, ◌%◌, ◌≤◌, ◌<◌, ◌≡◌, ◌≢◌, true, false, List, [], ◌∷◌, ◌++◌, length, pos}
use Rattle.std.specs.Int.Signed.{le_z, lt_z}
use Rattle.wire_read.specs.Words.{word_at, bytes_of}
use Rattle.wire_signed.specs.Signed.{signed_at, distance}
use Rattle.ioctl_table.specs.Table.{request_of}
use Rattle.ioctl_table.specs.declared.table.Call.{Call as Asked}
use Rattle.ioctl_table.specs.declared.table.Call.TheVariants.{Unknown, SFmt, TryFmt, Reqbufs, Qbuf, Dqbuf, GCrop, SCrop}
use Rattle.sheet_geometry.specs.Geometry.{widths_of}
use Rattle.sheet_rules.specs.Rules.{default_ok}
use Rattle.grid_rules.specs.Grid.{apart, size_at}
use Rattle.crop_calls.specs.Crops.{asked_crop}
use Rattle.stream_words.specs.Stream.{Run}
use Rattle.stream_arrival.specs.declared.Arrival.TheVariants.{Stored}
use Rattle.caption_rules.specs.Caption.{place_at}
use Rattle.stream_verdict.specs.declared.Verdict.{Verdict}
use Rattle.stream_verdict.specs.declared.Verdict.TheVariants.{Complete}
use Rattle.claims.specs.Calls.{Kind, type_of, Call}
use Rattle.claims.specs.Calls.Call.{request, arrival}
use Rattle.claims.specs.Machine.{Machine, more}
use Rattle.claims.specs.Words.{paper_in}
use Rattle.claims.specs.Table.{arrival_number}
use Rattle.claims_together.specs.Waiting.{Starts, Ends, InForce}
use Rattle.claims_together.specs.Sizes.{Negotiates}
use Rattle.claims_together.specs.Crops.{CropTold, crop_in, bounds_in, SetsNoCrop}
use Rattle.claims_together.specs.Meets.{Meets}

-- the argument of S_CROP with left 0 for its left
abbrev pub left_zero : List ℕ → List ℕ
left_zero a = bytes_of (word_at a 0 ∷ 0 ∷ word_at a 8 ∷ word_at a 12 ∷ word_at a 16 ∷ [])

module _ (M : Machine) where
  -- every opening is refused
  abbrev pub NeverOpens : Type 0
  NeverOpens = (s : List ℕ) (m : Kind → List ℕ) → (M s m).opening ≢ 0

  -- every request is refused, whatever the opening said
  abbrev pub AllRefusing : Type 0
  AllRefusing = (s : List ℕ) (m : Kind → List ℕ) (cs : List Call) (w : ℕ) (a : List ℕ) → ((M s m).request cs w a).number ≢ 0

  -- a buffer request never grants any
  abbrev pub GrantsNone : Type 0
  GrantsNone = (s : List ℕ) (m : Kind → List ℕ) (cs : List Call) (w : ℕ) (a : List ℕ) → (request_of w).call ≡ Reqbufs → word_at ((M s m).request cs w a).argument 0 ≡ 0

  -- a buffer request tells a count, and the last of those buffers of the same stream is not there
  abbrev pub GrantsFewer : Type 0
  GrantsFewer = (s : List ℕ) (m : Kind → List ℕ) (cs : List Call) (w : ℕ) (a : List ℕ) (v : ℕ) (b : List ℕ) → (request_of w).call ≡ Reqbufs → (request_of v).call ≡ Qbuf → word_at b 4 ≡ word_at a 4
      → word_at ((M s m).request cs w a).argument 0 ≡ suc (word_at b 0) → ((M s m).request (more cs (request w a)) v b).number ≢ 0

  -- the verdict on the pictures is always the same one
  abbrev pub ConstantVerdict : Type 0
  ConstantVerdict = (v : Verdict) × ((s : List ℕ) (m : Kind → List ℕ) (cs : List Call) → (M s m).verdict cs 1 ≡ v)

  -- every film of one of the streams that is not running is COMPLETE
  abbrev pub AlwaysComplete : Type 0
  AlwaysComplete = (k : Kind) × ((s : List ℕ) (m : Kind → List ℕ) (cs : List Call) → (paper_in s (M s m) k cs).running ≡ false → (M s m).verdict cs (type_of k) ≡ Complete)

  -- no film of pictures is ever COMPLETE
  abbrev pub NeverComplete : Type 0
  NeverComplete = (s : List ℕ) (m : Kind → List ℕ) (cs : List Call) → (M s m).verdict cs 1 ≢ Complete

  -- an arrival of a picture writes nothing
  abbrev pub IdleArrival : Type 0
  IdleArrival = (s : List ℕ) (m : Kind → List ℕ) (cs : List Call) (f : List ℕ) (x y : ℕ) (other : List ℕ) → (M s m).memory Kind.pictures (more cs (arrival 1 f x y other)) ≡ (M s m).memory Kind.pictures cs

  -- the first stored picture may write what it likes, and later ones only pretend
  abbrev pub LaterPretend : Type 0
  LaterPretend = (s : List ℕ) (m : Kind → List ℕ) (cs : List Call) (f : List ℕ) (x y : ℕ) (other : List ℕ) (k n : ℕ) (ds : List Call) (g : List ℕ) (u v : ℕ) (lent : List ℕ)
      → (M s m).arrival cs 1 f x y other ≡ Stored k n
      → (M s m).memory Kind.pictures (more (cs ++ arrival 1 f x y other ∷ ds) (arrival 1 g u v lent)) ≡ (M s m).memory Kind.pictures (cs ++ arrival 1 f x y other ∷ ds)

  -- the counts of the pictures are always the same ones
  abbrev pub InventedTotals : Type 0
  InventedTotals = (r : Run) × ((s : List ℕ) (m : Kind → List ℕ) (cs : List Call) → (M s m).counts Kind.pictures cs ≡ r)

  -- TRY_FMT of pictures returns its question
  abbrev pub TryEchoes : Type 0
  TryEchoes = (s : List ℕ) (m : Kind → List ℕ) (cs : List Call) (t : ℕ) (a : List ℕ) → (request_of t).call ≡ TryFmt → word_at a 0 ≡ 1 → ((M s m).request cs t a).argument ≡ a

  -- an odd width that the grid does not have is refused, by TRY_FMT or by S_FMT
  abbrev pub OddRefused : Asked → Type 0
  OddRefused call = (s : List ℕ) (m : Kind → List ℕ) (cs : List Call) (w : ℕ) (a : List ℕ) → (request_of w).call ≡ call → word_at a 0 ≡ 1 → word_at a 4 % 2 ≡ 1
      → ((k : ℕ) → word_at a 4 ≢ size_at (widths_of s) k) → ((M s m).request cs w a).number ≢ 0

  -- a negative left is raised to zero: G_CROP tells what it would tell if S_CROP had been asked left 0
  abbrev pub LeftRaised : Type 0
  LeftRaised = (s : List ℕ) (m : Kind → List ℕ) (cs : List Call) (w : ℕ) (a : List ℕ) (v : ℕ) (b : List ℕ) → (request_of w).call ≡ SCrop → (request_of v).call ≡ GCrop
      → lt_z (signed_at a 4) (pos 0) ≡ true → (M s m).request (more cs (request w a)) v b ≡ (M s m).request (more cs (request w (left_zero a))) v b

  -- some refused DQBUF moves the counts of a stream
  abbrev pub FailedCounted : Type 0
  FailedCounted = (s : List ℕ) × (m : Kind → List ℕ) × (k : Kind) × (cs : List Call) × (w : ℕ) × (a : List ℕ) × ((request_of w).call ≡ Dqbuf)
      × (((M s m).request cs w a).number ≢ 0) × ((M s m).counts k (more cs (request w a)) ≢ (M s m).counts k cs)

  -- only stored pictures are numbered: damaged and dropped ones do not count
  abbrev pub StoredNumbered : Type 0
  StoredNumbered = (s : List ℕ) (m : Kind → List ℕ) (cs : List Call) (f : List ℕ) (x y : ℕ) (other : List ℕ) (k n : ℕ) → (M s m).arrival cs 1 f x y other ≡ Stored k n
      → n ≡ ((M s m).counts Kind.pictures cs).accepted - (((M s m).counts Kind.pictures cs).damaged + ((M s m).counts Kind.pictures cs).dropped)

  -- the youngest outgoing buffer is handed over first: a DQBUF right behind a stored picture answers the buffer of that one
  abbrev pub YoungestFirst : Type 0
  YoungestFirst = (s : List ℕ) (m : Kind → List ℕ) (cs : List Call) (f : List ℕ) (x y : ℕ) (other : List ℕ) (k n w : ℕ) (a : List ℕ) → (M s m).arrival cs 1 f x y other ≡ Stored k n
      → (request_of w).call ≡ Dqbuf → word_at a 4 ≡ 1 → ((M s m).request (more cs (arrival 1 f x y other)) w a).number ≡ 0
      → word_at ((M s m).request (more cs (arrival 1 f x y other)) w a).argument 0 ≡ k

  -- some DQBUF is answered 11 though the run of its stream was ended and none begun since: who reads that as "soon" polls for ever
  abbrev pub SoonWhenStopped : Type 0
  SoonWhenStopped = (s : List ℕ) × (m : Kind → List ℕ) × (k : Kind) × (cs : List Call) × (w : ℕ) × (a : List ℕ) × InForce (M s m) k Ends Starts cs × ((request_of w).call ≡ Dqbuf)
      × (word_at a 4 ≡ type_of k)
      × (((M s m).request cs w a).number ≡ 11)

  -- no DQBUF is ever answered 11: an idle device passes for a stopped one
  abbrev pub NeverSoon : Type 0
  NeverSoon = (s : List ℕ) (m : Kind → List ℕ) (cs : List Call) (w : ℕ) (a : List ℕ) → (request_of w).call ≡ Dqbuf → ((M s m).request cs w a).number ≢ 11

  -- an unknown word gives 22, like a known one with a wrong argument
  abbrev pub UnknownInvalid : Type 0
  UnknownInvalid = (s : List ℕ) (m : Kind → List ℕ) (cs : List Call) (w : ℕ) (a : List ℕ) → (request_of w).call ≡ Unknown → ((M s m).request cs w a).number ≡ 22

  -- ---- of sizes

  -- a TRY_FMT or S_FMT of pictures that is accepted
  abbrev pub Negotiated : List ℕ → (Kind → List ℕ) → List Call → ℕ → List ℕ → Type 0
  Negotiated s m cs w a = Negotiates (request_of w).call × (word_at a 0 ≡ 1) × (((M s m).request cs w a).number ≡ 0)

  -- some is answered with the greater of two widths that are as near
  abbrev pub TieUp : Type 0
  TieUp = (s : List ℕ) × (m : Kind → List ℕ) × (cs : List Call) × (w : ℕ) × (a : List ℕ) × (k : ℕ) × Negotiated s m cs w a
      × (size_at (widths_of s) k < word_at ((M s m).request cs w a).argument 4) × (word_at ((M s m).request cs w a).argument 4 ≤ (widths_of s).greatest)
      × (apart (word_at ((M s m).request cs w a).argument 4) (word_at a 4) ≡ apart (size_at (widths_of s) k) (word_at a 4))

  -- some asks for the greatest width and is answered with less
  abbrev pub GreatestMissed : Type 0
  GreatestMissed = (s : List ℕ) × (m : Kind → List ℕ) × (cs : List Call) × (w : ℕ) × (a : List ℕ) × Negotiated s m cs w a
      × (word_at a 4 ≡ (widths_of s).greatest) × (word_at ((M s m).request cs w a).argument 4 < (widths_of s).greatest)

  -- some is answered with the next width above the one asked, though one below it is nearer
  abbrev pub FromAbove : Type 0
  FromAbove = (s : List ℕ) × (m : Kind → List ℕ) × (cs : List Call) × (w : ℕ) × (a : List ℕ) × (k : ℕ) × Negotiated s m cs w a
      × (size_at (widths_of s) k ≤ word_at a 4) × (word_at a 4 ≤ word_at ((M s m).request cs w a).argument 4) × (word_at ((M s m).request cs w a).argument 4 ≤ (widths_of s).greatest)
      × (apart (size_at (widths_of s) k) (word_at a 4) < apart (word_at ((M s m).request cs w a).argument 4) (word_at a 4))

  -- ---- of the crop

  -- some G_CROP tells a top at an odd distance from the top of the bounds that CROPCAP tells
  abbrev pub FieldsMixed : Type 0
  FieldsMixed = (s : List ℕ) × (m : Kind → List ℕ) × (cs : List Call) × (t : CropTold (M s m) cs) × (distance (bounds_in (M s m) cs t).top (crop_in (M s m) cs t).top % 2 ≡ 1)

  -- some S_CROP asks for a rectangle inside those bounds, and G_CROP then tells a top further down
  abbrev pub TopLowered : Type 0
  TopLowered = (s : List ℕ) × (m : Kind → List ℕ) × (cs : List Call) × (w : ℕ) × (a : List ℕ) × ((request_of w).call ≡ SCrop) × (((M s m).request cs w a).number ≡ 0)
      × (t : CropTold (M s m) (more cs (request w a)))
      × (default_ok (bounds_in (M s m) (more cs (request w a)) t) (asked_crop a) ≡ true) × (le_z (crop_in (M s m) (more cs (request w a)) t).top (asked_crop a).top ≡ false)

  -- some call that is no accepted S_CROP changes what G_CROP tells
  abbrev pub CropMoved : Type 0
  CropMoved = (s : List ℕ) × (m : Kind → List ℕ) × (cs : List Call) × (c : Call) × SetsNoCrop (M s m) cs c × (t : CropTold (M s m) cs) × (u : CropTold (M s m) (more cs c))
      × (crop_in (M s m) (more cs c) u ≢ crop_in (M s m) cs t)

  -- ---- of two streams

  -- some QBUF of captions puts its index among the pictures: one of pictures was accepted before it, and is not behind it
  abbrev pub StreamsMixed : Type 0
  StreamsMixed = (s : List ℕ) × (m : Kind → List ℕ) × (cs : List Call) × (w : ℕ) × (a : List ℕ) × (v : ℕ) × (b : List ℕ)
      × ((request_of w).call ≡ Qbuf) × (word_at a 4 ≡ 6) × ((request_of v).call ≡ Qbuf) × (word_at b 4 ≡ 1)
      × (((M s m).request cs v b).number ≡ 0) × (((M s m).request (more cs (request w a)) v b).number ≢ 0)

  -- some S_FMT of captions is refused with 16 though they have no buffers
  abbrev pub HeldUp : Type 0
  HeldUp = (s : List ℕ) × (m : Kind → List ℕ) × (cs : List Call) × (w : ℕ) × (a : List ℕ) × ((request_of w).call ≡ SFmt) × (word_at a 0 ≡ 6)
      × ((paper_in s (M s m) Kind.captions cs).granted ≡ 0) × (((M s m).request cs w a).number ≡ 16)

  -- some caption frame is stored in which two records name the same line of the same field
  abbrev pub TwiceTaken : Type 0
  TwiceTaken = (s : List ℕ) × (m : Kind → List ℕ) × (cs : List Call) × (f : List ℕ) × (x : ℕ) × (y : ℕ) × (other : List ℕ) × (i : ℕ) × (j : ℕ) × (k : ℕ) × (n : ℕ)
      × (i < j) × (j < length f / 64) × (place_at f i ≡ place_at f j) × ((M s m).arrival cs 6 f x y other ≡ Stored k n)

  -- some arrival is accepted that is of another type than the streams have
  abbrev pub AllTypes : Type 0
  AllTypes = (s : List ℕ) × (m : Kind → List ℕ) × (cs : List Call) × (t : ℕ) × (f : List ℕ) × (x : ℕ) × (y : ℕ) × (other : List ℕ)
      × (t ≢ 1) × (t ≢ 6) × (arrival_number ((M s m).arrival cs t f x y other) ≡ 0)

  -- one verdict is told for both
  abbrev pub OneVerdict : Type 0
  OneVerdict = (s : List ℕ) (m : Kind → List ℕ) (cs : List Call) → (M s m).verdict cs 1 ≡ (M s m).verdict cs 6

-- a fault that no machine has which meets the demands
abbrev pub Out : (Machine → Type 0) → Type 0
Out Fault = (M : Machine) → Fault M → Meets M → ⊥

pub record ShutOut : Type 0 where
  pub never_opens_law : Out NeverOpens
  pub all_refusing_law : Out AllRefusing
  pub grants_none_law : Out GrantsNone
  pub grants_fewer_law : Out GrantsFewer
  pub constant_verdict : Out ConstantVerdict
  pub always_complete_law : Out AlwaysComplete
  pub never_complete_law : Out NeverComplete
  pub idle_arrival : Out IdleArrival
  pub later_pretend_law : Out LaterPretend
  pub invented_totals : Out InventedTotals
  pub try_echoes_law : Out TryEchoes
  pub odd_tried_law : Out (λ M. OddRefused M TryFmt)
  pub odd_set_law : Out (λ M. OddRefused M SFmt)
  pub left_raised_law : Out LeftRaised
  pub failed_counted_law : Out FailedCounted
  pub stored_numbered_law : Out StoredNumbered
  pub youngest_first_law : Out YoungestFirst
  pub soon_when_stopped_law : Out SoonWhenStopped
  pub never_soon_law : Out NeverSoon
  pub unknown_invalid_law : Out UnknownInvalid
  pub tie_up_law : Out TieUp
  pub greatest_missed_law : Out GreatestMissed
  pub from_above_law : Out FromAbove
  pub fields_mixed : Out FieldsMixed
  pub top_lowered : Out TopLowered
  pub crop_moved : Out CropMoved
  pub streams_mixed_law : Out StreamsMixed
  pub held_up_law : Out HeldUp
  pub twice_taken_law : Out TwiceTaken
  pub all_types_law : Out AllTypes
  pub one_verdict_law : Out OneVerdict
