-- Faults that a machine can have. Each is said of any machine whatever, by what it gives back; none that has it meets the claims.
use Rattle.std.specs.Prelude.{ℕ, ◌+◌, ◌-◌, ◌^◌, ◌≤◌, ◌<◌, ◌≡◌, ◌≢◌, ◌⊎◌, List, [], ◌++◌, length, get_or, take, drop, replicate}
use Rattle.ivtv_rules.specs.Services.{payload_of}
use Rattle.ivtv_rules.specs.Lines.{line_of}
use Rattle.ivtv_rules.specs.Block.{itv0}
use Rattle.ivtv_rules.specs.Writing.{record64}
use Rattle.claims_ivtv.specs.Told.{record_count, field_at, line_number_at}
use Rattle.claims_ivtv.specs.Flaws.{mask_words, lines_named, line_start, identifier_at}
use Rattle.claims_ivtv.specs.Packer.{Packer}
use Rattle.claims_ivtv.specs.Meets.{Meets}

-- a block has a byte that is not zero beyond the payload of a line
abbrev pub Beyond : List ℕ → Type 0
Beyond b = (j : ℕ) × (x : ℕ) × (j < lines_named b) × (payload_of (identifier_at b j) ≤ x) × (x < 42) × (get_or b (line_start b j + 1 + x) 0 ≢ 0)

module _ (P : Packer) where
  -- all records are refused
  abbrev pub NeverPacks : Type 0
  NeverPacks = (s o : List ℕ) → (P.pack s o).number ≢ 0

  -- every block is refused
  abbrev pub NeverUnpacks : Type 0
  NeverUnpacks = (b o : List ℕ) → (P.unpack b o).number ≢ 0

  -- lines are written in the order given: of two records the first comes first, whatever lines they name
  abbrev pub GivenOrder : Type 0
  GivenOrder = (s o : List ℕ) → record_count s ≡ 2 → (P.pack s o).number ≡ 0 → take 43 (drop 12 (P.pack s o).output) ≡ line_of (record64 s 0)

  -- some block that is written keeps a byte beyond the payload of a line
  abbrev pub KeepsBeyond : Type 0
  KeepsBeyond = (s : List ℕ) × (o : List ℕ) × ((P.pack s o).number ≡ 0) × Beyond (P.pack s o).output

  -- some records are packed of which two name one line
  abbrev pub TakesTwice : Type 0
  TakesTwice = (s : List ℕ) × (o : List ℕ) × (i : ℕ) × (j : ℕ) × (i < j) × (j < record_count s) × (field_at s i ≡ field_at s j) × (line_number_at s i ≡ line_number_at s j)
      × ((P.pack s o).number ≡ 0)

  -- some call refuses, and its output is not as it was
  abbrev pub SpoilsOutput : Type 0
  SpoilsOutput = (s : List ℕ) × (o : List ℕ) × ((((P.pack s o).number ≢ 0) × ((P.pack s o).output ≢ o)) ⊎ (((P.unpack s o).number ≢ 0) × ((P.unpack s o).output ≢ o)))

  -- some block is read that has fill bytes behind its lines
  abbrev pub TakesFill : Type 0
  TakesFill = (b : List ℕ) × (o : List ℕ) × (line_start b (lines_named b) < length b) × ((P.unpack b o).number ≡ 0)

  -- some block is read that opens with itv0 and names all 36 lines: these have two blocks then
  abbrev pub TakesAllSmall : Type 0
  TakesAllSmall = (b : List ℕ) × (o : List ℕ) × (take 4 b ≡ itv0) × (mask_words b ≡ 2 ^ 36 - 1) × ((P.unpack b o).number ≡ 0)

  -- some block is read with a byte beyond the payload of a line
  abbrev pub OverlooksBeyond : Type 0
  OverlooksBeyond = (b : List ℕ) × (o : List ℕ) × Beyond b × ((P.unpack b o).number ≡ 0)

-- a fault that no machine has which meets the claims
abbrev pub Out : (Packer → Type 0) → Type 0
Out Fault = (P : Packer) → Fault P → Meets P → ⊥

pub record ShutOut : Type 0 where
  pub never_packs : Out NeverPacks
  pub never_unpacks : Out NeverUnpacks
  pub given_order : Out GivenOrder
  pub keeps_beyond : Out KeepsBeyond
  pub takes_twice : Out TakesTwice
  pub spoils_output : Out SpoilsOutput
  pub takes_fill : Out TakesFill
  pub takes_all_small : Out TakesAllSmall
  pub overlooks_beyond : Out OverlooksBeyond

-- ---- a machine for each fault, so that none of them is an empty worry

-- it refuses everything
abbrev pub refuses_all : Packer
refuses_all = record { pack = λ s o. record { number = 22; output = o }; unpack = λ b o. record { number = 22; output = o } }

-- it takes everything, and leaves its output as it was
abbrev pub takes_all : Packer
takes_all = record { pack = λ s o. record { number = 0; output = o }; unpack = λ b o. record { number = 0; output = o } }

-- it writes the first record first
abbrev pub first_first : Packer
first_first = record { pack = λ s o. record { number = 0; output = replicate 12 0 ++ line_of (record64 s 0) }; unpack = λ b o. record { number = 22; output = o } }

-- it clears its output where it refuses
abbrev pub clears_output : Packer
clears_output = record { pack = λ s o. record { number = 22; output = [] }; unpack = λ b o. record { number = 22; output = [] } }

pub record WrongPackers : Type 0 where
  pub never_packs : NeverPacks refuses_all
  pub never_unpacks : NeverUnpacks refuses_all
  pub given_order : GivenOrder first_first
  pub keeps_beyond : KeepsBeyond takes_all
  pub takes_twice : TakesTwice takes_all
  pub spoils_output : SpoilsOutput clears_output
  pub takes_fill : TakesFill takes_all
  pub takes_all_small : TakesAllSmall takes_all
  pub overlooks_beyond : OverlooksBeyond takes_all
