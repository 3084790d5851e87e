-- The data services of the sliced lines, and where the device offers them.
use Rattle.std.specs.Prelude.{ℕ, ◌+◌, ◌/◌, ◌%◌, Bool, cond, ◌&&◌, List, [], ◌∷◌, eqb, leb, ltb}
use Rattle.wire_read.specs.Lists.{tab}

-- A service: its bit in a set of services, the first and the last of its lines, and the fields that have them: 1 for the first field alone, 2 for both.
pub record Service : Type 0 where
  pub bit : ℕ
  pub first : ℕ
  pub last : ℕ
  pub fields : ℕ

-- Teletext B, on lines 7 to 22 of both fields
abbrev pub teletext_b : Service
teletext_b = record { bit = 0x0001; first = 7; last = 22; fields = 2 }

-- VPS, on line 16 of the first field
abbrev pub vps : Service
vps = record { bit = 0x0400; first = 16; last = 16; fields = 1 }

-- Caption 525, on line 21 of both fields
abbrev pub caption525 : Service
caption525 = record { bit = 0x1000; first = 21; last = 21; fields = 2 }

-- WSS 625, on line 23 of the first field
abbrev pub wss625 : Service
wss625 = record { bit = 0x4000; first = 23; last = 23; fields = 1 }

abbrev pub services : List Service
services = teletext_b ∷ vps ∷ caption525 ∷ wss625 ∷ []

-- of each of the four
abbrev pub Each : (Service → Type 0) → Type 0
Each P = P teletext_b × P vps × P caption525 × P wss625

-- ---- sets of services

-- a service is in a set if the set has its bit
unfoldable pub has : ℕ → ℕ → Bool
has set bit = eqb (set / bit % 2) 1

-- the bits of those that pass, added up
abbrev pub gathered : (Service → Bool) → List Service → ℕ
gathered p [] = 0
gathered p (s ∷ l) = cond (p s) s.bit 0 + gathered p l

-- the set of the services that pass
unfoldable pub set_of : (Service → Bool) → ℕ
set_of p = gathered p services

-- ---- where they are offered

-- a service is offered on its lines, in each of its fields; fields and lines count from 0
abbrev pub offers : Service → ℕ → ℕ → Bool
offers s field line = ltb field s.fields && (leb s.first line && leb line s.last)

-- what is offered at place k of the table of two fields of 24 lines: all that share a line
unfoldable pub offered_at : ℕ → ℕ
offered_at k = set_of (λ s. offers s (k / 24) (k % 24))

-- the whole table
unfoldable pub capability_lines : List ℕ
capability_lines = tab offered_at 48
