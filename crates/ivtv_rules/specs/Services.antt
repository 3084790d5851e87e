-- The services in a block: how a line names its service, and how many bytes of payload a service has.
use Rattle.std.specs.Prelude.{ℕ, Bool, cond, List, [], ◌∷◌, eqb}
use Rattle.service_rules.specs.Services.{Service, teletext_b, vps, caption525, wss625}

-- A service in a block: its bit, by which a record names it; its identifier, by which a line of a block does; the bytes of its payload.
pub record Packing : Type 0 where
  pub service : ℕ
  pub identifier : ℕ
  pub payload : ℕ

abbrev pub packing : Service → ℕ → ℕ → Packing
packing s i n = record { service = s.bit; identifier = i; payload = n }

-- 001's line identifiers, and the payloads of its service table
abbrev pub packings : List Packing
packings = packing teletext_b 1 42 ∷ packing caption525 4 2 ∷ packing wss625 5 2 ∷ packing vps 7 13 ∷ []

-- what the first row that passes has in a column, 0 where none does
abbrev pub column : (Packing → Bool) → (Packing → ℕ) → List Packing → ℕ
column p f [] = 0
column p f (r ∷ rows) = cond (p r) (f r) (column p f rows)

-- the identifier of a service, 0 where the number is not exactly one of the four
unfoldable pub identifier_of : ℕ → ℕ
identifier_of s = column (λ r. eqb s r.service) (λ r. r.identifier) packings

-- the service of an identifier, 0 where no service has it
unfoldable pub service_of : ℕ → ℕ
service_of i = column (λ r. eqb i r.identifier) (λ r. r.service) packings

-- how many bytes of payload the service of an identifier has
unfoldable pub payload_of : ℕ → ℕ
payload_of i = column (λ r. eqb i r.identifier) (λ r. r.payload) packings
