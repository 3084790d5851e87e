-- What records and blocks say, told from their bytes.
use Rattle.std.specs.Prelude.{ℕ, ◌+◌, ◌*◌, ◌/◌, ◌≤◌, ◌<◌, ◌≡◌, List, length, get_or}
use Rattle.wire_read.specs.Words.{word_at}
use Rattle.ivtv_rules.specs.Services.{identifier_of, payload_of}
use Rattle.ivtv_rules.specs.Lines.{bit_of}

-- every element is a byte
abbrev pub Bytes : List ℕ → Type 0
Bytes l = (k : ℕ) → get_or l k 0 < 256

-- how many records there are
abbrev pub record_count : List ℕ → ℕ
record_count s = length s / 64

-- of record i: its service, field and line, the reserved word, and byte x of its 48
abbrev pub service_at : List ℕ → ℕ → ℕ
service_at s i = word_at s (64 * i)

abbrev pub field_at : List ℕ → ℕ → ℕ
field_at s i = word_at s (64 * i + 4)

abbrev pub line_number_at : List ℕ → ℕ → ℕ
line_number_at s i = word_at s (64 * i + 8)

abbrev pub reserved_at : List ℕ → ℕ → ℕ
reserved_at s i = word_at s (64 * i + 12)

abbrev pub data_at : List ℕ → ℕ → ℕ → ℕ
data_at s i x = get_or s (64 * i + 16 + x) 0

-- how many of the 48 are the payload of its service
abbrev pub payload_at : List ℕ → ℕ → ℕ
payload_at s i = payload_of (identifier_of (service_at s i))

-- record i of s and record j of t are the same line: what is reserved, or lies beyond the payload, does not count
pub record SameLine (s : List ℕ) (i : ℕ) (t : List ℕ) (j : ℕ) : Type 0 where
  pub service : service_at s i ≡ service_at t j
  pub field : field_at s i ≡ field_at t j
  pub line : line_number_at s i ≡ line_number_at t j
  pub payload : (x : ℕ) → x < payload_at s i → data_at s i x ≡ data_at t j x

-- the same lines, in whatever order: each of s is in t, and each of t in s
pub record SameLines (s t : List ℕ) : Type 0 where
  pub there : (i : ℕ) → i < record_count s → (j : ℕ) × (j < record_count t) × SameLine s i t j
  pub back : (j : ℕ) → j < record_count t → (i : ℕ) × (i < record_count s) × SameLine s i t j

-- records in the order of their bits, with the reserved word and all that lies beyond the payload zero
pub record Tidy (t : List ℕ) : Type 0 where
  pub rising : (i j : ℕ) → i < j → j < record_count t → bit_of (field_at t i) (line_number_at t i) < bit_of (field_at t j) (line_number_at t j)
  pub reserved : (i : ℕ) → i < record_count t → reserved_at t i ≡ 0
  pub zeroed : (i x : ℕ) → i < record_count t → payload_at t i ≤ x → x < 48 → data_at t i x ≡ 0
