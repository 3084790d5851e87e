-- What the writer and the reader refuse, in the order of the request.
use Rattle.std.specs.Prelude.{ℕ, ◌+◌, ◌*◌, ◌-◌, ◌%◌, ◌^◌, ◌≤◌, ◌<◌, ◌≡◌, ◌⊎◌, false, List, length, get_or, take}
use Rattle.wire_read.specs.Words.{word_at}
use Rattle.caption_rules.specs.Caption.{is_service}
use Rattle.ivtv_rules.specs.Services.{service_of, payload_of}
use Rattle.ivtv_rules.specs.Block.{itv0, ITV0, block_length}
use Rattle.ivtv_rules.specs.Reading.{mask_in, start_in, count_in}
use Rattle.claims_ivtv.specs.Told.{record_count, service_at, field_at, line_number_at}

-- What is wrong with records that are to be packed into m bytes.
pub data LinesFlaw (s : List ℕ) (m : ℕ) : Type 0 where
  -- the id of a record is not exactly one of the four services
  other_service : (i : ℕ) → i < record_count s → is_service (service_at s i) ≡ false → LinesFlaw s m
  -- its field is above 1
  other_field : (i : ℕ) → i < record_count s → 1 < field_at s i → LinesFlaw s m
  -- its line is outside 6..23
  other_line : (i : ℕ) → i < record_count s → (line_number_at s i < 6) ⊎ (23 < line_number_at s i) → LinesFlaw s m
  -- two records name one line
  twice : (i j : ℕ) → i < j → j < record_count s → field_at s i ≡ field_at s j → line_number_at s i ≡ line_number_at s j → LinesFlaw s m
  -- a part of a record is left over
  part_record : (length s % 64 ≡ 0 → ⊥) → LinesFlaw s m
  -- the output has another length than the block
  other_length : (m ≡ block_length (record_count s) → ⊥) → LinesFlaw s m

-- the two words behind the opening, as one number
abbrev pub mask_words : List ℕ → ℕ
mask_words b = word_at b 4 + 4294967296 * word_at b 8

-- how many lines a block names; where line j begins, and its identifier
abbrev pub lines_named : List ℕ → ℕ
lines_named b = count_in (mask_in b) 36

abbrev pub line_start : List ℕ → ℕ → ℕ
line_start b j = start_in b + 43 * j

abbrev pub identifier_at : List ℕ → ℕ → ℕ
identifier_at b j = get_or b (line_start b j) 0

-- What is wrong with a block that is to be read into m bytes.
pub data BlockFlaw (b : List ℕ) (m : ℕ) : Type 0 where
  -- a byte of a line, of the 42 behind its identifier, lies beyond the payload and is not zero
  not_zeroed : (j x : ℕ) → j < lines_named b → payload_of (identifier_at b j) ≤ x → x < 42 → (get_or b (line_start b j + 1 + x) 0 ≡ 0 → ⊥) → BlockFlaw b m
  -- the block opens neither with itv0 nor with ITV0
  other_opening : (take 4 b ≡ itv0 → ⊥) → (take 4 b ≡ ITV0 → ⊥) → BlockFlaw b m
  -- no service has the identifier of a line
  other_identifier : (j : ℕ) → j < lines_named b → service_of (identifier_at b j) ≡ 0 → BlockFlaw b m
  -- behind itv0 a bit above 35 is set
  high_bit : take 4 b ≡ itv0 → 2 ^ 36 ≤ mask_words b → BlockFlaw b m
  -- behind itv0 all 36 are, and no other
  all_bits : take 4 b ≡ itv0 → mask_words b ≡ 2 ^ 36 - 1 → BlockFlaw b m
  -- the block has another length than its lines take
  other_length : (length b ≡ line_start b (lines_named b) → ⊥) → BlockFlaw b m
  -- the output has another length than the records
  other_room : (m ≡ 64 * lines_named b → ⊥) → BlockFlaw b m
