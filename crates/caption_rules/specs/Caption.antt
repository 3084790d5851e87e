-- When a frame of the caption lines is whole.
use Rattle.std.specs.Prelude.{ℕ, ◌+◌, ◌*◌, ◌/◌, ◌%◌, ◌<◌, ◌≡◌, Bool, true, false, cond, not, ◌&&◌, List, eqb, ltb, length, get_or}
use Rattle.wire_read.specs.Words.{word_at}
use Rattle.stream_words.specs.declared.Time.{Time}
use Rattle.wire_read.specs.Lists.{any}
use Rattle.sheet_rules.specs.Folds.{all_below, any_below}
use Rattle.picture_rules.specs.Picture.{in_second}
use Rattle.service_rules.specs.Services.{services, has}

-- a number is the bit of one service: 0 is not, nor is one with two bits
abbrev pub is_service : ℕ → Bool
is_service id = any (λ s. eqb id s.bit) services

-- where the line of a record stands in the table of two fields of 24 lines; 48, behind its end, where the field is not 0 or 1 or the line not below 24
abbrev pub place_of : ℕ → ℕ → ℕ
place_of field line = cond (ltb field 2 && ltb line 24) (24 * field + line) 48

-- record i of a frame has 64 bytes: its service, field and line first
abbrev pub id_at : List ℕ → ℕ → ℕ
id_at f i = word_at f (64 * i)

abbrev pub place_at : List ℕ → ℕ → ℕ
place_at f i = place_of (word_at f (64 * i + 4)) (word_at f (64 * i + 8))

-- it is of a service that was negotiated for its line
unfoldable pub negotiated_at : List ℕ → List ℕ → ℕ → Bool
negotiated_at lines f i = ltb (place_at f i) 48 && (is_service (id_at f i) && has (get_or lines (place_at f i) 0) (id_at f i))

-- the first n records name this line of this field
unfoldable pub seen_before : List ℕ → ℕ → ℕ → Bool
seen_before f n place = any_below n (λ j. eqb (place_at f j) place)

-- every record is negotiated, and no line of a field comes twice
unfoldable pub good_records : List ℕ → List ℕ → ℕ → Bool
good_records lines f n = all_below n (λ i. negotiated_at lines f i && not (seen_before f i (place_at f i)))

-- not damaged: microseconds in 0..999,999, whole records of 64 bytes, all of them good. A frame with no record is whole.
unfoldable pub whole_caption : List ℕ → List ℕ → Time → Bool
whole_caption lines f t = cond (in_second t.microseconds) (cond (eqb (length f % 64) 0) (good_records lines f (length f / 64)) false) false

-- the same rule, said of each record
pub record Whole (lines f : List ℕ) (t : Time) : Type 0 where
  -- the microseconds are in 0..999,999
  pub timely : in_second t.microseconds ≡ true
  -- no part of a record is left over
  pub even : length f % 64 ≡ 0
  -- each record is of a service that was negotiated for its line
  pub negotiated : (i : ℕ) → i < length f / 64 → negotiated_at lines f i ≡ true
  -- no two records name the same line of the same field
  pub distinct : (i j : ℕ) → i < j → j < length f / 64 → place_at f i ≡ place_at f j → ⊥
