-- The records that are stored for a mask.
use Rattle.std.specs.Prelude.{ℕ, ◌+◌, ◌*◌, ◌≤◌, ◌<◌, cond, List, [], length}
use Rattle.ivtv_rules.specs.Lines.{record_of}
use Rattle.ivtv_rules.specs.Reading.{bit_on, count_in, line_at}

-- the record of a bit that is set in the mask: the next line from a place on
abbrev pub record_in : List ℕ → ℕ → ℕ → ℕ → List ℕ
record_in b start mask k = cond (bit_on mask k) (record_of k (line_at b start (count_in mask k))) []

-- What storing the records of a mask asks for: the lines that it names are there, their records fit, and it has 36 bits.
pub record Room (lines b : List ℕ) (start mask : ℕ) : Type 0 where
  pub there : start + 43 * count_in mask 36 ≤ length b
  pub fits : 64 * count_in mask 36 ≤ length lines
  pub low : start ≤ 12
  pub bits : mask < 68719476736
