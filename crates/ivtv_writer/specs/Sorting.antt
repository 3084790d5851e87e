-- Records sorted by the bits of their lines.
use Rattle.std.specs.Prelude.{ℕ, ◌+◌, ◌*◌, ◌≤◌, ◌<◌, ◌≡◌, true, cond, not, List, [], eqb, length, get_or}
use Rattle.wire_read.specs.Lists.{tab}
use Rattle.ivtv_rules.specs.Block.{joined, mask_below}
use Rattle.ivtv_rules.specs.Writing.{naming, line_for}
use Rattle.ivtv_rules.specs.Reading.{bit_on}

-- What is kept of the first n records: the mask of the lines that they name, and at each bit which of them names its line.
pub record SortedBy (s : List ℕ) (n mask : ℕ) (places : List ℕ) : Type 0 where
  pub masked : mask ≡ mask_below 36 (λ k. not (eqb (naming s n k) 0))
  pub placed : places ≡ tab (naming s n) 36

-- the line of a bit that is set in the mask: that of the record that is kept there
abbrev pub kept_line : List ℕ → ℕ → List ℕ → ℕ → List ℕ
kept_line s mask places k = cond (bit_on mask k) (line_for s (get_or places k 0)) []

-- What storing the lines of a mask from a place on asks for: they all fit, the mask has 36 bits, and each of them has a record.
pub record Room (block : List ℕ) (start : ℕ) (s places : List ℕ) (mask : ℕ) : Type 0 where
  pub fits : start + length (joined (kept_line s mask places) 36) ≤ length block
  pub bits : mask < 68719476736
  pub named : (k : ℕ) → bit_on mask k ≡ true → 0 < get_or places k 0
  pub there : (k : ℕ) → 64 * get_or places k 0 ≤ length s
