-- What stands in a record of a row. Assumes nothing.
use mathlib.Core.Path.{◌≡◌, ◌∙◌}
use mathlib.Core.List.{List}
use Prim.Native.Nat.{ℕ, ◌+◌, ◌*◌, ◌<◌}
use native.Mathlib.Nat.{add-zero, add_assoc}
use native.Mathlib.Omega.{arith}
use lib.ListN.{get_or}
use Rattle.wire_read.specs.Words.{word_at}
use Rattle.wire_read.proofs.Parts.{part_at_law}
use Rattle.wire_read.proofs.Words.{word_part}
use Rattle.ivtv_rules.specs.Writing.{record64}
use Rattle.claims_ivtv.specs.Told.{service_at, field_at, line_number_at, reserved_at, data_at}

module _ (s : List ℕ) (i : ℕ) where
  pub service_at_law : word_at (record64 s i) 0 ≡ service_at s i
  service_at_law = word_part s (64 * i) 64 0 (omega arith) ∙ rw (add-zero (64 * i))

  pub field_at_law : word_at (record64 s i) 4 ≡ field_at s i
  field_at_law = word_part s (64 * i) 64 4 (omega arith)

  pub line_at_law : word_at (record64 s i) 8 ≡ line_number_at s i
  line_at_law = word_part s (64 * i) 64 8 (omega arith)

  pub reserved_at_law : word_at (record64 s i) 12 ≡ reserved_at s i
  reserved_at_law = word_part s (64 * i) 64 12 (omega arith)

  pub data_at_law : (x : ℕ) → x < 48 → get_or (record64 s i) (16 + x) 0 ≡ data_at s i x
  data_at_law x h = part_at_law 64 s (64 * i) (16 + x) (omega arith) ∙ rw (add_assoc (64 * i) 16 x)
