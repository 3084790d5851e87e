-- The bytes of answers about controls, field by field in the order of the header.
use Rattle.std.specs.Prelude.{ℕ, List, [], ◌∷◌}
use Rattle.wire_read.specs.Words.{bytes_of}
use Rattle.sheet_records.specs.Records.{control_record}

-- QUERYCTRL: the 68 bytes of the sheet, which are laid out alike
unfoldable pub control_reply : List ℕ → ℕ → List ℕ
control_reply s k = control_record s k

-- G_CTRL, S_CTRL: id, value
unfoldable pub value_reply : ℕ → ℕ → List ℕ
value_reply id value = bytes_of (id ∷ value ∷ [])
