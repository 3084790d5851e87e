-- The fields of a sheet's formats and controls, each over the sheet's bytes.
use Rattle.std.specs.Prelude.{List, ℕ, ◌+◌, take, drop}
use Rattle.wire_read.specs.Words.{word_at}
use Rattle.wire_signed.specs.Signed.{signed_at}
use Rattle.sheet_records.specs.declared.Limits.{Limits}
use Rattle.sheet_records.specs.declared.Control.{Control}
use Rattle.sheet_contents.specs.Contents.{format_at, control_at}

unfoldable pub format_code : List ℕ → ℕ → ℕ
format_code s k = word_at s (format_at s k)

unfoldable pub format_description : List ℕ → ℕ → List ℕ
format_description s k = take 32 (drop (format_at s k + 4) s)

unfoldable pub control_id : List ℕ → ℕ → ℕ
control_id s k = word_at s (control_at s k)

unfoldable pub control_kind : List ℕ → ℕ → ℕ
control_kind s k = word_at s (control_at s k + 4)

unfoldable pub control_name : List ℕ → ℕ → List ℕ
control_name s k = take 32 (drop (control_at s k + 8) s)

-- the four numbers of the control that starts at a place
abbrev pub limits_at : List ℕ → ℕ → Limits
limits_at s at =
    record {
      minimum = signed_at s (at + 40);
      maximum = signed_at s (at + 44);
      step = signed_at s (at + 48);
      initial = signed_at s (at + 52);
    }

unfoldable pub limits_of : List ℕ → ℕ → Limits
limits_of s k = limits_at s (control_at s k)

unfoldable pub control_flags : List ℕ → ℕ → ℕ
control_flags s k = word_at s (control_at s k + 56)

unfoldable pub control_fields : List ℕ → ℕ → Control
control_fields s k =
    record {
      id = control_id s k;
      kind = control_kind s k;
      flags = control_flags s k;
      limits = limits_of s k;
    }

unfoldable pub control_record : List ℕ → ℕ → List ℕ
control_record s k = take 68 (drop (control_at s k) s)
