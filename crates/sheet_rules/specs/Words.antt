-- The four numbers of a control from their words.
use Rattle.std.specs.Prelude.{ℕ}
use Rattle.wire_signed.specs.Signed.{signed}
use Rattle.sheet_records.specs.declared.Limits.{Limits}

-- minimum, maximum, step and default
abbrev pub limits_of_words : ℕ → ℕ → ℕ → ℕ → Limits
limits_of_words lo hi by d = record { minimum = signed lo; maximum = signed hi; step = signed by; initial = signed d }
