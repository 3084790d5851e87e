-- The values of controls: at opening, read, and set.
use Rattle.std.specs.Prelude.{ℕ, zero, suc, ◌+◌, ◌/◌, ◌%◌, cond, List, eqb, leb, get_or, set, replicate, Result, Ok, Err}
use Rattle.std.specs.Int.Signed.{lt_z}
use Rattle.wire_read.specs.Words.{word_at}
use Rattle.wire_signed.specs.Signed.{signed, bits}
use Rattle.sheet_contents.specs.Contents.{control_at}
use Rattle.sheet_records.specs.Records.{control_fields}
use Rattle.sheet_records.specs.declared.Control.{Control}
use Rattle.sheet_records.specs.declared.Limits.{Limits}
use Rattle.grid_rules.specs.Grid.{nearest_value}
use Rattle.ioctl_table.specs.declared.refusals.Refusal.{Refusal}
use Rattle.ioctl_table.specs.declared.refusals.Refusal.TheVariants.{NoSuchControl, ControlDisabled, ControlReadOnly, ControlIsButton, ControlGrabbed, OutOfRange}
use Rattle.control_value_rules.specs.declared.Setting.{Setting}
use Rattle.control_value_rules.specs.declared.Setting.TheVariants.{Stored, Pressed}
use Rattle.control_place_rules.specs.Find.{present, place_of}

-- 32 values: the defaults of the first n controls, the others 0
unfoldable pub default_values : List ℕ → ℕ → List ℕ
default_values s zero = replicate 32 0
default_values s (suc n) = set (default_values s n) n (word_at s (control_at s n + 52))

-- the values at opening
unfoldable pub opening_values : List ℕ → List ℕ
opening_values s = default_values s (present s)

-- what reading control c, whose value is v, answers: not a disabled one, not a button
unfoldable pub reading_at : Control → ℕ → Result ℕ Refusal
reading_at c v =
    cond (eqb (c.flags % 2) 1) (Err ControlDisabled)
    (cond (eqb c.kind 4) (Err ControlIsButton) (Ok v))

-- what reading the control with an id answers
unfoldable pub reading : List ℕ → List ℕ → ℕ → Result ℕ Refusal
reading s values id =
    cond (leb (present s) (place_of s id)) (Err NoSuchControl) (reading_at (control_fields s (place_of s id)) (get_or values (place_of s id) 0))

-- a value within minimum..maximum goes to the nearest of the grid
unfoldable pub ranged_at : Limits → ℕ → ℕ → Result Setting Refusal
ranged_at l k w =
    cond (lt_z (signed w) l.minimum) (Err OutOfRange)
    (cond (lt_z l.maximum (signed w)) (Err OutOfRange) (Ok (Stored k (bits (nearest_value l (signed w))))))

-- what setting control c at place k does, checked in this order: disabled, read-only, grabbed; a button ignores the value; then the range
unfoldable pub setting_at : Control → ℕ → ℕ → Result Setting Refusal
setting_at c k w =
    cond (eqb (c.flags % 2) 1) (Err ControlDisabled)
    (cond (eqb (c.flags / 4 % 2) 1) (Err ControlReadOnly)
    (cond (eqb (c.flags / 2 % 2) 1) (Err ControlGrabbed)
    (cond (eqb c.kind 4) (Ok Pressed) (ranged_at c.limits k w))))

-- what setting the control with an id does
unfoldable pub setting_of : List ℕ → ℕ → ℕ → Result Setting Refusal
setting_of s id w = cond (leb (present s) (place_of s id)) (Err NoSuchControl) (setting_at (control_fields s (place_of s id)) (place_of s id) w)
