-- Opening: any bytes as the sheet, any length of each memory.
use Rattle.std.specs.Prelude.{ℕ, cond, not, List, ltb, replicate, Result, Ok, Err}
use Rattle.ioctl_table.specs.Refusal.{errno_of}
use Rattle.ioctl_table.specs.declared.refusals.Refusal.{Refusal}
use Rattle.ioctl_table.specs.declared.refusals.Refusal.TheVariants.{BadSheet, MemoryTooLong}
use Rattle.sheet_copy.specs.Copy.{kept_of}
use Rattle.sheet_rules.specs.Rules.{good_sheet}
use Rattle.device_state.specs.declared.Device.{Device}
use Rattle.device_state.specs.State.{State, state_in, closed_state, opening_state}
use Rattle.device_opening.specs.declared.RefusedOpening.{RefusedOpening}

-- a device as a whole: the sheet that it keeps, and its state
pub record Whole : Type 0 where
  pub sheet : List ℕ
  pub state : State

-- what an opening gives back, and the device after it
pub record Opened : Type 0 where
  pub number : ℕ
  pub device : Whole

-- the device that stands in these fields
abbrev pub whole_of : Device → Whole
whole_of d = record { sheet = d.sheet; state = state_in d.setup d.values d.services d.video d.captions }

-- the longest memory of a stream
abbrev pub longest_memory : ℕ
longest_memory = 1073741824

-- a refusal, and a closed device
unfoldable pub closed_by : Refusal → Opened
closed_by why = record { number = errno_of why; device = record { sheet = replicate 2688 0; state = closed_state } }

-- a device made, or a refusal
abbrev pub made_of : Result Device Refusal → Opened
made_of (Ok d) = record { number = 0; device = whole_of d }
made_of (Err why) = closed_by why

-- a device made, or a refusal and the device that it leaves
abbrev pub left_by : Result Device RefusedOpening → Opened
left_by (Ok d) = record { number = 0; device = whole_of d }
left_by (Err r) = record { number = errno_of r.why; device = whole_of r.device }

-- a good sheet, and at most 2 ^ 30 bytes of memory for pictures and as many for captions: a device with a copy of the sheet
unfoldable pub opened_of : List ℕ → ℕ → ℕ → Opened
opened_of s n m =
    cond (not (good_sheet s)) (closed_by BadSheet)
    (cond (ltb longest_memory n) (closed_by MemoryTooLong)
    (cond (ltb longest_memory m) (closed_by MemoryTooLong)
    (record { number = 0; device = record { sheet = kept_of s; state = opening_state (kept_of s) n m } })))
