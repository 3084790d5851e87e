-- The invariant: none of the controls passed is the one. Assumes nothing.
use Prim.Native.Nat.{ℕ, ◌<◌}
use mathlib.Core.Path.{◌≡◌}
use mathlib.Core.Bool.{false}
use lib.Dec.{ltb}
use Rattle.sheet_records.specs.Records.{control_id}
use Rattle.control_place_rules.proofs.place_above.Given as goal

abbrev pub invariant-loop-k : goal.invariant-loop-k
invariant-loop-k l = (j : ℕ) → j < l.k → ltb l.id (control_id l.s j) ≡ false
