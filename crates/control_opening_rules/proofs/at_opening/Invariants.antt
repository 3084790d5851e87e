-- The invariant: the values so far are those of the controls passed. Assumes nothing.
use mathlib.Core.Path.{◌≡◌}
use Prim.Native.Nat.{◌≤◌}
use lib.ListN.{length}
use Rattle.control_value_rules.specs.Values.{default_values}
use Rattle.control_opening_rules.proofs.at_opening.Given as goal

abbrev pub invariant-loop-k : goal.invariant-loop-k
invariant-loop-k l = (l.k-end ≤ 32) × (length l.values ≡ 32) × (l.values ≡ default_values l.s l.k)
