-- The invariant: the bytes passed are zero exactly if the flag is set. Assumes nothing.
use mathlib.Core.Path.{◌≡◌}
use Prim.Native.Nat.{◌+◌}
use lib.Dec.{eqb}
use lib.ListN.{get_or}
use Rattle.sheet_rules.specs.Folds.{all_below}
use Rattle.ivtv_lines.proofs.zero_from.Given as goal

abbrev pub invariant-loop-byte : goal.invariant-loop-byte
invariant-loop-byte l = l.clean ≡ all_below l.byte-index (λ i. eqb (get_or l.line (1 + l.used + i) 0) 0)
