-- The invariant: n counts the lines passed that carry something. Assumes nothing.
use mathlib.Core.Path.{◌≡◌}
use mathlib.Core.Bool.{not}
use Prim.Native.Nat.{◌≤◌}
use lib.Dec.{eqb}
use lib.ListN.{get_or}
use Rattle.service_rules.specs.Negotiation.{count_below}
use Rattle.service_sizes.proofs.io_size.Given as goal

abbrev pub invariant-loop-line : goal.invariant-loop-line
invariant-loop-line l = (l.n ≤ l.line-index) × (l.n ≡ count_below l.line-index (λ j. not (eqb (get_or l.lines j 0) 0)))
