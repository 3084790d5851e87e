-- The invariant: the lines passed are those of the answer. Assumes nothing.
use mathlib.Core.Path.{◌≡◌}
use Prim.Native.Nat.{ℕ, ◌<◌}
use lib.ListN.{length, get_or}
use Rattle.service_rules.specs.Negotiation.{fitting_at}
use Rattle.service_rules.proofs.lines.negotiate.Given as goal

abbrev pub invariant-loop-k : goal.invariant-loop-k
invariant-loop-k l = (length l.lines ≡ 48) × ((j : ℕ) → j < l.k → get_or l.lines j 0 ≡ fitting_at l.set l.asked j)
