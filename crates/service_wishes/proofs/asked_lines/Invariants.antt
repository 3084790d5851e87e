-- The invariant: the lines passed are those of the argument. Assumes nothing.
use mathlib.Core.Path.{◌≡◌}
use Prim.Native.Nat.{ℕ, ◌+◌, ◌*◌, ◌<◌}
use lib.ListN.{length, get_or}
use Rattle.service_replies.specs.Halves.{half_at}
use Rattle.service_wishes.proofs.asked_lines.Given as goal

abbrev pub invariant-loop-k : goal.invariant-loop-k
invariant-loop-k l = (length l.lines ≡ 48) × ((j : ℕ) → j < l.k → get_or l.lines j 0 ≡ half_at l.argument (6 + 2 * j))
