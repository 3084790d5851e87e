-- The invariant: what is left to store, stored now, gives what the function ensures. The loop ends at the end of src, where
-- nothing is left, or at the end of dst, where nothing more is stored. Assumes nothing.
use mathlib.Core.Path.{◌≡◌}
use Prim.Native.Nat.{◌+◌, ◌≤◌, ◌-◌}
use lib.ListN.{length, drop}
use lib.Seq.{sets}
use Rattle.wire_copy.proofs.put_bytes.Given as goal

abbrev pub invariant-loop-k : goal.invariant-loop-k
invariant-loop-k l = (l.k ≤ l.n) × (length l.dst ≡ length l.initial.dst) × (sets l.dst (l.at + l.k) (drop l.k l.src) ≡ sets l.initial.dst l.at l.src)

abbrev pub decreases-loop-k : goal.decreases-loop-k
decreases-loop-k l = l.n - l.k
