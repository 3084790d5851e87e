-- The invariant: what is left to store, stored now, gives what the function ensures. Assumes nothing.
use mathlib.Core.Path.{◌≡◌}
use Prim.Native.Nat.{◌+◌, ◌*◌}
use lib.ListN.{length, drop}
use lib.Seq.{sets}
use Rattle.service_replies.specs.Halves.{halves_of}
use Rattle.service_replies.proofs.told.put_lines.Given as goal

abbrev pub invariant-loop-k : goal.invariant-loop-k
invariant-loop-k l = (length l.dst ≡ length l.initial.dst) × (sets l.dst (l.at + 2 * l.k) (halves_of (drop l.k l.lines)) ≡ sets l.initial.dst l.at (halves_of l.lines))
