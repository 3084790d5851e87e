-- The invariant: what is left to store, stored now, gives what the function ensures. Assumes nothing.
use mathlib.Core.Path.{◌≡◌}
use Prim.Native.Nat.{◌+◌, ◌*◌}
use lib.ListN.{length, drop}
use lib.Seq.{sets}
use Rattle.wire_read.specs.Words.{bytes_of}
use Rattle.wire_store.proofs.store_all.Given as goal

abbrev pub invariant-loop-w : goal.invariant-loop-w
invariant-loop-w l = (l.k ≡ l.at + 4 * l.w-index) × (length l.dst ≡ length l.initial.dst) × (sets l.dst l.k (bytes_of (drop l.w-index l.ws)) ≡ sets l.initial.dst l.at (bytes_of l.ws))
