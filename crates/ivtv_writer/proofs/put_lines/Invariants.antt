-- The invariant: the lines of the bits passed are stored, and the next one goes behind them. Assumes nothing.
use mathlib.Core.Path.{◌≡◌}
use Prim.Native.Nat.{◌+◌, ◌-◌, ◌/◌, ◌^◌, ◌≤◌}
use lib.ListN.{length}
use lib.Seq.{sets}
use Rattle.ivtv_rules.specs.Block.{joined}
use Rattle.ivtv_writer.specs.Sorting.{kept_line}
use Rattle.ivtv_writer.proofs.put_lines.Given as goal

abbrev pub invariant-loop-rest : goal.invariant-loop-rest
invariant-loop-rest l = (l.k ≤ 36) × (l.rest ≡ l.mask / 2 ^ l.k) × (l.block ≡ sets l.initial.block l.start (joined (kept_line l.lines l.mask l.places) l.k)) × (l.at ≡ l.start + length (joined (kept_line l.lines l.mask l.places) l.k))

abbrev pub decreases-loop-rest : goal.decreases-loop-rest
decreases-loop-rest l = 36 - l.k
