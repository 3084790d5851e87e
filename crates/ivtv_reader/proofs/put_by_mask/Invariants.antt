-- The invariant: the records of the bits passed are stored, as many as are set among them. Assumes nothing.
use mathlib.Core.Path.{◌≡◌}
use Prim.Native.Nat.{◌-◌, ◌/◌, ◌^◌, ◌≤◌}
use lib.Seq.{sets}
use Rattle.ivtv_rules.specs.Block.{joined}
use Rattle.ivtv_rules.specs.Reading.{count_in}
use Rattle.ivtv_reader.specs.Stored.{record_in}
use Rattle.ivtv_reader.proofs.put_by_mask.Given as goal

abbrev pub invariant-loop-rest : goal.invariant-loop-rest
invariant-loop-rest l = (l.k ≤ 36) × (l.rest ≡ l.mask / 2 ^ l.k) × (l.j ≡ count_in l.mask l.k) × (l.lines ≡ sets l.initial.lines 0 (joined (record_in l.block l.start l.mask) l.k))

abbrev pub decreases-loop-rest : goal.decreases-loop-rest
decreases-loop-rest l = 36 - l.k
