-- The loop's invariant: what was found so far is whether one of the counts looked at so far is above 0. Assumes nothing.
use mathlib.Core.Path.{◌≡◌}
use mathlib.Core.Bool.{not}
use Prim.Native.Nat.{◌+◌}
use lib.Dec.{eqb}
use lib.ListN.{get_or}
use Rattle.wire_read.specs.Lists.{any, tab}
use Rattle.stream_maps.proofs.any_mapped.Given as goal

abbrev pub invariant-loop-k : goal.invariant-loop-k
invariant-loop-k l = l.found ≡ any (λ n. not (eqb n 0)) (tab (λ j. get_or l.s (176 + j) 0) l.k)
