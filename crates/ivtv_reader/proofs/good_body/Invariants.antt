-- The invariant: the lines passed are good. Assumes nothing.
use mathlib.Core.Path.{◌≡◌}
use mathlib.Core.Bool.{true}
use Prim.Native.Nat.{ℕ, ◌+◌, ◌*◌, ◌≤◌}
use lib.ListN.{length, drop}
use Rattle.std.specs.Slice.Iter.{chunks_exact_rest, chunks_exact_size}
use Rattle.ivtv_rules.specs.Reading.{good_body}
use Rattle.ivtv_reader.proofs.good_body.Given as goal

abbrev pub invariant-loop-line : goal.invariant-loop-line
invariant-loop-line l =
    (goal.iterator-loop-line).can_next l.line-iterator
    × (goal.iterator-loop-line).is_finite l.line-iterator
    × (chunks_exact_size l.line-iterator ≡ 43)
    × (j : ℕ)
    × (l.start + 43 * j ≤ length l.block)
    × (chunks_exact_rest l.line-iterator ≡ drop (l.start + 43 * j) l.block)
    × (good_body l.block l.start j ≡ true)
