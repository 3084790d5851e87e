-- The invariant: the records passed are good, and the lines that they name are marked. Assumes nothing.
use mathlib.Core.Path.{◌≡◌}
use mathlib.Core.Bool.{true}
use Prim.Native.Nat.{ℕ, ◌*◌, ◌≤◌}
use lib.ListN.{length, drop}
use Rattle.std.specs.Slice.Iter.{chunks_exact_rest, chunks_exact_size}
use Rattle.caption_rules.specs.Caption.{good_records}
use Rattle.caption_rules.proofs.Records.{Marks}
use Rattle.caption_rules.proofs.good_records.Given as goal

abbrev pub invariant-loop-record : goal.invariant-loop-record
invariant-loop-record l =
    (goal.iterator-loop-record).can_next l.record-iterator
    × (goal.iterator-loop-record).is_finite l.record-iterator
    × (chunks_exact_size l.record-iterator ≡ 64)
    × (length l.seen ≡ 48)
    × (i : ℕ)
    × (64 * i ≤ length l.frame)
    × (chunks_exact_rest l.record-iterator ≡ drop (64 * i) l.frame)
    × (good_records l.lines l.frame i ≡ true)
    × Marks l.frame i l.seen
