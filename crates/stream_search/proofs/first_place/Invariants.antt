-- The loop's invariant: no place looked at so far is that of buffer k. Assumes nothing.
use mathlib.Core.Path.{◌≡◌}
use Prim.Native.Nat.{ℕ, ◌+◌, ◌≤◌, ◌<◌}
use lib.ListN.{get_or}
use Rattle.stream_words.specs.Words.{low}
use Rattle.stream_search.proofs.first_place.Given as goal

abbrev pub invariant-loop-p : goal.invariant-loop-p
invariant-loop-p l = (q : ℕ) → l.from ≤ q → q < l.p → low (get_or l.s (16 + q) 0) ≡ l.k → ⊥
