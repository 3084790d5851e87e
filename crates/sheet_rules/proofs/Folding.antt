-- Tests gathered by a loop, one more at each turn, and what a passed test of all says of each. Assumes nothing.
use Prim.Native.Nat.{ℕ, ◌+◌, ◌≤◌, ◌<◌}
use mathlib.Core.Path.{◌≡◌, sym, ◌∙◌}
use mathlib.Core.Bool.{Bool, true, false, ◌&&◌, ◌||◌}
use lib.ListN.{length, get_or}
use Rattle.std.specs.Bool.{MatchBool}
use Rattle.std.specs.List.{AllWithin, HoldsAt, range_with_len}
use Rattle.std.proofs.lemmas.List.FromFn.{length-range_with_len, get_or-range_with_len}
use native.Mathlib.Omega.{arith}
use native.Mathlib.Numerals.{add-one}
use Rattle.sheet_rules.specs.Folds.{all_below, any_below}
use Rattle.sheet_rules.proofs.Truth.{all_of, all_not}

-- a turn leads to the bound at most
pub turn : {k n : ℕ} → k < n → k + 1 ≤ n
turn h = omega arith

pub all_more : (n : ℕ) (p : ℕ → Bool) → all_below (n + 1) p ≡ (all_below n p && p n)
unfolding all_below
all_more n p = rw add-one

pub any_more : (n : ℕ) (p : ℕ → Bool) → any_below (n + 1) p ≡ (any_below n p || p n)
unfolding any_below
any_more n p = rw add-one

-- ---- what a chain over the numbers below a bound says

in_range : (n k : ℕ) → k < n → get_or (range_with_len 0 n) k 0 ≡ k
in_range n k l = let q : 0 + k ≡ k = omega arith in get_or-range_with_len 0 n k 0 l ∙ q

-- `all` over them
pub all_told : (n : ℕ) (p : ℕ → Bool) (r : Bool)
    → MatchBool r (AllWithin (λ k. p k ≡ true) (range_with_len 0 n) 0 (length (range_with_len 0 n))) ((k : ℕ) × (k < length (range_with_len 0 n)) × HoldsAt (λ k. p k ≡ false) (range_with_len 0 n) k)
    → r ≡ all_below n p
all_told n p true h =
    sym (all_of n p (λ k l. rw (← in_range n k l) (h k 0 (omega arith) (rw (length-range_with_len 0 n) l))))
all_told n p false h =
    let (k, l, e) = h in
    let m = rw (length-range_with_len 0 n) at l in
    let f = e 0 in
    sym (all_not n p k m (rw (in_range n k m) at f))
