-- A buffer found in the line.
use Rattle.std.specs.Prelude.{◌≡◌, ℕ, ◌+◌, ◌≤◌, ◌<◌, List, get_or}
use Rattle.stream_words.specs.Words.{low, lined_in, index_in}

-- buffer k stands at i, and nowhere before; or i is the end of the line, and it stands nowhere
pub record FoundAt (w : List ℕ) (k i : ℕ) : Type 0 where
  pub within : i ≤ lined_in w
  pub before : (j : ℕ) → j < i → index_in w j ≡ k → ⊥
  pub here : i < lined_in w → index_in w i ≡ k

-- the same of the places of the ring from one to another
pub record FoundIn (w : List ℕ) (k from to p : ℕ) : Type 0 where
  pub behind : from ≤ p
  pub within : p ≤ to
  pub before : (q : ℕ) → from ≤ q → q < p → low (get_or w (16 + q) 0) ≡ k → ⊥
  pub here : p < to → low (get_or w (16 + p) 0) ≡ k
