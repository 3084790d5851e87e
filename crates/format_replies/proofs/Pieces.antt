-- Answers stored piece by piece in the argument itself. Assumes nothing.
use Prim.Native.Nat.{ℕ, ◌+◌, ◌≤◌}
use mathlib.Core.Path.{◌≡◌, sym, ap, ◌∙◌}
use mathlib.Core.List.{List}
use native.Mathlib.Nat.{zero-add}
use lib.ListN.{length}
use lib.Seq.{sets, length-sets}
use Rattle.wire_read.proofs.Stores.{sets_within}

-- a piece stored in the argument, over the start of the answer there, is stored in the answer
piece : (z a p : List ℕ) (i : ℕ) → i + length p ≤ length z → sets (sets a 0 z) i p ≡ sets a 0 (sets z i p)
piece z a p i h = sym (sets_within p z a 0 i h ∙ rw (zero-add i))

-- two pieces, and three
module _ (z a p q : List ℕ) (i j : ℕ) (f : i + length p ≤ length z) (g : j + length q ≤ length z) where
  pub two_pieces : sets (sets (sets a 0 z) i p) j q ≡ sets a 0 (sets (sets z i p) j q)
  two_pieces = ap (λ (l : List ℕ). sets l j q) (piece z a p i f) ∙ piece (sets z i p) a q j (simp length-sets g)

  pub three_pieces : (r : List ℕ) (k : ℕ) → k + length r ≤ length z → sets (sets (sets (sets a 0 z) i p) j q) k r ≡ sets a 0 (sets (sets (sets z i p) j q) k r)
  three_pieces r k h = ap (λ (l : List ℕ). sets l k r) two_pieces ∙ piece (sets (sets z i p) j q) a r k (simp length-sets h)
