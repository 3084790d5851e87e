-- The columns of a table of rows. Assumes nothing.
use mathlib.Core.Path.{◌≡◌}
use mathlib.Core.List.{List, [], ◌∷◌, map}
use Prim.Native.Nat.{ℕ, zero, suc, ◌<◌}
use native.Mathlib.Nat.{le_of_suc-le-suc, not-suc-le-zero}
use lib.ListN.{length, get_or, get_or-map}
use Rattle.ioctl_table.specs.Table.{argument_size, Known, known_words, nothing, row_at}
use Rattle.ioctl_table.specs.declared.table.Call.TheVariants.{Unknown}

-- two columns that are equal as whole lists, which antt computes, are equal in each row
pub at : {A B : Type 0} (f g : A → B) (d : A) (rows : List A) → map f rows ≡ map g rows
    → (k : ℕ) → k < length rows → f (get_or rows k d) ≡ g (get_or rows k d)
at f g d [] e k h = absurd (not-suc-le-zero h)
at f g d (x ∷ xs) e zero h = cc
at f g d (x ∷ xs) e (suc k) h = at f g d xs (cc) k (le_of_suc-le-suc h)

-- an entry of an array that holds a column is that field of the row
pub words : (k : ℕ) → get_or (map (λ (r : Known). r.word) known_words) k 0 ≡ (row_at k).word
words k = get_or-map (λ (r : Known). r.word) known_words k nothing

pub calls : (k : ℕ) → get_or (map (λ (r : Known). r.call) known_words) k Unknown ≡ (row_at k).call
calls k = get_or-map (λ (r : Known). r.call) known_words k nothing

pub sizes : (k : ℕ) → get_or (map (λ (r : Known). argument_size r.call) known_words) k 0 ≡ argument_size (row_at k).call
sizes k = get_or-map (λ (r : Known). argument_size r.call) known_words k nothing
