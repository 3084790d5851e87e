-- The call of a word among rows, one row at a time. Assumes nothing.
use mathlib.Core.Path.{◌≡◌, refl}
use mathlib.Core.Logic.{◌⊎◌, inl, inr, ⊎_map}
use mathlib.Core.Bool.{Bool, true, false}
use mathlib.Core.List.{List, [], ◌∷◌}
use Prim.Native.Nat.{ℕ, suc, ◌+◌, ◌<◌}
use native.Mathlib.Numerals.{add-one}
use native.Mathlib.Omega.{arith}
use borrow.Author.Tests.{eq-eqb, ne_eqb, eqb-true}
use lib.Dec.{eqb}
use lib.ListN.{length, get_or, drop}
use lib.Seq.{drop-cons}
use Rattle.ioctl_table.specs.Table.{Known, nothing, call_among}
use Rattle.ioctl_table.specs.declared.table.Call.TheVariants.{Unknown}

module _ (w : ℕ) (rows : List Known) (i : ℕ) (h : i < length rows) where
  -- the row at i has the word: its call is the one
  pub call_here : (get_or rows i nothing).word ≡ w → call_among w (drop i rows) ≡ (get_or rows i nothing).call
  call_here e = rw (drop-cons rows i nothing h, eq-eqb _ _ e)

  -- it has another word: the rows after it decide
  pub call_later : ((get_or rows i nothing).word ≡ w → ⊥) → call_among w (drop i rows) ≡ call_among w (drop (i + 1) rows)
  call_later n = rw (add-one i, drop-cons rows i nothing h, ne_eqb _ _ n)

-- one of the rows has the word
abbrev pub Listed : ℕ → List Known → Type 0
Listed w rows = (k : ℕ) × (k < length rows) × ((get_or rows k nothing).word ≡ w)

-- one row more in front
one_more_law : (w : ℕ) (r : Known) (rows : List Known) (t : Bool) → eqb r.word w ≡ t
    → (call_among w rows ≡ Unknown) ⊎ Listed w rows → (call_among w (r ∷ rows) ≡ Unknown) ⊎ Listed w (r ∷ rows)
one_more_law w r rows true e p = inr (0, omega arith, eqb-true _ _ e)
one_more_law w r rows false e p = ⊎_map (λ u. rw e u) (λ q. (suc q.0, omega (arith, q.1), q.2)) p

-- a word that no row has is unknown
pub unknown_or_listed : (w : ℕ) (rows : List Known) → (call_among w rows ≡ Unknown) ⊎ Listed w rows
unknown_or_listed w [] = inl refl
unknown_or_listed w (r ∷ rows) = one_more_law w r rows (eqb r.word w) refl (unknown_or_listed w rows)
