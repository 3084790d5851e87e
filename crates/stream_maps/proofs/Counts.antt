-- What holds of map counts, for upper layers to cite. Assumes nothing.
use mathlib.Core.Path.{◌≡◌, refl}
use mathlib.Core.Bool.{Bool, true, false, cond, not, true≢false, false≢true}
use Prim.Native.Nat.{ℕ, zero, suc, ◌<◌}
use native.Mathlib.Omega.{arith}
use borrow.Author.Tests.{eqb-true, eqb-false}
use mathlib.Core.List.{List, [], ◌∷◌}
use lib.Dec.{eqb}
use lib.ListN.{length}
use lib.Seq.{get_or-set_same, get_or-set_other}
use Rattle.wire_read.specs.Lists.{any}
use Rattle.stream_maps.specs.declared.Change.{Change}
use Rattle.stream_maps.specs.Maps.{no_maps, maps_of, any_mapped, turned, moved}

-- where none is mapped every count is 0
pub none_mapped : (m : List ℕ) → any_mapped m ≡ false → (k : ℕ) → maps_of m k ≡ 0
unfolding any_mapped any
none_mapped [] h k = refl
none_mapped (n ∷ m) h k = by (eqb n 0) refl h k (λ f j. none_mapped m f j)
  where
    by : (b : Bool) → eqb n 0 ≡ b → cond (not b) true (any (λ n. not (eqb n 0)) m) ≡ false → (k : ℕ) → (any_mapped m ≡ false → (j : ℕ) → maps_of m j ≡ 0) → maps_of (n ∷ m) k ≡ 0
    by true e f zero r = eqb-true n 0 e
    by true e f (suc k) r = r f k
    by false e f k r = absurd (true≢false f)

-- and where one is not 0, one is mapped
pub some_mapped : (m : List ℕ) (k : ℕ) → 0 < maps_of m k → any_mapped m ≡ true
some_mapped m k h = by (any_mapped m) refl
  where
    by : (b : Bool) → any_mapped m ≡ b → b ≡ true
    by true e = refl
    by false e = absurd (omega (arith, none_mapped m e k))

-- one that is can be named
pub mapped_one : (m : List ℕ) → any_mapped m ≡ true → (k : ℕ) × (0 < maps_of m k)
unfolding any_mapped any
mapped_one [] h = absurd (false≢true h)
mapped_one (n ∷ m) h = by (eqb n 0) refl h (λ f. mapped_one m f)
  where
    by : (b : Bool) → eqb n 0 ≡ b → cond (not b) true (any (λ n. not (eqb n 0)) m) ≡ true → (any_mapped m ≡ true → (k : ℕ) × (0 < maps_of m k)) → (k : ℕ) × (0 < maps_of (n ∷ m) k)
    by true e f r = let (k, some) = r f in (suc k, some)
    by false e f r = (0, omega (arith, eqb-false n 0 e))

-- at opening nothing is
pub opening_unmapped : any_mapped no_maps ≡ false
unfolding any_mapped any no_maps
opening_unmapped = refl

-- and there are 32 counts
pub none_long : length no_maps ≡ 32
unfolding no_maps
none_long = refl

-- a change is one of its own count, and of no other
module _ (c : Change) (m : List ℕ) (k : ℕ) where
  pub moved_here : k < length m → maps_of (moved c m k) k ≡ turned c (maps_of m k)
  moved_here h = get_or-set_same m k (turned c (maps_of m k)) 0 h

  pub moved_other : (j : ℕ) → (j ≡ k → ⊥) → maps_of (moved c m k) j ≡ maps_of m j
  moved_other j e = get_or-set_other m k j (turned c (maps_of m k)) 0 e
