-- The planes of a code in their order. Assumes nothing.
use Prim.Native.Nat.{ℕ, zero, suc}
use mathlib.Core.Path.{◌≡◌, refl}
use mathlib.Core.List.{List, [], ◌∷◌, ◌++◌}
use lib.ListN.{get_or}
use Rattle.plane_rules.specs.declared.Component.{Component}
use Rattle.plane_rules.specs.declared.Component.TheVariants.{Nothing}

-- behind the last plane there is nothing, said or unsaid
pub nothing_more : (cs : List Component) (k : ℕ) → get_or (cs ++ (Nothing ∷ [])) k Nothing ≡ get_or cs k Nothing
nothing_more [] zero = refl
nothing_more [] (suc k) = refl
nothing_more (c ∷ cs) zero = refl
nothing_more (c ∷ cs) (suc k) = nothing_more cs k
