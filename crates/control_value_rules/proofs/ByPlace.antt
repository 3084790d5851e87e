-- What is decided of a control that is looked up by its id, from what the look-up answers. Assumes nothing.
use Prim.Native.Nat.{ℕ, ◌<◌}
use mathlib.Core.Path.{◌≡◌, refl, sym, ap, ◌∙◌}
use mathlib.Core.Bool.{cond}
use mathlib.Core.List.{List}
use borrow.Author.Tests.{le-leb, lt-leb}
use lib.Dec.{leb}
use Rattle.std.specs.Prelude.{Option, Some, None, Result, Err, ok_or}
use Rattle.std.specs.Result.{result_err}
use Rattle.std.proofs.lemmas.Option.{same_Some, none-some}
use Rattle.ioctl_table.specs.declared.refusals.Refusal.{Refusal}
use Rattle.ioctl_table.specs.declared.refusals.Refusal.TheVariants.{NoSuchControl}
use Rattle.control_place_rules.specs.Find.{present, found_place, place_of}
use Rattle.control_place_rules.proofs.Found.{found_some, found_none}

-- what ok_or refuses is None, and its reason is the one given
refused : (o : Option ℕ) (d why : Refusal) → ok_or o d ≡ Err why → (o ≡ None) × (d ≡ why)
refused None d why e = (refl, same_Some d why (ap result_err e))
refused (Some k) d why e = absurd (none-some why (ap result_err e))

module _ (s : List ℕ) (id : ℕ) {o : Option ℕ} (p : o ≡ found_place s (place_of s id)) where
  -- the place found is that of a control
  pub place_found : (k : ℕ) → o ≡ Some k → (place_of s id ≡ k) × (place_of s id < present s)
  place_found k e = found_some s (place_of s id) k (sym p ∙ e)

  module _ {X : Type 0} (found : ℕ → Result X Refusal) where
    -- a control that is found decides
    pub by_place : (k : ℕ) → o ≡ Some k → found k ≡ cond (leb (present s) (place_of s id)) (Err NoSuchControl) (found (place_of s id))
    by_place k e =
        let (h, l) = place_found k e in
        rw (lt-leb (present s) (place_of s id) l) (ap found (sym h))

    -- none found is refused
    pub by_none : (why : Refusal) → ok_or o NoSuchControl ≡ Err why → Err why ≡ cond (leb (present s) (place_of s id)) (Err NoSuchControl) (found (place_of s id))
    by_none why e =
        let (h, w) = refused o NoSuchControl why e in
        let l = found_none s (place_of s id) (sym p ∙ h) in
        rw (le-leb (present s) (place_of s id) l) (ap Err (sym w))
