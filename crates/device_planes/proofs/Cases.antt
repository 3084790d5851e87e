-- What the definitions of specs/ say in each case.
use Prim.Native.Nat.{ℕ}
use mathlib.Core.List.{List}
use mathlib.Core.Path.{◌≡◌}
use borrow.Author.Tests.{eq-eqb, ne_eqb}
use Rattle.ioctl_table.specs.Refusal.{errno_of}
use Rattle.ioctl_table.specs.declared.refusals.Refusal.TheVariants.{Closed}
use Rattle.sheet_geometry.specs.Geometry.{line_alignment}
use Rattle.plane_rules.specs.declared.Place.{Place}
use Rattle.plane_rules.specs.Planes.{plane_of}
use Rattle.device_state.specs.State.{State}
use Rattle.device_planes.specs.Planes.{device_place}

-- a closed device has no planes
pub plane_closed : (d : State) (h : d.ready ≡ 0) (s : List ℕ) (n k : ℕ) {e : ℕ} → e ≡ errno_of Closed → record { number = e; start = 0; length = 0 } ≡ device_place s d n k
unfolding device_place
plane_closed d h s n k q = rw (eq-eqb d.ready 0 h, q)

-- an open one those of its format; a and p are what the code was told
pub plane_open : (d : State) (h : d.ready ≡ 0 → ⊥) (s : List ℕ) (n k : ℕ) {a : ℕ} {p : Place} → a ≡ line_alignment s → p ≡ plane_of d.format a n k → p ≡ device_place s d n k
unfolding device_place
plane_open d h s n k e q = rw (ne_eqb d.ready 0 h, q, e)
