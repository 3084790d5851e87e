-- What setting a control stores: a value of its grid, none nearer. Assumes nothing.
use Prim.Native.Nat.{ℕ, ◌≤◌}
use mathlib.Core.Path.{◌≡◌}
use Rattle.wire_signed.specs.Signed.{signed, distance}
use Rattle.sheet_records.specs.declared.Limits.{Limits}
use Rattle.sheet_rules.proofs.Facts.{Grid}
use Rattle.grid_rules.specs.Grid.{nearest_value, value_at}
use Rattle.grid_rules.proofs.Values.{value_on_grid, value_nearest}

-- the value that is stored and shown, for any word asked: on the grid, and none of the grid is nearer
pub stored_on_grid : (l : Limits) (g : Grid l) (w : ℕ) → (k : ℕ) × (k ≤ g.steps) × (nearest_value l (signed w) ≡ value_at l k)
stored_on_grid l g w = value_on_grid l g.steps g.stride g.whole (signed w)

pub stored_nearest : (l : Limits) (g : Grid l) (w k : ℕ) → k ≤ g.steps → distance (nearest_value l (signed w)) (signed w) ≤ distance (value_at l k) (signed w)
stored_nearest l g w k h = value_nearest l g.steps g.stride g.whole (signed w) k h
