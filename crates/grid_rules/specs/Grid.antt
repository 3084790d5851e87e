-- Sizes, and values of a control, that go up by a step: the nearest to the one asked, by arithmetic and by a walk of the grid.
use Rattle.std.specs.Prelude.{ℕ, suc, ◌+◌, ◌-◌, ◌*◌, ◌/◌, min, not, List, ltb, ℤ, pos, ◌+ℤ◌, ◌-ℤ◌}
use Rattle.wire_read.specs.Lists.{tab, any, first}
use Rattle.wire_signed.specs.Signed.{above, distance}
use Rattle.sheet_geometry.specs.declared.Range.{Range}
use Rattle.sheet_records.specs.declared.Limits.{Limits}

-- ---- by arithmetic

-- the multiple of step nearest to d, the smaller on a tie: d and just under half a step, cut down to whole steps; 0 if step is 0
unfoldable pub nearest_multiple : ℕ → ℕ → ℕ
nearest_multiple step d = (d + (step - 1) / 2) / step * step

-- the same of 0, step, 2 step, .. top alone
unfoldable pub nearest_up_to : ℕ → ℕ → ℕ → ℕ
nearest_up_to top step d = min (nearest_multiple step d) top

-- the allowed size nearest to the one asked, the smaller on a tie
unfoldable pub nearest_size : Range → ℕ → ℕ
nearest_size r asked = r.least + nearest_up_to (r.greatest - r.least) r.step (asked - r.least)

-- the value of a control's grid nearest to v, the one nearer the minimum on a tie; above 0 reads a number below zero as 0
unfoldable pub nearest_value : Limits → ℤ → ℤ
nearest_value l v = l.minimum +ℤ pos (nearest_up_to (above 0 (l.maximum -ℤ l.minimum)) (above 0 l.step) (above 0 (v -ℤ l.minimum)))

-- ---- by a walk

-- how far apart two numbers are
unfoldable pub apart : ℕ → ℕ → ℕ
apart a b = (a - b) + (b - a)

-- the first of a list that no other beats: one beats another by being less far; z of an empty list
unfoldable pub first_unbeaten : {A : Type 0} → (A → ℕ) → A → List A → A
first_unbeaten far z all = first (λ x. not (any (λ y. ltb (far y) (far x)) all)) z all

-- the size k steps up
abbrev pub size_at : Range → ℕ → ℕ
size_at r k = r.least + k * r.step

-- the value k steps up
abbrev pub value_at : Limits → ℕ → ℤ
value_at l k = l.minimum +ℤ pos (k * above 0 l.step)

-- the whole grid of sizes: least, least + step, .. greatest
unfoldable pub sizes_of : Range → List ℕ
sizes_of r = tab (size_at r) (suc ((r.greatest - r.least) / r.step))

-- the whole grid of values: minimum, minimum + step, .. maximum
unfoldable pub values_of : Limits → List ℤ
values_of l = tab (value_at l) (suc (above 0 (l.maximum -ℤ l.minimum) / above 0 l.step))

-- the size nearest to the one asked, found by a walk of the whole grid
unfoldable pub walk_sizes : Range → ℕ → ℕ
walk_sizes r asked = first_unbeaten (λ x. apart x asked) r.least (sizes_of r)

-- the value nearest to v, found by a walk of the whole grid
unfoldable pub walk_values : Limits → ℤ → ℤ
walk_values l v = first_unbeaten (λ x. distance x v) l.minimum (values_of l)
