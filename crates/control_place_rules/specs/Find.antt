-- Controls by their ids.
use Rattle.std.specs.Prelude.{ℕ, ◌-◌, min, cond, List, eqb, ltb, Option, Some, None}
use Rattle.sheet_contents.specs.Contents.{control_count}
use Rattle.sheet_records.specs.Records.{control_id}
use Rattle.control_place_rules.specs.First.{first_below}

-- how many controls there are, up to 32
unfoldable pub present : List ℕ → ℕ
present s = min (control_count s) 32

-- what a look-up answers: the place, where it is one of the controls'
unfoldable pub found_place : List ℕ → ℕ → Option ℕ
found_place s k = cond (ltb k (present s)) (Some k) None

-- the place of the control with the id, or how many there are
unfoldable pub place_of : List ℕ → ℕ → ℕ
place_of s id = first_below (λ k. eqb (control_id s k) id) (present s)

-- the place of the first control with a higher id
unfoldable pub place_above : List ℕ → ℕ → ℕ
place_above s id = first_below (λ k. ltb id (control_id s k)) (present s)

-- QUERYCTRL finds the id, or with bit 31 set the next higher one
unfoldable pub queried_place : List ℕ → ℕ → ℕ
queried_place s id = cond (ltb id 2147483648) (place_of s id) (place_above s (id - 2147483648))
