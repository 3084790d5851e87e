-- That the demands leave no room.
use Rattle.std.specs.Prelude.{◌≡◌}
use Rattle.claims.specs.Machine.{Machine}
use Rattle.claims_together.specs.Meets.{Meets}

-- NO ROOM: any two machines that meet the demands are one and the same. For every sheet, memory and list of calls they give the same number
-- at opening, the same answer to every call, leave the same in what they are lent, and have the same memory, verdict, counts and planes
abbrev pub NoRoom : Type 0
NoRoom = (M N : Machine) → Meets M → Meets N → M ≡ N
