-- The planes of a picture, by the format in force. A closed device has none.
use Rattle.std.specs.Prelude.{ℕ, cond, List, eqb, length}
use Rattle.ioctl_table.specs.declared.refusals.Refusal.TheVariants.{Closed}
use Rattle.sheet_geometry.specs.Geometry.{line_alignment}
use Rattle.plane_rules.specs.declared.Place.{Place}
use Rattle.plane_rules.specs.Planes.{no_place, plane_of, part_at}
use Rattle.device_state.specs.State.{State}

-- where plane k of a frame of n bytes lies
unfoldable pub device_place : List ℕ → State → ℕ → ℕ → Place
device_place s d n k = cond (eqb d.ready 0) (no_place Closed) (plane_of d.format (line_alignment s) n k)

-- the part of a frame that is its plane k
abbrev pub device_plane : List ℕ → State → List ℕ → ℕ → List ℕ
device_plane s d f k = part_at (device_place s d (length f) k) f
