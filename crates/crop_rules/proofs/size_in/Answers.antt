-- The size of the bounds is cast, and the call does the rest. Assumes nothing.
use mir.Facts.{to_z-of_z}
use Rattle.wire_signed.proofs.Integers.{again}
use Rattle.crop_rules.specs.Crop.{size_in}
use Rattle.crop_rules.proofs.Casts.{back}
use Rattle.crop_rules.proofs.size_in.Goals as goal

pub returns : goal.returns
unfolding size_in
returns c =
    let f = c.ranges in
    rw (again c.nearest.result c.nearest.type_inv) (simp (back f.size, to_z-of_z f.asked) at c.nearest.ensures)
