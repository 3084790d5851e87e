-- 64 bits hold the last place, and the call does the rest. Assumes nothing.
use mir.Facts.{to_z-of_z}
use Rattle.wire_signed.proofs.Integers.{again}
use Rattle.crop_rules.specs.Crop.{clamped_place}
use Rattle.crop_rules.proofs.Casts.{widen, back, sub_fits, add_sub_fits}
use Rattle.crop_rules.proofs.place_in.Goals as goal

pub returns : goal.returns
unfolding clamped_place
returns c =
    let f = c.ranges in
    let s = to_z-of_z f.start in
    let wide = to_z-of_z (widen f.start) in
    let rest = to_z-of_z (sub_fits f.size f.long) in
    let last = to_z-of_z (add_sub_fits f.start f.size f.long) in
    rw (again c.nearest.result c.nearest.type_inv)
    (simp (s, wide, back f.size, back f.long, rest, last, to_z-of_z f.asked) at c.nearest.ensures)
