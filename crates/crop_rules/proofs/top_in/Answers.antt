-- The place is not above the bounds' top, so their difference is its distance, and the odd line can be taken away. Assumes nothing.
use Prim.Native.Nat.{◌%◌}
use mathlib.Core.Path.{◌≡◌}
use mathlib.Core.Bool.{true}
use native.Mathlib.Omega.{arith}
use lib.IntN.{ℤ, pos, ◌+ℤ◌, ◌-ℤ◌}
use lib.Signed.{le_z}
use mir.Syntax.{w32, w64}
use mir.Val.{SFits, to_z, of_z}
use mir.Facts.{to_z-of_z, to_z_pos}
use Rattle.wire_signed.specs.Signed.{distance}
use Rattle.crop_rules.specs.Crop.{clamped_place, fields_apart}
use Rattle.crop_rules.proofs.Casts.{back, sub_fits, between, distance_fits}
use Rattle.crop_rules.proofs.Clamping.{clamp_from}
use Rattle.crop_rules.proofs.Fields.{gap_distance, odd_line, apart_last, apart_from}
use Rattle.crop_rules.proofs.top_in.Goals as goal

-- a place that is held is not above the bounds' top: the difference, through 64 bits, is the distance
reckoned : (start r : ℤ) → SFits w32 start → SFits w32 r → le_z start r ≡ true
    → to_z w64 (of_z w64 (to_z w64 (of_z w64 (to_z w32 (of_z w32 r))) -ℤ to_z w64 (of_z w64 (to_z w32 (of_z w32 start))))) ≡ pos (distance start r)
reckoned start r s h d = rw (back h, back s, to_z-of_z (sub_fits h s)) (gap_distance start r d)

-- the number taken away is 0 or 1
odd : (start r : ℤ) → to_z w32 (distance start r % 2) ≡ pos (distance start r % 2)
odd start r = to_z_pos w32 (omega arith)

-- what is left lies between the bounds' top and the place
apart_fits : (start r : ℤ) → SFits w32 start → SFits w32 r → le_z start r ≡ true → SFits w32 (fields_apart start r)
apart_fits start r s h d = between start (fields_apart start r) r (apart_from start r d) (apart_last start r d).up_to s h

-- the place that the call gave, as its definition says it of the numbers handed to it
placed : (start size long asked r : ℤ) → SFits w32 start → SFits w32 size → SFits w32 long → SFits w32 asked
    → r ≡ clamped_place (to_z w32 (of_z w32 start)) (to_z w32 (of_z w32 size)) (to_z w32 (of_z w32 long)) (to_z w32 (of_z w32 asked))
    → r ≡ clamped_place start size long asked
placed start size long asked r s z l a e = simp (to_z-of_z s, to_z-of_z z, to_z-of_z l, to_z-of_z a) at e

down : (start size long asked r : ℤ) → r ≡ clamped_place start size long asked → le_z start r ≡ true
unfolding clamped_place
down start size long asked r e = rw e (clamp_from start (start +ℤ (size -ℤ long)) asked)

pub overflow_cast-distance-3 : goal.overflow_cast-distance-3
overflow_cast-distance-3 c =
    let a = c.args in
    let f = c.ranges in
    let r = c.place_in-top.result in
    let held : SFits w32 r = record { sfits = c.place_in-top.type_inv } in
    let p = placed a.start a.size a.long a.asked r f.start f.size f.long f.asked c.place_in-top.ensures in
    let d = down a.start a.size a.long a.asked r p in
    rw (reckoned a.start r f.start held d) (tt, record { fits = distance_fits f.start held })

pub overflow_sub-result : goal.overflow_sub-result
overflow_sub-result c =
    let a = c.args in
    let f = c.ranges in
    let r = c.place_in-top.result in
    let held : SFits w32 r = record { sfits = c.place_in-top.type_inv } in
    let p = placed a.start a.size a.long a.asked r f.start f.size f.long f.asked c.place_in-top.ensures in
    let d = down a.start a.size a.long a.asked r p in
    rw (reckoned a.start r f.start held d, odd a.start r, to_z-of_z held, odd_line a.start r d) (apart_fits a.start r f.start held d)

pub returns : goal.returns
returns c =
    let a = c.args in
    let f = c.ranges in
    let r = c.place_in-top.result in
    let held : SFits w32 r = record { sfits = c.place_in-top.type_inv } in
    let p = placed a.start a.size a.long a.asked r f.start f.size f.long f.asked c.place_in-top.ensures in
    let d = down a.start a.size a.long a.asked r p in
    rw (reckoned a.start r f.start held d, odd a.start r, to_z-of_z held, odd_line a.start r d, to_z-of_z (apart_fits a.start r f.start held d), p)
