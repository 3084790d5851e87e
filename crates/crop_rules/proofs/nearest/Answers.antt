-- Each of the four ways is one of the definition's; the tests speak of the numbers once the bits are taken away. Assumes nothing.
use mir.Facts.{to_z-of_z}
use Rattle.crop_rules.specs.Crop.{min_z, max_z, clamp_z}
use Rattle.crop_rules.proofs.Casts.{back, between}
use Rattle.crop_rules.proofs.Counts.{le_turned}
use Rattle.crop_rules.proofs.nearest.Goals as goal

pub returns-then-low-asked : goal.returns-then-low-asked
unfolding clamp_z min_z max_z
returns-then-low-asked c =
    let f = c.ranges in
    let p = simp (back f.asked, to_z-of_z f.high) at c.if-asked-high.true in
    let q = simp (to_z-of_z f.low, to_z-of_z f.asked) at c.if-low-asked.true in
    simp (to_z-of_z f.asked, p, q)

pub returns-else-low-asked : goal.returns-else-low-asked
unfolding clamp_z min_z max_z
returns-else-low-asked c =
    let f = c.ranges in
    let p = simp (back f.asked, to_z-of_z f.high) at c.if-asked-high.true in
    let q = simp (to_z-of_z f.low, to_z-of_z f.asked) at c.if-low-asked.false in
    simp (to_z-of_z f.low, p, q)

pub returns-then-low-high : goal.returns-then-low-high
unfolding clamp_z min_z max_z
returns-then-low-high c =
    let f = c.ranges in
    let p = simp (back f.asked, to_z-of_z f.high) at c.if-asked-high.false in
    let q = simp (back f.low, to_z-of_z f.high) at c.if-low-high.true in
    let a = c.args in
    simp (to_z-of_z f.high, to_z-of_z (between a.low a.high a.asked q (le_turned a.asked a.high p) f.low f.asked), p, q)

pub returns-else-low-high : goal.returns-else-low-high
unfolding clamp_z min_z max_z
returns-else-low-high c =
    let f = c.ranges in
    let p = simp (back f.asked, to_z-of_z f.high) at c.if-asked-high.false in
    let q = simp (back f.low, to_z-of_z f.high) at c.if-low-high.false in
    simp (to_z-of_z f.low, p, q)
