-- Each field is what its function says of the fields handed to it. Assumes nothing.
use Rattle.wire_signed.proofs.Integers.{again}
use Rattle.crop_rules.specs.Crop.{width_in, height_in, left_in, clamped_top, top_in, clamped}
use borrow.Author.Rules.{rules}
use Rattle.crop_rules.proofs.clamp.Goals as goal

pub returns : goal.returns
unfolding clamped left_in top_in clamped_top width_in height_in
returns c =
    let top = c.top_in in
    let left = c.place_in in
    let height = c.size_in-height in
    let width = c.size_in-width in
    let a = c.args.asked in
    let b = c.args.bounds in
    -- each number goes through its bits unchanged
    let al = again a.left (search rules) in
    let at = again a.top (search rules) in
    let aw = again a.width (search rules) in
    let ah = again a.height (search rules) in
    let bl = again b.left (search rules) in
    let bt = again b.top (search rules) in
    let bw = again b.width (search rules) in
    let bh = again b.height (search rules) in
    let left_back = again left.result left.type_inv in
    let top_back = again top.result top.type_inv in
    let width_back = again width.result width.type_inv in
    let height_back = again height.result height.type_inv in
    -- and so each call gives what its definition says of the fields
    let w = simp (bw, aw) at width.ensures in
    let h = simp (bh, ah) at height.ensures in
    let l = simp (bl, bw, width_back, al) at left.ensures in
    let t = simp (bt, bh, height_back, at) at top.ensures in
    simp (left_back, top_back, width_back, height_back) (rw (l, t, w, h))
