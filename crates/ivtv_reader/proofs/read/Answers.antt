-- Nothing, or all of the records. Assumes nothing.
use mathlib.Core.Path.{refl, ◌∙◌}
use Rattle.ivtv_rules.specs.Reading.{unpacked}
use Rattle.ivtv_reader.proofs.Whole.{room_for, whole_records}
use Rattle.ivtv_reader.proofs.read.Goals as goal

pub returns-in_default : goal.returns-in_default
unfolding unpacked
returns-in_default c = rw c.in_default.ensures (refl, refl)

pub put_by_mask-requires : goal.put_by_mask-requires
put_by_mask-requires c = let o = c.in-Some.ensures in rw (o.1, o.2) (room_for c.args.block.now c.args.lines.now o.0)

pub returns : goal.returns
unfolding unpacked
returns c =
    let o = c.in-Some.ensures in
    rw o.0 (refl, c.put_by_mask.ensures ∙ rw (o.1, o.2) (whole_records c.args.block.now c.args.lines.now o.0))
