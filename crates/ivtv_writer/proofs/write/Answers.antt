-- Nothing, or the opening and the lines behind it, which are the whole block. Assumes nothing.
use mathlib.Core.Path.{◌≡◌, refl, ap, ◌∙◌}
use Prim.Native.Nat.{◌/◌}
use lib.ListN.{length}
use lib.Seq.{length-sets}
use Rattle.ivtv_rules.specs.Writing.{packed}
use Rattle.ivtv_writer.proofs.Written.{behind}
use Rattle.ivtv_writer.proofs.Whole.{room_for, whole_block}
use Rattle.ivtv_writer.proofs.write.Goals as goal

pub returns-in_default : goal.returns-in_default
unfolding packed
returns-in_default c = rw c.in_default.ensures (refl, refl)

pub put_lines-requires : goal.put_lines-requires
put_lines-requires c =
    let p = c.in-Some in
    let a = c.args in
    let o = c.put_opening in
    let z : length o.new.block ≡ length a.block.now = ap length o.ensures ∙ simp length-sets in
    rw c.opening_length.ensures (room_for a.lines.now a.block.now p.sorted.places p.sorted.mask p.ensures.0 p.ensures.1 o.new.block z)

pub returns : goal.returns
unfolding packed
returns c =
    let p = c.in-Some in
    let a = c.args in
    let o = c.put_opening in
    let s = a.lines.now in
    rw p.ensures.0 (
      refl,
      c.put_lines.ensures ∙ rw (o.ensures, c.opening_length.ensures) (behind (length s / 64) p.sorted.mask a.block.now _)
          ∙ whole_block s a.block.now p.sorted.places p.sorted.mask p.ensures.0 p.ensures.1,
    )
