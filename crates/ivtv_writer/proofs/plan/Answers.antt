-- The tests of the definition, in another order. Assumes nothing.
use mathlib.Core.Path.{sym, ◌∙◌}
use Rattle.ivtv_writer.proofs.Sorting.{part_left, too_many, other_length, by_records}
use Rattle.ivtv_writer.proofs.plan.Goals as goal

pub returns-then-lines-ne0 : goal.returns-then-lines-ne0
returns-then-lines-ne0 c = let a = c.args in part_left a.lines.now a.room c.if-lines-ne0.true

pub returns-then-n-gt36 : goal.returns-then-n-gt36
returns-then-n-gt36 c = let a = c.args in too_many a.lines.now a.room c.if-n-gt36.true

pub returns-then-room-block_length : goal.returns-then-room-block_length
returns-then-room-block_length c =
    let a = c.args in
    other_length a.lines.now a.room (λ e. c.if-room-block_length.true (e ∙ sym c.block_length.ensures))

pub returns : goal.returns
returns c =
    let a = c.args in
    rw (← by_records a.lines.now a.room c.if-lines-ne0.false (c.if-room-block_length.false ∙ c.block_length.ensures)) c.sort.ensures
