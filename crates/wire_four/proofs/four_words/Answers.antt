-- The words of the part, or of what there is of it. Assumes nothing.
use Prim.Native.Nat.{◌+◌, ◌-◌}
use native.Mathlib.Omega.{arith}
use Rattle.wire_read.proofs.Words.{four_part}
use Rattle.wire_four.proofs.four_words.Goals as goal

pub returns-then-within : goal.returns-then-within
returns-then-within c =
    let a = c.args in
    rw c.first_four.ensures
    (four_part a.s.now a.at (a.at + 16 - a.at) (omega arith))

pub returns : goal.returns
returns c =
    let a = c.args in
    rw (c.first_four-2.ensures, c.part.ensures)
    (four_part a.s.now a.at 16 (omega arith))
