-- The word is read from four bytes; past the end each counts as 0. Assumes nothing.
use native.Mathlib.Omega.{arith}
use Rattle.wire_read.specs.Words.{word_at}
use Rattle.wire_read.proofs.cut_word.Goals as goal

pub returns : goal.returns
unfolding word_at
returns c =
    omega (
      arith,
      c.from_le_bytes.ensures,
      c.byte_at.ensures,
      c.byte_at-2.ensures,
      c.byte_at-3.ensures,
      c.byte_at-4.ensures,
    )
