-- Past the end the word is 0; four bytes that are there are read as the definition has them. Assumes nothing.
use mathlib.Core.Path.{sym}
use native.Mathlib.Omega.{arith}
use Rattle.wire_read.specs.Words.{word_at}
use Rattle.wire_read.proofs.Words.{word_past_end}
use borrow.Author.Rules.{rules}
use Rattle.wire_read.proofs.word_at.Goals as goal

pub returns-then-s-at : goal.returns-then-s-at
returns-then-s-at c = let a = c.args in sym (word_past_end a.s.now a.at (search rules))

pub returns : goal.returns
unfolding word_at
returns c = omega (arith, c.from_le_bytes.ensures)
