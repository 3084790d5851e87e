-- Past the end nothing is stored; the rest is what the two ways of storing ensure. Assumes nothing.
use mathlib.Core.Path.{sym}
use Rattle.wire_read.specs.Words.{le32}
use Rattle.wire_read.proofs.Stores.{sets_out}
use borrow.Author.Rules.{rules}
use Rattle.wire_store.proofs.put_word.Goals as goal

pub returns-then-dst-at : goal.returns-then-dst-at
returns-then-dst-at c = let a = c.args in sym (sets_out (le32 a.w) a.dst.now a.at (search rules))
