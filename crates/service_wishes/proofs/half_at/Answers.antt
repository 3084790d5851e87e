-- Bytes are below 256, so what is left of the word is its lower half. Assumes nothing.
use borrow.Author.Rules.{rules}
use Rattle.service_replies.proofs.Halves.{low_half}
use Rattle.service_wishes.proofs.half_at.Goals as goal

pub returns : goal.returns
returns c =
    let a = c.args in
    rw c.word_at.ensures (low_half a.s.now a.at (search rules) (search rules))
