-- By where it stands first in the line. Assumes nothing.
use Rattle.stream_search.proofs.Found.{standing_outgoing, standing_incoming, standing_dequeued}
use Rattle.stream_words.specs.Words.{stream_in}
use native.Mathlib.Omega.{arith}
use Rattle.stream_search.proofs.standing_of.Goals as goal

pub returns-then-i-holding : goal.returns-then-i-holding
unfolding stream_in
returns-then-i-holding c =
    let a = c.args in
    rw c.frame.ensures (standing_outgoing a.s.now a.k c.find-i.result c.find-i.ensures (omega (arith, c.holding.ensures)))

pub returns-then-i-lined : goal.returns-then-i-lined
unfolding stream_in
returns-then-i-lined c =
    let a = c.args in
    standing_incoming a.s.now a.k c.find-i.result c.find-i.ensures (omega (arith, c.holding.ensures)) (omega (arith, c.lined.ensures))

pub returns : goal.returns
unfolding stream_in
returns c =
    let a = c.args in
    standing_dequeued a.s.now a.k c.find-i.result c.find-i.ensures (omega (arith, c.lined.ensures))
