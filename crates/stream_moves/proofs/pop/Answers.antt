-- Three stores, by `pop_words`; none where no frame is held. Assumes nothing.
use Rattle.stream_words.proofs.Stores.{pop_words}
use Rattle.stream_words.proofs.Views.{pop_none}
use Rattle.stream_words.specs.Words.{stream_in}
use native.Mathlib.Omega.{arith}
use lib.ListN.{length}
use mathlib.Core.Path.{◌≡◌}
use borrow.Author.Rules.{rules}
use Rattle.stream_moves.proofs.pop.Goals as goal

pub returns-then-d-eq0 : goal.returns-then-d-eq0
returns-then-d-eq0 c = pop_none c.args.s.now (omega (arith, c.holding-d.ensures))

pub returns : goal.returns
unfolding stream_in
returns c =
    let w = c.args.s.now in
    let long : length w ≡ 208 = search rules in
    pop_words w long _ _ c.lined-n.ensures c.holding-d.ensures (omega arith)
