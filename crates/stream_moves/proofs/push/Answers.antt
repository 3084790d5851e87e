-- Three stores, by `push_words`; none in a line that is full. Assumes nothing.
use Rattle.stream_words.proofs.Stores.{push_words}
use Rattle.stream_words.proofs.Views.{push_full}
use Rattle.stream_words.specs.Words.{stream_in}
use native.Mathlib.Omega.{arith}
use lib.ListN.{length}
use mathlib.Core.Path.{◌≡◌}
use borrow.Author.Rules.{rules}
use Rattle.stream_moves.proofs.push.Goals as goal

pub returns-then-n-ge32 : goal.returns-then-n-ge32
returns-then-n-ge32 c = push_full c.args.s.now c.args.k (omega (arith, c.lined-n.ensures))

pub returns : goal.returns
unfolding stream_in
returns c =
    let a = c.args in
    let long : length a.s.now ≡ 208 = search rules in
    push_words a.s.now long a.k _ _ _ (search rules) c.lined-n.ensures (search rules) c.holding-d.ensures c.place-p.ensures
