-- Three stores, by `empty_words`. Assumes nothing.
use Rattle.stream_words.proofs.Stores.{empty_words}
use Rattle.stream_words.specs.Words.{stream_in}
use lib.ListN.{length}
use mathlib.Core.Path.{◌≡◌}
use borrow.Author.Rules.{rules}
use Rattle.stream_moves.proofs.empty.Goals as goal

pub returns : goal.returns
unfolding stream_in
returns c =
    let w = c.args.s.now in
    let long : length w ≡ 208 = search rules in
    empty_words w long c.args.granted
