-- Five stores, by `fill_words`; a signed number goes through its bits unchanged. None where nothing waits. Assumes nothing.
use Rattle.stream_words.proofs.Stores.{fill_words}
use Rattle.stream_words.proofs.Views.{fill_none, time_back}
use Rattle.stream_words.specs.Words.{stream_in}
use native.Mathlib.Omega.{arith}
use lib.ListN.{length}
use mathlib.Core.Path.{◌≡◌}
use borrow.Author.Rules.{rules}
use Rattle.stream_fill.proofs.fill.Goals as goal

pub returns-then-lined-d : goal.returns-then-lined-d
returns-then-lined-d c =
    let a = c.args in
    fill_none a.s.now _ a.used a.time (omega (arith, c.lined.ensures, c.holding-d.ensures))

pub returns : goal.returns
unfolding stream_in
returns c =
    let a = c.args in
    let long : length a.s.now ≡ 208 = search rules in
    let b = c.as_bits-seconds in
    let d = c.as_bits-microseconds in
    fill_words a.s.now long _ _ a.number a.used b.result d.result a.time (search rules) (search rules) (search rules) (search rules)
    (time_back a.time b.result d.result (search rules) b.ensures (search rules) d.ensures)
    c.holding-d.ensures (omega (arith, c.lined.ensures)) c.place-p.ensures
