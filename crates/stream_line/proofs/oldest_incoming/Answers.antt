-- The first that waits, by `first_waiting`. Assumes nothing.
use Rattle.stream_words.proofs.Views.{first_waiting, none_waiting}
use Rattle.stream_words.specs.Words.{stream_in}
use native.Mathlib.Omega.{arith}
use Rattle.stream_line.proofs.oldest_incoming.Goals as goal

pub returns-then-lined-d : goal.returns-then-lined-d
unfolding stream_in
returns-then-lined-d c = rw (none_waiting c.args.s.now (omega (arith, c.lined.ensures, c.holding-d.ensures)))

pub returns : goal.returns
unfolding stream_in
returns c =
    let d = c.holding-d in
    rw (c.index.ensures, first_waiting c.args.s.now d.result d.ensures (omega (arith, c.lined.ensures)))
