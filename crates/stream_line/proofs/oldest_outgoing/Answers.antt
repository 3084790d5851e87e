-- The first that is held, by `first_held`. Assumes nothing.
use Rattle.stream_words.proofs.Views.{first_held, none_held}
use Rattle.stream_words.specs.Words.{stream_in}
use native.Mathlib.Omega.{arith}
use Rattle.stream_line.proofs.oldest_outgoing.Goals as goal

pub returns-then-holding-eq0 : goal.returns-then-holding-eq0
unfolding stream_in
returns-then-holding-eq0 c = rw (none_held c.args.s.now (omega (arith, c.holding.ensures)))

pub returns : goal.returns
unfolding stream_in
returns c = rw (c.frame.ensures, first_held c.args.s.now (omega (arith, c.holding.ensures)))
