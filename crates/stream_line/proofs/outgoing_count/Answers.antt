-- As long as the list, by `held_length`. Assumes nothing.
use Rattle.stream_words.proofs.Views.{held_length}
use Rattle.stream_words.specs.Words.{stream_in}
use mathlib.Core.Path.{sym, ◌∙◌}
use Rattle.stream_line.proofs.outgoing_count.Goals as goal

pub returns : goal.returns
unfolding stream_in
returns c = c.holding.ensures ∙ sym (held_length c.args.s.now)
