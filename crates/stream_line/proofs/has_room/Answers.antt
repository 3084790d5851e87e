-- As many as stand in both queues, by `line_length`. Assumes nothing.
use mathlib.Core.Path.{sym, ap}
use Prim.Native.Nat.{ℕ}
use lib.Dec.{ltb}
use Rattle.stream_words.specs.Words.{stream_in}
use Rattle.stream_words.proofs.Views.{line_length}
use Rattle.stream_line.proofs.has_room.Goals as goal

pub returns : goal.returns
unfolding stream_in
returns c = rw c.lined.ensures (ap (λ (n : ℕ). ltb n 32) (sym (line_length c.args.s.now)))
