-- Seven stores in a row, as the record takes them, and that of the next number. Assumes nothing.
use Rattle.stream_run.specs.Stream.{started}
use Rattle.stream_words.proofs.Record.{stored, stream_sets, number_set}
use Rattle.stream_words.specs.Stream.{Stream}
use lib.ListN.{length}
use lib.Seq.{sets, length-sets}
use native.Mathlib.Omega.{arith}
use Prim.Native.Nat.{ℕ}
use mathlib.Core.List.{List, [], ◌∷◌}
use mathlib.Core.Path.{◌≡◌, ap, ◌∙◌}
use borrow.Author.Rules.{rules}
use Rattle.stream_run.proofs.run.begin.Goals as goal

pub returns : goal.returns
unfolding started
returns c =
    let w = c.args.s.now in
    let long : length w ≡ 208 = search rules in
    let row : List ℕ = 1 ∷ 1 ∷ 0 ∷ 0 ∷ 0 ∷ 0 ∷ 0 ∷ [] in
    number_set (sets w 1 row) 0 (length-sets w 1 row ∙ long) ∙ ap (λ (s : Stream). stored s 12 0) (stream_sets row w 1 long (omega arith))
