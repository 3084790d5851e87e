-- The count is the word at its place; beyond the 32 there is none. Assumes nothing.
use mathlib.Core.Path.{sym, ap}
use mathlib.Core.Bool.{not}
use Prim.Native.Nat.{ℕ}
use lib.Dec.{eqb}
use borrow.Author.Rules.{rules}
use Rattle.stream_words.proofs.Record.{maps_is, maps_beyond}
use Rattle.stream_maps.proofs.is_mapped.Goals as goal

pub returns-then-k-lt32 : goal.returns-then-k-lt32
returns-then-k-lt32 c = ap (λ (n : ℕ). not (eqb n 0)) (sym (maps_is c.args.s.now c.args.k (search rules)))

pub returns : goal.returns
returns c = ap (λ (n : ℕ). not (eqb n 0)) (sym (maps_beyond c.args.s.now c.args.k (search rules)))
