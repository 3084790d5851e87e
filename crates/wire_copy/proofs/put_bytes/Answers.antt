-- The invariant: what is left to store, stored now, gives what the function ensures. The loop ends at the end of src, where
-- nothing is left, or at the end of dst, where nothing more is stored. Assumes nothing.
use mathlib.Core.Path.{ap, ◌∙◌, sym}
use Prim.Native.Nat.{◌+◌}
use lib.ListN.{length, take, drop}
use lib.Seq.{length-sets}
use borrow.Author.Rules.{rules}
use Rattle.wire_read.proofs.Stores.{sets_out, sets_done}
use Rattle.wire_read.proofs.Parts.{block_turn}
use Rattle.wire_copy.proofs.put_bytes.Goals as goal

pub returns-then-dst-at : goal.returns-then-dst-at
returns-then-dst-at c = let a = c.args in sym (sets_out a.src.now a.dst.now a.at (search rules))

pub loop-k-preserved : goal.loop-k-preserved
loop-k-preserved c =
    let l = c.loop-k in
    let a = c.args in
    let e = c.copy_block.ensures in
    let s = a.src.now in (
      search rules,
      ap length e ∙ length-sets l.dst (a.at + l.k) (take c.min-m.result (drop l.k s)) ∙ l.invariant.1,
      rw e (sym (block_turn l.dst s a.at l.k c.min-m.result (search rules)) ∙ l.invariant.2),
    )

pub returns : goal.returns
returns c =
    let l = c.loop-k in
    let a = c.args in
    sym (sets_done l.dst a.src.now a.at l.k (search rules)) ∙ l.invariant.2
