-- The invariant: what is left to store, stored now, gives what the function ensures. Assumes nothing.
use mathlib.Core.Path.{◌∙◌, sym, ap}
use lib.ListN.{length, drop_of_length-le}
use lib.Seq.{length-sets}
use borrow.Author.Rules.{rules}
use Rattle.wire_read.specs.Words.{bytes_of}
use Rattle.wire_read.proofs.Words.{words_turn}
use Rattle.wire_store.proofs.store_all.Goals as goal

pub loop-w-preserved : goal.loop-w-preserved
loop-w-preserved c =
    let l = c.loop-w in
    let ws = c.args.ws.now in
    let e = c.store.ensures in
    (search rules, ap length e ∙ simp length-sets l.invariant.1, rw e (sym (words_turn l.dst ws l.k l.w-index (search rules)) ∙ l.invariant.2))

pub returns : goal.returns
unfolding bytes_of
returns c =
    let l = c.loop-w in
    let ws = c.args.ws.now in
    rw (drop_of_length-le ws {i = l.w-index} (search rules)) at l.invariant.2
