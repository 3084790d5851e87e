-- The invariant: what is left to store, stored now, gives what the function ensures. Assumes nothing.
use mathlib.Core.Path.{◌∙◌, sym, ap}
use lib.ListN.{length, drop_of_length-le}
use lib.Seq.{length-sets}
use borrow.Author.Rules.{rules}
use Rattle.service_replies.specs.Halves.{halves_of}
use Rattle.service_replies.proofs.Halves.{halves_turn}
use Rattle.service_replies.proofs.told.put_lines.Goals as goal

pub loop-k-preserved : goal.loop-k-preserved
loop-k-preserved c =
    let l = c.loop-k in
    let a = c.args in
    let hs = a.lines.now in
    let e = c.put_half.ensures in
    (ap length e ∙ simp length-sets l.invariant.0, rw e (sym (halves_turn l.dst hs a.at l.k (search rules)) ∙ l.invariant.1))

pub returns : goal.returns
unfolding halves_of
returns c =
    let l = c.loop-k in
    let hs = c.args.lines.now in
    rw (drop_of_length-le hs {i = l.k} (search rules)) at l.invariant.1
