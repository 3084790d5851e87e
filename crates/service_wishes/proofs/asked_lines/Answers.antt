-- The invariant: the lines passed are those of the argument. Assumes nothing.
use Prim.Native.Nat.{ℕ, ◌+◌, ◌*◌, ◌<◌}
use native.Mathlib.Omega.{arith}
use lib.ListN.{length, length-set}
use borrow.Author.Rules.{rules}
use Rattle.wire_read.proofs.Tabs.{tab_is, filled_more}
use Rattle.service_replies.specs.Halves.{half_at}
use Rattle.service_wishes.proofs.asked_lines.Goals as goal

pub loop-k-preserved : goal.loop-k-preserved
loop-k-preserved c =
    let i = c.loop-k.invariant in
    let t : c.loop-k.k < 48 = search rules in
    let w : c.loop-k.k < length c.loop-k.lines = omega (arith, i.0) in
    (simp length-set i.0, filled_more c.loop-k.lines 0 (λ (j : ℕ). half_at c.args.argument.now (6 + 2 * j)) c.loop-k.k _ w c.half_at.ensures i.1)

pub returns : goal.returns
returns c = let l = c.loop-k.invariant in tab_is _ 0 _ 48 l.0 (λ j h. l.1 j (omega arith))
