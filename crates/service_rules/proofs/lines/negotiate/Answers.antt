-- The invariant: the lines passed are those of the answer. Assumes nothing.
use mathlib.Core.Path.{◌∙◌}
use Prim.Native.Nat.{◌<◌}
use native.Mathlib.Omega.{arith}
use lib.ListN.{length, length-set}
use borrow.Author.Rules.{rules}
use Rattle.wire_read.proofs.Tabs.{tab_get, tab_is, filled_more}
use Rattle.service_rules.specs.Services.{offered_at, capability_lines}
use Rattle.service_rules.specs.Negotiation.{fitting_at, negotiated_lines}
use Rattle.service_rules.proofs.lines.negotiate.Goals as goal

pub loop-k-preserved : goal.loop-k-preserved
unfolding fitting_at capability_lines
loop-k-preserved c =
    let i = c.loop-k.invariant in
    let t : c.loop-k.k < 48 = search rules in
    let o = tab_get offered_at 48 c.loop-k.k 0 t in
    let e = c.common.ensures in
    let a = c.asked_at.ensures in
    let d = c.offered_lines-offered.ensures in
    let g = c.args in
    let w : c.loop-k.k < length c.loop-k.lines = omega (arith, i.0) in
    (simp length-set i.0, filled_more c.loop-k.lines 0 (fitting_at g.set g.asked.now) c.loop-k.k _ w (e ∙ rw (a, d, o)) i.1)

pub returns : goal.returns
unfolding negotiated_lines
returns c = let l = c.loop-k.invariant in tab_is _ 0 _ 48 l.0 (λ j h. l.1 j (omega arith))
