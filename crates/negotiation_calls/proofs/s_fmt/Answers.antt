-- The test of the buffers, then what is told and kept. Assumes nothing.
use borrow.Author.Tests.{eq-eqb, ne_eqb}
use Rattle.negotiation_calls.specs.Negotiations.{s_fmt_of}
use Rattle.negotiation_calls.proofs.s_fmt.Goals as goal

pub returns-then-granted-ne0 : goal.returns-then-granted-ne0
unfolding s_fmt_of
returns-then-granted-ne0 c x e = rw (e, ne_eqb _ _ c.if-granted-ne0.true)

pub returns : goal.returns
unfolding s_fmt_of
returns c x e =
    let q = rw c.asked.ensures at c.pictured-p.ensures in
    rw (e, eq-eqb _ _ c.if-granted-ne0.false, c.keep_format.ensures, c.put_format.ensures, q)
