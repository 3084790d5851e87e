-- What is told. Assumes nothing.
use Rattle.negotiation_calls.specs.Negotiations.{try_fmt_of}
use Rattle.negotiation_calls.proofs.try_fmt.Goals as goal

pub returns : goal.returns
unfolding try_fmt_of
returns c d =
    let q = rw c.asked.ensures at c.pictured-p.ensures in
    rw (c.put_format.ensures, q)
