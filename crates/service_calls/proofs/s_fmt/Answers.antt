-- The test of the buffers, then the chain of what the callees ensure. Assumes nothing.
use borrow.Author.Tests.{eq-eqb, ne_eqb}
use Rattle.service_calls.specs.Services.{s_services_of}
use Rattle.service_calls.proofs.s_fmt.Goals as goal

pub returns-then-granted-ne0 : goal.returns-then-granted-ne0
unfolding s_services_of
returns-then-granted-ne0 c = rw (ne_eqb _ _ c.if-granted-ne0.true)

pub returns : goal.returns
unfolding s_services_of
returns c =
    rw (eq-eqb _ _ c.if-granted-ne0.false, c.put_services.ensures, c.asked_services-fitting.ensures)
