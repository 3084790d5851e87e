-- The chain of what the callees ensure. Assumes nothing.
use Rattle.service_calls.specs.Services.{try_services_of}
use Rattle.service_calls.proofs.try_fmt.Goals as goal

pub returns : goal.returns
unfolding try_services_of
returns c l = rw (c.put_services.ensures, c.asked_services-fitting.ensures)
