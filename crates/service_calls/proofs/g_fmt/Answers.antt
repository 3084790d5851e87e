-- What put_services ensures. Assumes nothing.
use Rattle.service_calls.specs.Services.{g_services_of}
use Rattle.service_calls.proofs.g_fmt.Goals as goal

pub returns : goal.returns
unfolding g_services_of
returns c = rw c.put_services.ensures
