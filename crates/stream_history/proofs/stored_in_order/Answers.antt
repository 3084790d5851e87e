use mathlib.Core.Path.{refl}
use Rattle.stream_history.proofs.InOrder.{stores}
use Rattle.stream_history.proofs.stored_in_order.Goals as goal

pub returns : goal.returns
returns c = (refl, stores)
