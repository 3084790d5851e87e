use mathlib.Core.Path.{refl}
use Rattle.stream_history.proofs.InOrder.{returns_in_order}
use Rattle.stream_history.proofs.returned_in_order.Goals as goal

pub returns : goal.returns
returns c = (refl, returns_in_order)
