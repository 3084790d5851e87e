-- The word, and the number that it stands for. Assumes nothing.
use Rattle.wire_signed.specs.Signed.{signed_at}
use Rattle.wire_signed.proofs.Integers.{again}
use Rattle.wire_signed.proofs.signed_at.Goals as goal

pub returns : goal.returns
unfolding signed_at
returns c = cc (again c.as_signed.result c.as_signed.type_inv)
