-- The library's conversion is the one that the definition names. Assumes nothing.
use mathlib.Core.Path.{◌∙◌}
use Rattle.wire_signed.specs.Signed.{signed}
use Rattle.wire_signed.proofs.Integers.{again}
use Rattle.wire_signed.proofs.as_signed.Goals as goal

pub returns : goal.returns
unfolding signed
returns c = again c.cast_signed.result c.cast_signed.type_inv ∙ c.cast_signed.ensures
