-- The library's conversion is the one that the definition names. Assumes nothing.
use Rattle.wire_signed.specs.Signed.{bits}
use Rattle.wire_signed.proofs.Integers.{again}
use Rattle.wire_signed.proofs.as_bits.Goals as goal

pub returns : goal.returns
unfolding bits
returns c = rw (again c.args.z c.ranges.z.sfits) at c.cast_unsigned.ensures
