-- The bits of a number stand for it. Assumes nothing.
use Rattle.wire_signed.proofs.Integers.{again, signed_bits}
use Rattle.grid_rules.proofs.counted.Goals as goal

pub returns : goal.returns
returns c =
    cc (again c.args.z c.ranges.z.sfits, signed_bits c.args.z c.ranges.z.sfits)
