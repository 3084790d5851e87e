-- The ones of the 36 lowest bits. Assumes nothing.
use mathlib.Core.Path.{◌∙◌}
use Prim.Native.Nat.{◌%◌}
use native.Mathlib.Omega.{arith}
use Rattle.ivtv_rules.specs.Reading.{bit_on}
use Rattle.service_rules.proofs.Counts.{count_most}
use Rattle.ivtv_rules.proofs.Bits.{ones_counted}
use Rattle.ivtv_reader.proofs.Taken.{counted_low}
use Rattle.ivtv_reader.proofs.count_in.Goals as goal

pub returns-clause-ones : goal.returns-clause-ones
returns-clause-ones c =
    let m = c.args.mask in
    ones_counted 36 (m % 68719476736) (omega arith) ∙ counted_low m 36 (omega arith)

pub returns-clause-at_most_36 : goal.returns-clause-at_most_36
returns-clause-at_most_36 c =
    let m = c.args.mask in
    let e = ones_counted 36 (m % 68719476736) (omega arith) ∙ counted_low m 36 (omega arith) in
    omega (arith, e, count_most 36 (bit_on m))
