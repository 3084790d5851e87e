-- Each test by the distance from -2^31. Assumes nothing.
use Prim.Native.Nat.{ℕ}
use mathlib.Core.Path.{sym, ap, ◌∙◌}
use lib.Dec.{leb}
use Rattle.sheet_rules.specs.Rules.{bound_ok}
use Rattle.sheet_rules.proofs.Signs.{from_below, at_least, at_most}
use native.Mathlib.Omega.{arith}
use Rattle.sheet_rules.proofs.Truth.{◌and◌}
use Rattle.sheet_geometry_check.proofs.bound_ok.Goals as goal

pub returns : goal.returns
unfolding bound_ok
returns c =
    let a = c.args.start in
    let n = c.args.size in
    let ba = c.biased-a.ensures in
    let bn = c.biased-n.ensures in
    (ap (leb 0x7fff8000) ba ∙ sym (from_below 32767 a (omega arith) c.ranges.start.fits))
    and (ap (λ (d : ℕ). leb d 0x80007fff) ba ∙ sym (at_most 32767 a c.ranges.start.fits))
    and (ap (leb 0x80000001) bn ∙ sym (at_least 1 n c.ranges.size.fits))
    and (ap (λ (d : ℕ). leb d 0x80002000) bn ∙ sym (at_most 8192 n c.ranges.size.fits))
