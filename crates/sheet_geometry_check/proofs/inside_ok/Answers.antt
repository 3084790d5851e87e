-- Each test, and the order of the two ends, by distances from -2^31. Assumes nothing.
use Prim.Native.Nat.{◌+◌}
use mathlib.Core.Path.{sym, ap, ap₂, ◌∙◌}
use lib.Dec.{leb}
use Rattle.wire_signed.specs.Signed.{signed}
use Rattle.wire_signed.proofs.Integers.{word_under, sums_order}
use Rattle.sheet_rules.specs.Rules.{inside_ok}
use Rattle.sheet_rules.proofs.Signs.{le_words, at_least}
use Rattle.sheet_rules.proofs.Truth.{◌and◌}
use Rattle.sheet_geometry_check.proofs.inside_ok.Goals as goal

pub returns : goal.returns
unfolding inside_ok
returns c =
    let l = c.args.start in
    let z = c.args.size in
    let a = c.args.at in
    let n = c.args.long in
    let fl = c.ranges.start.fits in
    let fz = c.ranges.size.fits in
    let fa = c.ranges.at.fits in
    let fn = c.ranges.long.fits in
    let bn = c.biased-n.ensures in
    let ba = c.biased-a.ensures in
    let bz = c.biased-z.ensures in
    let bl = c.biased-l.ensures in
    let ends = sums_order 2147483648 (signed a) (signed n) (signed l) (signed z) (word_under a fa) (word_under n fn) (word_under l fl) (word_under z fz) in
    (ap₂ leb bl ba ∙ sym (le_words l a fl fa))
    and (ap (leb 0x80000001) bn ∙ sym (at_least 1 n fn))
    and (ap₂ leb (ap₂ ◌+◌ ba bn) (ap₂ ◌+◌ bl bz) ∙ sym ends)
