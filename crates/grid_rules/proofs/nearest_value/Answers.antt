-- Differences and sums of the numbers are those of their counts from -2^31. Assumes nothing.
use Prim.Native.Nat.{◌+◌, ◌<◌, ◌^◌}
use mathlib.Core.Path.{◌≡◌}
use lib.IntN.{◌-ℤ◌}
use lib.Signed.{mag}
use Rattle.wire_signed.specs.Signed.{above}
use Rattle.wire_signed.proofs.Integers.{again, under_fits, gap, natural_count}
use Rattle.grid_rules.specs.Grid.{nearest_up_to, nearest_value}
use Rattle.grid_rules.proofs.Counts.{back_up}
use borrow.Author.Rules.{rules}
use Rattle.grid_rules.proofs.nearest_value.Goals as goal

-- how far above -2^31 the callees put the answer
pub returns : goal.returns
unfolding nearest_value
returns c =
    let l = c.args.l in
    let v = c.args.value in
    let m = l.minimum in
    let fm : mag m < 2 ^ 31 = search rules in
    let fx : mag l.maximum < 2 ^ 31 = search rules in
    let fs : mag l.step < 2 ^ 31 = search rules in
    let fv = c.ranges.value.sfits in
    let um = under_fits m fm in
    let found : c.nearest-n.result ≡ above 2147483648 m + nearest_up_to (above 0 (l.maximum -ℤ m)) (above 0 l.step) (above 0 (v -ℤ m)) =
    cc (
      again m fm,
      again l.maximum fx,
      again l.step fs,
      again v fv,
      natural_count 2147483648 l.step (under_fits l.step fs),
      gap 2147483648 l.maximum m (under_fits l.maximum fx) um,
      gap 2147483648 v m (under_fits v fv) um,
    ) in
    rw (again c.as_signed.result c.as_signed.type_inv, c.as_signed.ensures, c.biased.ensures, found)
    (back_up m _ um (rw (← found) c.nearest-n.type_inv))
