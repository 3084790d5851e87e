-- Each half of the words moves by 2^31. Assumes nothing.
use mathlib.Core.Path.{◌≡◌, refl}
use mathlib.Core.Bool.{Bool, true, false}
use native.Mathlib.Omega.{arith}
use borrow.Author.Tests.{ltb-true, ltb-false}
use Prim.Native.Nat.{ℕ, ◌+◌, ◌%◌, ◌<◌}
use lib.Dec.{ltb}
use Rattle.wire_signed.specs.Signed.{signed, above}
use Rattle.wire_signed.proofs.Integers.{signed_low, signed_high}
use Rattle.wire_signed.proofs.biased.Goals as goal

moved : (w : ℕ) → w < 4294967296 → (t : Bool) → ltb w 2147483648 ≡ t → (w + 2147483648) % 4294967296 ≡ above 2147483648 (signed w)
unfolding above
moved w h true e = let l = ltb-true w 2147483648 e in rw (signed_low w l) (omega arith)
moved w h false e = let l = ltb-false w 2147483648 e in rw (signed_high w l h) (omega arith)

pub returns : goal.returns
returns c = let w = c.args.w in moved w c.ranges.w.fits (ltb w 2147483648) refl
