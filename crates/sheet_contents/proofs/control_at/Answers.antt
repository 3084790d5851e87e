-- A word and a multiple of 68 below 2^40. Assumes nothing.
use Prim.Native.Nat.{ℕ, ◌+◌, ◌*◌}
use mathlib.Core.Path.{ap}
use native.Mathlib.Omega.{arith}
use Rattle.sheet_contents.specs.Contents.{control_at, controls_at}
use Rattle.sheet_contents.proofs.control_at.Goals as goal

pub returns : goal.returns
unfolding control_at controls_at
returns c = let k = c.args.k in (ap (λ (w : ℕ). w + 68 * k) c.word_at.ensures, omega arith)
