-- A word and a multiple of 36 below 2^40. Assumes nothing.
use Prim.Native.Nat.{ℕ, ◌+◌, ◌*◌}
use mathlib.Core.Path.{ap}
use native.Mathlib.Omega.{arith}
use Rattle.sheet_contents.specs.Contents.{format_at, formats_at}
use Rattle.sheet_contents.proofs.format_at.Goals as goal

pub returns : goal.returns
unfolding format_at formats_at
returns c = let k = c.args.k in (ap (λ (w : ℕ). w + 36 * k) c.word_at.ensures, omega arith)
