-- No plane passes 32 bits, whatever the format is. Assumes nothing.
use Prim.Native.Nat.{ℕ, ◌≤◌}
use native.Mathlib.Omega.{arith}
use native.Mathlib.Nat.{mul-le-mul}
use Rattle.format_rules.specs.declared.Format.{Format}
use Rattle.format_rules.proofs.Bounds.{line_fits, height_fits}
use Rattle.plane_rules.specs.declared.Component.{Component}
use Rattle.plane_rules.specs.declared.Component.TheVariants.{Nothing, Packed, Luma, Cb, Cr, CbCr}
use Rattle.plane_rules.specs.Planes.{component_length}

-- no component is longer than the first plane can be
pub component_fits : (f : Format) (a : ℕ) (c : Component) → component_length f a c ≤ 201842688
unfolding component_length
component_fits f a Nothing = omega arith
component_fits f a Packed = mul-le-mul {n₂ = 24639} {m₂ = 8192} (line_fits f a) (height_fits f)
component_fits f a Luma = mul-le-mul {n₂ = 24639} {m₂ = 8192} (line_fits f a) (height_fits f)
component_fits f a Cb = mul-le-mul {n₂ = 24639} {m₂ = 8192} (omega (arith, line_fits f a)) (omega (arith, height_fits f))
component_fits f a Cr = mul-le-mul {n₂ = 24639} {m₂ = 8192} (omega (arith, line_fits f a)) (omega (arith, height_fits f))
component_fits f a CbCr = mul-le-mul {n₂ = 24639} {m₂ = 8192} (line_fits f a) (omega (arith, height_fits f))
