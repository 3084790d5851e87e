-- Each component by its case; a line times a height fits 32 bits. Assumes nothing.
use mathlib.Core.Logic.{⊎_elim}
use mathlib.Core.Path.{sym, ap, ap₂, ◌∙◌}
use Prim.Native.Nat.{ℕ, ◌*◌, ◌/◌}
use native.Mathlib.Omega.{arith}
use Rattle.plane_rules.specs.Planes.{component_length}
use Rattle.format_rules.proofs.Bounds.{line_fits, height_fits, product_fits}
use Rattle.plane_rules.proofs.component_length.Goals as goal

pub overflow_mul-result : goal.overflow_mul-result
overflow_mul-result c =
    record { fits = product_fits c.bytes_per_line-line.result c.image_height-height.result (omega (arith, c.bytes_per_line-line.ensures, line_fits c.args.f c.args.alignment)) (omega (arith, c.image_height-height.ensures, height_fits c.args.f)) }

pub overflow_mul-result-in-Cb : goal.overflow_mul-result-in-Cb
overflow_mul-result-in-Cb c =
    record { fits = product_fits (c.bytes_per_line-line.result / 2) (c.image_height-height.result / 2) (omega (arith, c.bytes_per_line-line.ensures, line_fits c.args.f c.args.alignment)) (omega (arith, c.image_height-height.ensures, height_fits c.args.f)) }

pub overflow_mul-result-in-CbCr : goal.overflow_mul-result-in-CbCr
overflow_mul-result-in-CbCr c =
    record { fits = product_fits c.bytes_per_line-line.result (c.image_height-height.result / 2) (omega (arith, c.bytes_per_line-line.ensures, line_fits c.args.f c.args.alignment)) (omega (arith, c.image_height-height.ensures, height_fits c.args.f)) }

pub returns-in-Nothing : goal.returns-in-Nothing
unfolding component_length
returns-in-Nothing c = ap (component_length _ _) (sym c.in-Nothing.is)

pub returns-in-Packed : goal.returns-in-Packed
unfolding component_length
returns-in-Packed c =
    let e = ap₂ (λ (l h : ℕ). l * h) c.bytes_per_line-line.ensures c.image_height-height.ensures in
    ⊎_elim (λ h. rw h e) (λ h. rw h e) c.in-Packed.is

pub returns-in-Cb : goal.returns-in-Cb
unfolding component_length
returns-in-Cb c =
    let e = ap₂ (λ (l h : ℕ). l / 2 * (h / 2)) c.bytes_per_line-line.ensures c.image_height-height.ensures in
    ⊎_elim (λ h. rw h e) (λ h. rw h e) c.in-Cb.is

pub returns-in-CbCr : goal.returns-in-CbCr
unfolding component_length
returns-in-CbCr c = ap₂ (λ (l h : ℕ). l * (h / 2)) c.bytes_per_line-line.ensures c.image_height-height.ensures ∙ ap (component_length _ _) (sym c.in-CbCr.is)
