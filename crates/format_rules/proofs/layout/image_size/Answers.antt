-- The first plane and its half fit 32 bits. Assumes nothing.
use mathlib.Core.Path.{◌≡◌, sym, ◌∙◌}
use Prim.Native.Nat.{◌*◌}
use native.Mathlib.Omega.{arith}
use Rattle.format_rules.specs.Size.{first_plane, image_size}
use Rattle.format_rules.proofs.Bounds.{first_plane_fits}
use Rattle.format_rules.proofs.layout.image_size.Goals as goal

pub overflow_mul-n : goal.overflow_mul-n
unfolding first_plane
overflow_mul-n c =
    let a = c.args in
    let first : c.bytes_per_line.result * c.image_height.result ≡ first_plane a.f a.alignment = cc in
    record { fits = omega (arith, first, first_plane_fits a.f a.alignment) }

pub overflow_add-result : goal.overflow_add-result
unfolding first_plane
overflow_add-result c =
    let a = c.args in
    let first : c.bytes_per_line.result * c.image_height.result ≡ first_plane a.f a.alignment = cc in
    record { fits = omega (arith, first, first_plane_fits a.f a.alignment) }

pub returns-then-half_chroma : goal.returns-then-half_chroma
unfolding first_plane image_size
returns-then-half_chroma c =
    let first : c.bytes_per_line.result * c.image_height.result ≡ first_plane c.args.f c.args.alignment = cc in
    rw (sym c.half_chroma.ensures ∙ c.if-half_chroma.true, first)

pub returns-else-half_chroma : goal.returns-else-half_chroma
unfolding first_plane image_size
returns-else-half_chroma c =
    let first : c.bytes_per_line.result * c.image_height.result ≡ first_plane c.args.f c.args.alignment = cc in
    rw (sym c.half_chroma.ensures ∙ c.if-half_chroma.false, first)
