-- Width and bytes per pixel are small, and so is what the rounding adds. Assumes nothing.
use mathlib.Core.Path.{◌≡◌}
use native.Mathlib.Omega.{arith}
use Rattle.format_rules.specs.Size.{bytes_per_line}
use Rattle.format_rules.proofs.Bounds.{line_used, line_fits}
use Rattle.format_rules.proofs.layout.bytes_per_line.Goals as goal

pub overflow_mul-used : goal.overflow_mul-used
overflow_mul-used c =
    let w = c.min.result in
    record { fits = rw c.bytes_per_pixel.ensures (omega (arith, line_used w c.args.f.code (omega arith))) }

pub overflow_cast-result : goal.overflow_cast-result
unfolding bytes_per_line
overflow_cast-result c =
    let a = c.args in
    let line : c.round_up.result ≡ bytes_per_line a.f a.alignment = cc in
    record { fits = omega (arith, line, line_fits a.f a.alignment) }

pub returns : goal.returns
unfolding bytes_per_line
returns c = cc
