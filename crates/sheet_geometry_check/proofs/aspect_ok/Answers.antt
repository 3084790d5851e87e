-- Both words are tested. Assumes nothing.
use mathlib.Core.Path.{ap}
use mathlib.Core.Bool.{◌&&◌}
use lib.Dec.{ltb}
use Rattle.sheet_geometry.specs.declared.Fraction.{Fraction}
use Rattle.sheet_rules.specs.Rules.{aspect_ok}
use Rattle.sheet_geometry_check.proofs.aspect_ok.Goals as goal

pub returns : goal.returns
unfolding aspect_ok
returns c = ap (λ (a : Fraction). ltb 0 a.numerator && ltb 0 a.denominator) c.pixel_aspect-a.ensures
