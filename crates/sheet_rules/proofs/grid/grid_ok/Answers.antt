-- The step is at least 1, and the default at most the maximum, by their distances from -2^31. Assumes nothing.
use mathlib.Core.Path.{sym, ap, ap₂, ◌∙◌}
use lib.Dec.{leb}
use Rattle.sheet_rules.specs.Rules.{grid_ok}
use Rattle.sheet_rules.proofs.Signs.{le_words, at_least}
use Rattle.sheet_rules.proofs.Truth.{◌and◌}
use Rattle.sheet_rules.proofs.grid.grid_ok.Goals as goal

pub returns : goal.returns
unfolding grid_ok
returns c =
    (ap (leb 0x80000001) c.biased.ensures ∙ sym (at_least 1 c.args.step c.ranges.step.fits))
    and c.on_grid.ensures
    and c.on_grid-2.ensures
    and (ap₂ leb c.biased-2.ensures c.biased-3.ensures ∙ sym (le_words c.args.initial c.args.maximum c.ranges.initial.fits c.ranges.maximum.fits))
