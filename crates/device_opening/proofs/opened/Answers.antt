-- The tests in the order of the definition. Assumes nothing.
use mathlib.Core.Path.{ap}
use mathlib.Core.Bool.{not}
use Rattle.device_state.specs.State.{opening_state}
use Rattle.device_opening.proofs.Cases.{opened_bad, opened_long, opened_longer, opened_good}
use Rattle.device_opening.proofs.opened.Goals as goal

pub returns-then-not-good_sheet : goal.returns-then-not-good_sheet
returns-then-not-good_sheet c = opened_bad _ _ _ c.good_sheet.ensures (ap not c.if-not-good_sheet.true)

pub returns-then-pictures-gt-LONGEST : goal.returns-then-pictures-gt-LONGEST
returns-then-pictures-gt-LONGEST c = opened_long _ _ _ c.good_sheet.ensures (ap not c.if-not-good_sheet.false) c.if-pictures-gt-LONGEST.true

pub returns-then-captions-gt-LONGEST : goal.returns-then-captions-gt-LONGEST
returns-then-captions-gt-LONGEST c =
    let g = c.good_sheet.ensures in
    opened_longer _ _ _ g (ap not c.if-not-good_sheet.false) c.if-pictures-gt-LONGEST.false c.if-captions-gt-LONGEST.true

pub returns : goal.returns
unfolding opening_state
returns c =
    let g = c.good_sheet.ensures in
    rw (c.fresh-2.ensures, c.fresh.ensures, c.at_opening-values.ensures, c.opening-setup.ensures, c.kept-copy.ensures)
    (opened_good _ _ _ g (ap not c.if-not-good_sheet.false) c.if-pictures-gt-LONGEST.false c.if-captions-gt-LONGEST.false)
