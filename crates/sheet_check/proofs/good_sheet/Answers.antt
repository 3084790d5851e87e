-- Where the table of contents is right the bodies decide. Assumes nothing.
use mathlib.Core.Path.{sym, ◌∙◌}
use Rattle.sheet_rules.specs.Rules.{good_sheet}
use Rattle.sheet_check.proofs.good_sheet.Goals as goal

pub returns-then-contents_ok : goal.returns-then-contents_ok
unfolding good_sheet
returns-then-contents_ok c = rw (sym c.contents_ok.ensures ∙ c.if-contents_ok.true) c.bodies_ok.ensures

pub returns-else-contents_ok : goal.returns-else-contents_ok
unfolding good_sheet
returns-else-contents_ok c = rw (sym c.contents_ok.ensures ∙ c.if-contents_ok.false)
