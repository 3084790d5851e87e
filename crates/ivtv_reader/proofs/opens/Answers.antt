-- Too short, or letter by letter. Assumes nothing.
use mathlib.Core.Path.{◌∙◌}
use Rattle.ivtv_reader.proofs.Openings.{too_short, letter_by_letter}
use Rattle.ivtv_reader.proofs.opens.Goals as goal

pub returns-then-block-lt4 : goal.returns-then-block-lt4
returns-then-block-lt4 c = let a = c.args in too_short a.letters.now a.block.now c.requires c.if-block-lt4.true

pub returns : goal.returns
returns c = c.eq.ensures ∙ letter_by_letter _ _
