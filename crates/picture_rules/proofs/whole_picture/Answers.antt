-- The two tests of the definition. Assumes nothing.
use Rattle.picture_rules.specs.Picture.{whole_picture}
use Rattle.picture_rules.proofs.whole_picture.Goals as goal

pub returns-then-in_second : goal.returns-then-in_second
unfolding whole_picture
returns-then-in_second c = rw (← c.in_second.ensures) (simp c.if-in_second.true)

pub returns-else-in_second : goal.returns-else-in_second
unfolding whole_picture
returns-else-in_second c = rw (← c.in_second.ensures) (simp c.if-in_second.false)
