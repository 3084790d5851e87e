-- Bit 31 decides which search it is. Assumes nothing.
use borrow.Author.Tests.{lt-ltb, le-ltb}
use Rattle.control_place_rules.specs.Find.{queried_place}
use Rattle.control_place_rules.proofs.queried.Goals as goal

pub returns-then-id-lt2147483648 : goal.returns-then-id-lt2147483648
unfolding queried_place
returns-then-id-lt2147483648 c = rw (lt-ltb _ _ c.if-id-lt2147483648.true) c.place.ensures

pub returns : goal.returns
unfolding queried_place
returns c = rw (le-ltb _ _ c.if-id-lt2147483648.false) c.place_above.ensures
