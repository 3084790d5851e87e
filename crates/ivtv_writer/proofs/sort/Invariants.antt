-- The invariant: the records passed are good, each is kept at the bit of its line, and the mask has these bits. Assumes nothing.
use mathlib.Core.Path.{◌≡◌}
use mathlib.Core.Bool.{true}
use Rattle.wire_read.specs.Lists.{tab}
use Rattle.ivtv_rules.specs.Block.{mask_below}
use Rattle.ivtv_rules.specs.Writing.{naming, good_lines}
use Rattle.ivtv_rules.proofs.Named.{named}
use Rattle.ivtv_writer.proofs.sort.Given as goal

abbrev pub invariant-loop-i : goal.invariant-loop-i
invariant-loop-i l = (good_lines l.lines l.i ≡ true) × (l.places ≡ tab (naming l.lines l.i) 36) × (l.mask ≡ mask_below 36 (named l.lines l.i))
