-- 0 where it was done, else the number of the refusal. Assumes nothing.
use mathlib.Core.Path.{◌≡◌, sym, ◌∙◌}
use mathlib.Core.Bool.{true, false}
use lib.ListN.{length}
use Rattle.ivtv_rules.specs.Reading.{readable, unpack_number}
use Rattle.ivtv.proofs.unpack.Goals as goal

pub returns-then-read : goal.returns-then-read
unfolding unpack_number
returns-then-read c =
    let w = c.read in
    let a = c.args in
    let e : readable a.block.now (length a.lines.now) ≡ true = sym w.ensures.0 ∙ c.if-read.true in
    (rw e, w.ensures.1)

pub returns : goal.returns
unfolding unpack_number
returns c =
    let w = c.read in
    let a = c.args in
    let e : readable a.block.now (length a.lines.now) ≡ false = sym w.ensures.0 ∙ c.if-read.false in
    (rw e, w.ensures.1)
