-- What was stored in the local array is what is stored from there. Assumes nothing.
use mathlib.Core.Path.{◌≡◌, ◌∙◌}
use Prim.Native.Nat.{◌+◌, ◌-◌}
use native.Mathlib.Omega.{arith}
use lib.ListN.{length, take, drop, length-take, length-drop}
use lib.Seq.{take_at}
use Rattle.wire_read.proofs.Parts.{part_over}
use Rattle.wire_copy.proofs.copy_block.Goals as goal

pub returns : goal.returns
returns c =
    let a = c.args in
    let whole : a.from + a.n - a.from ≡ a.n = omega arith in
    let once = rw whole at c.copy_from_slice.ensures.after in
    let long : length (take a.n (drop a.from a.src.now)) ≡ a.n = omega (arith, c.requires.n_in_bounds_2, length-take a.n (drop a.from a.src.now), length-drop a.from a.src.now) in
    part_over a.dst.now c.copy_from_slice-2.new.self (take a.n (drop a.from a.src.now)) a.at (a.at + a.n)
    (c.copy_from_slice-2.ensures.after ∙ rw once (take_at (take a.n (drop a.from a.src.now)) _ a.n long))
    (omega (arith, long))
    (omega (arith, c.requires.n_in_bounds))
