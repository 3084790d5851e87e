-- The part that the four bytes are stored in is theirs. Assumes nothing.
use mathlib.Core.Path.{◌∙◌}
use Prim.Native.Nat.{◌+◌}
use native.Mathlib.Omega.{arith}
use Rattle.wire_read.specs.Words.{le32}
use Rattle.wire_read.proofs.Parts.{part_over}
use Rattle.wire_store.proofs.store.Goals as goal

pub returns : goal.returns
unfolding le32
returns c =
    let a = c.args in
    part_over a.dst.now c.copy_from_slice.new.self (le32 a.w) a.at (a.at + 4) (c.copy_from_slice.ensures.after ∙ c.to_le_bytes.ensures) (omega arith) (omega (arith, c.requires))
