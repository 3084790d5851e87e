-- The pieces stored over zeros are those of the definition. Assumes nothing.
use native.Mathlib.Omega.{arith}
use lib.ListN.{replicate, take, drop, length-replicate, length-take}
use Rattle.wire_read.specs.Words.{le32}
use Rattle.sheet_contents.specs.Contents.{identity_at, identity_of}
use Rattle.format_replies.specs.Replies.{capability_reply}
use Rattle.format_replies.proofs.Pieces.{two_pieces}
use Rattle.format_replies.proofs.put_capability.Goals as goal

pub returns : goal.returns
unfolding capability_reply identity_of le32
returns c =
    let a = c.args in
    let s = a.sheet.now in
    rw (c.put_word.ensures, c.put_part.ensures, c.identity_at.ensures, c.put_bytes.ensures)
    (two_pieces (replicate 104 0) a.argument.now (take 84 (drop (identity_at s) s)) (le32 0x04000041) 0 84
    (simp length-replicate (omega (arith, length-take 84 (drop (identity_at s) s))))
    (simp length-replicate (omega arith)))
