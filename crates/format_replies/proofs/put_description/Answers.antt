-- The pieces stored over zeros are those of the definition. Assumes nothing.
use Prim.Native.Nat.{◌+◌}
use mathlib.Core.List.{[], ◌∷◌}
use native.Mathlib.Omega.{arith}
use lib.ListN.{replicate, take, drop, length-replicate, length-take}
use Rattle.wire_read.specs.Words.{le32, bytes_of}
use Rattle.sheet_contents.specs.Contents.{format_at}
use Rattle.sheet_records.specs.Records.{format_code, format_description}
use Rattle.format_replies.specs.Replies.{description_reply}
use Rattle.format_replies.proofs.Pieces.{three_pieces}
use Rattle.format_replies.proofs.put_description.Goals as goal

pub returns : goal.returns
unfolding description_reply format_description format_code bytes_of le32
returns c =
    let a = c.args in
    let s = a.sheet.now in
    let d = drop (format_at s a.k + 4) s in
    rw (c.put_word.ensures, c.word_at.ensures, c.put_part.ensures, c.format_at-at.ensures.0, c.put_words.ensures, c.put_bytes.ensures)
    (three_pieces (replicate 64 0) a.argument.now (bytes_of (a.k ∷ 1 ∷ [])) (take 32 d) 0 12
    (simp length-replicate (omega arith))
    (simp length-replicate (omega (arith, length-take 32 d)))
    (le32 (format_code s a.k)) 44
    (simp length-replicate (omega arith)))
