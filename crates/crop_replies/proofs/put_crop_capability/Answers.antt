-- The bytes copied are those of the words of the definition. Assumes nothing.
use Rattle.crop_replies.proofs.Pieces.{capability_copied}
use Rattle.crop_replies.proofs.put_crop_capability.Goals as goal

pub returns : goal.returns
returns c =
    let a = c.args in
    rw (c.put_part.ensures, c.geometry_at-at.ensures.0, c.put_bytes.ensures, c.put_word.ensures)
    (capability_copied a.sheet.now (λ k. (c.shared_slice_known-1.given k).fits) a.argument.now)
