-- The words stored are those of the definition. Assumes nothing.
use Rattle.crop_replies.specs.Replies.{crop_reply}
use Rattle.crop_replies.proofs.put_crop.Goals as goal

pub returns : goal.returns
unfolding crop_reply
returns c = rw (c.put_words.ensures, c.rect_words-w.ensures)
