-- The words stored are those of the definition. Assumes nothing.
use Rattle.buffer_replies.specs.Replies.{buffers_reply}
use Rattle.buffer_replies.proofs.put_buffers.Goals as goal

pub returns : goal.returns
unfolding buffers_reply
returns c = c.put_words.ensures
