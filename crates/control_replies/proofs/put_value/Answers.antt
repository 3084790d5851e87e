-- The words stored are those of the definition. Assumes nothing.
use Rattle.control_replies.specs.Replies.{value_reply}
use Rattle.control_replies.proofs.put_value.Goals as goal

pub returns : goal.returns
unfolding value_reply
returns c = c.put_words.ensures
