-- What a call on a stream is answered, whichever it is: of a list of calls all answers have this type. And the reply that the result of a function is.
use Rattle.std.specs.Prelude.{ℕ, Result, Ok, Err, ⊤}
use Rattle.ioctl_table.specs.declared.refusals.Refusal.{Refusal}
use Rattle.stream_words.specs.declared.Filled.{Filled}

-- A call is done, or so many buffers are granted, or a buffer is returned with its frame, or it is refused for a reason.
pub data Reply : Type 0 where
  Done : Reply
  Granted : ℕ → Reply
  Returned : Filled → Reply
  Refused : Refusal → Reply

-- the reply of a call that gives nothing
abbrev pub done : Result ⊤ Refusal → Reply
done (Ok x) = Reply.Done
done (Err why) = Reply.Refused why

-- that of one that grants buffers
abbrev pub granted : Result ℕ Refusal → Reply
granted (Ok n) = Reply.Granted n
granted (Err why) = Reply.Refused why

-- that of one that returns a buffer
abbrev pub returned : Result Filled Refusal → Reply
returned (Ok f) = Reply.Returned f
returned (Err why) = Reply.Refused why
