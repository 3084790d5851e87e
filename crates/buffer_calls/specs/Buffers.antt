-- What the requests about the buffers of one stream answer; here REQBUFS and QUERYBUF.
use Rattle.std.specs.Prelude.{ℕ, cond, not, List, eqb, Result, Ok, Err}
use Rattle.std.proofs.lemmas.List.Edits.{sets}
use Rattle.wire_read.specs.Words.{word_at}
use Rattle.ioctl_table.specs.Refusal.{errno_of}
use Rattle.ioctl_table.specs.declared.refusals.Refusal.{Refusal}
use Rattle.ioctl_table.specs.declared.refusals.Refusal.TheVariants.{WrongMemory}
use Rattle.stream_words.specs.Stream.{Stream}
use Rattle.stream_run.specs.Replies.{Reply}
use Rattle.stream_run.specs.Replies.Reply.{Done, Granted, Returned, Refused}
use Rattle.stream_run.specs.Switches.{Step, request_buffers_of}
use Rattle.stream_run.specs.Numbers.{reply_number}
use Rattle.stream_status.specs.declared.Status.{Status}
use Rattle.stream_status.specs.Buffer.{query_of}
use Rattle.buffer_replies.specs.Replies.{buffers_reply, buffer_reply}

-- the number given back, the stream after the call, the argument after it
pub record StreamAnswer : Type 0 where
  pub number : ℕ
  pub stream : Stream
  pub argument : List ℕ

abbrev pub stream_answer : ℕ → Stream → List ℕ → StreamAnswer
stream_answer n s a = record { number = n; stream = s; argument = a }

-- a call on the stream gives back its reply's number and leaves what it leaves; the argument is then this
abbrev pub stepped : Step → List ℕ → StreamAnswer
stepped r b = stream_answer (reply_number r.reply) r.stream b

-- only for memory 1, the only kind there is
abbrev pub of_memory : ℕ → Stream → List ℕ → StreamAnswer → StreamAnswer
of_memory at s a r = cond (not (eqb (word_at a at) 1)) (stream_answer (errno_of WrongMemory) s a) r

-- REQBUFS: how many there are now, unless it is refused
abbrev pub request_reply : Reply → ℕ → List ℕ → List ℕ
request_reply (Granted n) kind a = sets a 0 (buffers_reply kind n)
request_reply (Refused why) kind a = a
request_reply Done kind a = a
request_reply (Returned f) kind a = a

unfoldable pub reqbufs_of : Stream → ℕ → ℕ → List ℕ → StreamAnswer
reqbufs_of s kind size a = of_memory 8 s a (stepped (request_buffers_of s (word_at a 0) size) (request_reply (request_buffers_of s (word_at a 0) size).reply kind a))

-- QUERYBUF: an index that is there
abbrev pub queried_as : Result Status Refusal → Stream → ℕ → List ℕ → StreamAnswer
queried_as (Ok b) s kind a = stream_answer 0 s (sets a 0 (buffer_reply kind b))
queried_as (Err why) s kind a = stream_answer (errno_of why) s a

unfoldable pub querybuf_of : Stream → ℕ → ℕ → List ℕ → StreamAnswer
querybuf_of s kind size a = queried_as (query_of s (word_at a 0) size) s kind a
