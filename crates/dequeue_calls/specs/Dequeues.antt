-- What DQBUF of one stream answers.
use Rattle.std.specs.Prelude.{ℕ, List}
use Rattle.std.proofs.lemmas.List.Edits.{sets}
use Rattle.stream_words.specs.Stream.{Stream}
use Rattle.stream_run.specs.Replies.{Reply}
use Rattle.stream_run.specs.Replies.Reply.{Done, Granted, Returned, Refused}
use Rattle.stream_queue.specs.Queueing.{dequeue_of}
use Rattle.stream_status.specs.Buffer.{returned_of}
use Rattle.buffer_replies.specs.Replies.{buffer_reply}
use Rattle.buffer_calls.specs.Buffers.{StreamAnswer, stepped, of_memory}

-- DQBUF: the buffer handed over, unless it is refused
abbrev pub dequeue_reply : Reply → Stream → ℕ → ℕ → List ℕ → List ℕ
dequeue_reply (Returned f) s kind size a = sets a 0 (buffer_reply kind (returned_of s.maps f size))
dequeue_reply (Refused why) s kind size a = a
dequeue_reply Done s kind size a = a
dequeue_reply (Granted n) s kind size a = a

unfoldable pub dqbuf_of : Stream → ℕ → ℕ → List ℕ → StreamAnswer
dqbuf_of s kind size a = of_memory 48 s a (stepped (dequeue_of s) (dequeue_reply (dequeue_of s).reply (dequeue_of s).stream kind size a))
