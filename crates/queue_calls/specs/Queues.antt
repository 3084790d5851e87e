-- What QBUF of one stream answers.
use Rattle.std.specs.Prelude.{ℕ, List}
use Rattle.std.proofs.lemmas.List.Edits.{sets}
use Rattle.wire_read.specs.Words.{word_at}
use Rattle.stream_words.specs.Stream.{Stream}
use Rattle.stream_run.specs.Replies.{Reply}
use Rattle.stream_run.specs.Replies.Reply.{Done, Granted, Returned, Refused}
use Rattle.stream_queue.specs.Queueing.{enqueue_of}
use Rattle.stream_status.specs.Buffer.{status_of}
use Rattle.buffer_replies.specs.Replies.{buffer_reply}
use Rattle.buffer_calls.specs.Buffers.{StreamAnswer, stepped, of_memory}

-- QBUF: the buffer as it is then, unless it is refused
abbrev pub enqueue_reply : Reply → Stream → ℕ → ℕ → List ℕ → List ℕ
enqueue_reply Done s kind size a = sets a 0 (buffer_reply kind (status_of s (word_at a 0) size))
enqueue_reply (Refused why) s kind size a = a
enqueue_reply (Granted n) s kind size a = a
enqueue_reply (Returned f) s kind size a = a

unfoldable pub qbuf_of : Stream → ℕ → ℕ → List ℕ → StreamAnswer
qbuf_of s kind size a =
    of_memory 48 s a (stepped (enqueue_of s (word_at a 0)) (enqueue_reply (enqueue_of s (word_at a 0)).reply (enqueue_of s (word_at a 0)).stream kind size a))
