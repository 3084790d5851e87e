-- What one more count of handed-over frames does, by the stream before it. Assumes nothing.
use Rattle.std.proofs.Common.{◌≡◌, ℕ, List, length, get_or, set, sym, ap, ◌∙◌, arith}
use Rattle.stream_words.specs.Stream.{Stream, on_queues}
use Rattle.stream_words.specs.Words.{stream_in}
use Rattle.stream_words.specs.Moves.{popped}
use Rattle.stream_words.proofs.Record.{stored, stream_set, handed_is}
use Rattle.stream_run.specs.Stream.{one_more, handed_run}

-- one more is handed over
pub one_handed : (v : List ℕ) (s : Stream) (x : ℕ) → length v ≡ 208 → stream_in v ≡ on_queues popped s → x ≡ one_more (get_or v 4 0)
    → stream_in (set v 4 x) ≡ record { length = s.length; streaming = s.streaming; run = handed_run s.run; number = s.number; queues = popped s.queues; maps = s.maps }
one_handed v s x long e f =
    let h : get_or v 4 0 ≡ s.run.handed = sym (handed_is v) ∙ ap (λ (t : Stream). t.run.handed) e in
    stream_set v 4 x long (omega arith) ∙ ap (λ (t : Stream). stored t 4 x) e ∙ rw (f, h)
