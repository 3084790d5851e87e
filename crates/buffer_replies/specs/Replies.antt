-- The bytes of answers about buffers, field by field in the order of the header.
use Rattle.std.specs.Prelude.{ℕ, ◌%◌, ◌^◌, List, [], ◌∷◌}
use Rattle.wire_read.specs.Words.{bytes_of}
use Rattle.wire_signed.specs.Signed.{bits}
use Rattle.stream_status.specs.declared.Status.{Status}

-- REQBUFS: count, type, memory, two reserved words
unfoldable pub buffers_reply : ℕ → ℕ → List ℕ
buffers_reply kind count = bytes_of (count ∷ kind ∷ 1 ∷ 0 ∷ 0 ∷ [])

-- QUERYBUF, QBUF, DQBUF: index, type, bytes used, flags, field none, time, no time code, number, memory, offset, length, the rest zero
abbrev pub buffer_words : ℕ → Status → List ℕ
buffer_words kind b =
    b.index ∷ kind ∷ b.used ∷ b.flags ∷ 1 ∷ bits b.time.seconds ∷ bits b.time.microseconds ∷ 0 ∷ 0 ∷ 0 ∷ 0
    ∷ b.number ∷ 1 ∷ b.offset % 2 ^ 32 ∷ b.length % 2 ^ 32 ∷ 0 ∷ 0 ∷ []

unfoldable pub buffer_reply : ℕ → Status → List ℕ
buffer_reply kind b = bytes_of (buffer_words kind b)
