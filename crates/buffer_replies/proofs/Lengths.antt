-- How long these answers are, and what stands in them. Assumes nothing.
use Prim.Native.Nat.{ℕ, ◌*◌, ◌^◌, ◌<◌}
use mathlib.Core.Path.{◌≡◌, ◌∙◌, ap}
use mathlib.Core.List.{[], ◌∷◌}
use native.Mathlib.Nat.{mod-eq_of_lt}
use native.Mathlib.Omega.{arith}
use lib.IntN.{ℤ}
use lib.ListN.{length, get_or}
use lib.Signed.{mag}
use mir.Syntax.{w32}
use mir.Facts.{Fits-of_z}
use Rattle.wire_read.specs.Words.{word_at}
use Rattle.wire_signed.specs.Signed.{bits, signed, signed_at}
use Rattle.wire_read.proofs.Words.{length_bytes_of, word_of_law}
use Rattle.wire_signed.proofs.Integers.{signed_bits}
use Rattle.stream_status.specs.declared.Status.{Status}
use Rattle.buffer_replies.specs.Replies.{buffers_reply, buffer_reply, buffer_words}

-- to REQBUFS
pub buffers_length : (kind n : ℕ) → length (buffers_reply kind n) ≡ 20
unfolding buffers_reply
buffers_length kind n = length_bytes_of _

-- to QUERYBUF, QBUF and DQBUF
pub buffer_length : (kind : ℕ) (b : Status) → length (buffer_reply kind b) ≡ 68
unfolding buffer_reply
buffer_length kind b = length_bytes_of _

-- ---- words, each where its number fits

-- how many buffers there are
pub buffers_count : (kind n : ℕ) → n < 2 ^ 32 → word_at (buffers_reply kind n) 0 ≡ n
unfolding buffers_reply
buffers_count kind n h = word_of_law (n ∷ kind ∷ 1 ∷ 0 ∷ 0 ∷ []) 0 (omega arith) h

-- the 32 bits of a signed number are a word
bits_fit : (z : ℤ) → mag z < 2 ^ 31 → bits z < 2 ^ 32
unfolding bits
bits_fit z h = (Fits-of_z {w = w32} {z = z} (record { sfits = h })).fits

module _ (kind : ℕ) (b : Status) where
  -- word k of the description is read at byte 4 k
  pub buffer_word : (k : ℕ) → k < 17 → get_or (buffer_words kind b) k 0 < 2 ^ 32 → word_at (buffer_reply kind b) (4 * k) ≡ get_or (buffer_words kind b) k 0
  unfolding buffer_reply
  buffer_word k h f = word_of_law (buffer_words kind b) k h f

  -- which buffer it is
  pub buffer_index : b.index < 2 ^ 32 → word_at (buffer_reply kind b) 0 ≡ b.index
  buffer_index h = buffer_word 0 (omega arith) h

  -- how many bytes of it are used
  pub buffer_used : b.used < 2 ^ 32 → word_at (buffer_reply kind b) 8 ≡ b.used
  buffer_used h = buffer_word 2 (omega arith) h

  -- which queue it is in
  pub buffer_flags : b.flags < 2 ^ 32 → word_at (buffer_reply kind b) 12 ≡ b.flags
  buffer_flags h = buffer_word 3 (omega arith) h

  -- the frame's number
  pub buffer_number : b.number < 2 ^ 32 → word_at (buffer_reply kind b) 44 ≡ b.number
  buffer_number h = buffer_word 11 (omega arith) h

  -- where it starts, cut to 32 bits
  pub buffer_offset : b.offset < 2 ^ 32 → word_at (buffer_reply kind b) 52 ≡ b.offset
  buffer_offset h = buffer_word 13 (omega arith) (omega arith) ∙ mod-eq_of_lt h

  -- how long it is, cut to 32 bits
  pub buffer_slot : b.length < 2 ^ 32 → word_at (buffer_reply kind b) 56 ≡ b.length
  buffer_slot h = buffer_word 14 (omega arith) (omega arith) ∙ mod-eq_of_lt h

  -- the seconds of its time, a signed number
  pub buffer_seconds : mag b.time.seconds < 2 ^ 31 → signed_at (buffer_reply kind b) 20 ≡ b.time.seconds
  unfolding signed_at
  buffer_seconds h = ap signed (buffer_word 5 (omega arith) (bits_fit b.time.seconds h)) ∙ signed_bits b.time.seconds h

  -- and the microseconds
  pub buffer_microseconds : mag b.time.microseconds < 2 ^ 31 → signed_at (buffer_reply kind b) 24 ≡ b.time.microseconds
  unfolding signed_at
  buffer_microseconds h = ap signed (buffer_word 6 (omega arith) (bits_fit b.time.microseconds h)) ∙ signed_bits b.time.microseconds h
