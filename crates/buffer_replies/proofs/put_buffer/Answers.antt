-- The words stored are those of the definition: the times go through their bits unchanged, the masks keep 32 bits. Assumes nothing.
use Prim.Native.Nat.{ℕ, ◌%◌, ◌^◌, ◌<◌}
use native.Mathlib.Omega.{arith}
use borrow.Author.Rules.{rules}
use lib.Bits.{bit_and, and_mask}
use mir.Syntax.{w32}
use mir.Val.{Fits}
use Rattle.wire_signed.proofs.Integers.{again}
use Rattle.buffer_replies.specs.Replies.{buffer_reply}
use Rattle.buffer_replies.proofs.put_buffer.Goals as goal

-- a masked number fits 32 bits
masked : (x : ℕ) → Fits w32 (bit_and x 4294967295)
masked x = rw (and_mask x 32) (record { fits = below })
  where
    below : x % 2 ^ 32 < 2 ^ 32
    below = omega arith

pub returns : goal.returns
unfolding buffer_reply
returns c =
    let b = c.args.b in
    rw (
      c.put_words.ensures,
      c.as_bits.ensures,
      c.as_bits-2.ensures,
      again b.time.seconds (search rules),
      again b.time.microseconds (search rules),
      and_mask b.offset 32,
      and_mask b.length 32,
    )
