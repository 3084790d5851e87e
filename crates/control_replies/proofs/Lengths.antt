-- How long these answers are. Assumes nothing.
use Prim.Native.Nat.{ℕ}
use mathlib.Core.Path.{◌≡◌}
use lib.ListN.{length}
use Rattle.wire_read.proofs.Words.{length_bytes_of}
use Rattle.control_replies.specs.Replies.{value_reply}

-- to G_CTRL and S_CTRL
pub value_length : (id value : ℕ) → length (value_reply id value) ≡ 8
unfolding value_reply
value_length id value = length_bytes_of _
