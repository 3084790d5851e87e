-- How long these answers are. Assumes nothing.
use Prim.Native.Nat.{ℕ}
use mathlib.Core.Path.{◌≡◌}
use mathlib.Core.List.{List}
use lib.ListN.{length, length-replicate}
use lib.Seq.{length-sets}
use Rattle.format_replies.specs.Replies.{capability_reply, description_reply}

-- ---- lengths, those of the header's structures

-- the answer to QUERYCAP
pub capability_length : (s : List ℕ) → length (capability_reply s) ≡ 104
unfolding capability_reply
capability_length s = simp (length-sets, length-replicate)

-- to ENUM_FMT
pub description_length : (s : List ℕ) (k : ℕ) → length (description_reply s k) ≡ 64
unfolding description_reply
description_length s k = simp (length-sets, length-replicate)
