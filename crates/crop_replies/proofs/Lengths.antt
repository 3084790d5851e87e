-- How long these answers are. Assumes nothing.
use Prim.Native.Nat.{ℕ}
use mathlib.Core.Path.{◌≡◌}
use mathlib.Core.List.{List}
use lib.ListN.{length}
use Rattle.wire_read.proofs.Words.{length_bytes_of}
use Rattle.sheet_geometry.specs.declared.Rect.{Rect}
use Rattle.crop_replies.specs.Replies.{crop_reply, crop_capability_reply}

-- to G_CROP
pub crop_length : (r : Rect) → length (crop_reply r) ≡ 20
unfolding crop_reply
crop_length r = length_bytes_of _

-- to CROPCAP
pub crop_capability_length : (s : List ℕ) → length (crop_capability_reply s) ≡ 44
unfolding crop_capability_reply
crop_capability_length s = length_bytes_of _
