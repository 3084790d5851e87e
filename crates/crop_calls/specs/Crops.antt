-- What the requests about the crop answer.
use Rattle.std.specs.Prelude.{ℕ, List}
use Rattle.std.proofs.lemmas.List.Edits.{sets}
use Rattle.wire_signed.specs.Signed.{signed_at}
use Rattle.sheet_geometry.specs.Geometry.{crop_bounds}
use Rattle.sheet_geometry.specs.declared.Rect.{Rect}
use Rattle.crop_rules.specs.Crop.{clamped}
use Rattle.crop_replies.specs.Replies.{crop_reply, crop_capability_reply}
use Rattle.device_state.specs.State.{State, with_crop}
use Rattle.device_state.specs.Answers.{Answer, done, typed}

-- CROPCAP
unfoldable pub cropcap_of : List ℕ → State → List ℕ → Answer
cropcap_of s d a = typed 0 d a (done d (sets a 0 (crop_capability_reply s)))

-- G_CROP
unfoldable pub g_crop_of : State → List ℕ → Answer
g_crop_of d a = typed 0 d a (done d (sets a 0 (crop_reply d.crop)))

-- left, top, width and height of an argument
unfoldable pub asked_crop : List ℕ → Rect
asked_crop a = record { left = signed_at a 4; top = signed_at a 8; width = signed_at a 12; height = signed_at a 16 }

-- S_CROP: the argument stays
unfoldable pub s_crop_of : List ℕ → State → List ℕ → Answer
s_crop_of s d a = typed 0 d a (done (with_crop d (clamped (crop_bounds s) (asked_crop a))) a)
