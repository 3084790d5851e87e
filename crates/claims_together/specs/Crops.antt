-- The crop keeps the fields apart: told from what S_CROP asks for and what G_CROP and CROPCAP answer. The sheet is not looked at here, nor the
-- desk: bounds and default are those that CROPCAP tells.
use Rattle.std.specs.Prelude.{ℕ, ◌%◌, ◌≡◌, true, List, [], length}
use Rattle.wire_read.specs.Words.{word_at}
use Rattle.wire_signed.specs.Signed.{distance}
use Rattle.ioctl_table.specs.Table.{request_of}
use Rattle.ioctl_table.specs.declared.table.Call.TheVariants.{Cropcap, GCrop, SCrop}
use Rattle.sheet_geometry.specs.Geometry.{rect_at}
use Rattle.sheet_geometry.specs.declared.Rect.{Rect}
use Rattle.sheet_rules.specs.Rules.{default_ok}
use Rattle.crop_rules.specs.Crop.{clamped, top_apart}
use Rattle.crop_calls.specs.Crops.{asked_crop}
use Rattle.claims.specs.Calls.{Kind, type_of, Call}
use Rattle.claims.specs.Calls.Call.{request}
use Rattle.claims.specs.Machine.{Session, more}

-- After these calls a G_CROP and a CROPCAP are asked, each by its word and argument, and both are accepted.
pub record CropTold (S : Session) (cs : List Call) : Type 0 where
  pub word : ℕ
  pub argument : List ℕ
  pub is_get : (request_of word).call ≡ GCrop
  pub got : (S.request cs word argument).number ≡ 0
  pub limits_word : ℕ
  pub limits_argument : List ℕ
  pub is_limits : (request_of limits_word).call ≡ Cropcap
  pub limits_got : (S.request cs limits_word limits_argument).number ≡ 0

module _ (S : Session) (cs : List Call) (t : CropTold S cs) where
  -- the crop in the bytes that G_CROP answers, the bounds and the default in those that CROPCAP answers
  abbrev pub crop_in : Rect
  crop_in = rect_at (S.request cs t.word t.argument).argument 4

  abbrev pub bounds_in : Rect
  bounds_in = rect_at (S.request cs t.limits_word t.limits_argument).argument 4

  abbrev pub default_in : Rect
  default_in = rect_at (S.request cs t.limits_word t.limits_argument).argument 20

-- a call made after these that is no accepted S_CROP
abbrev pub SetsNoCrop : Session → List Call → Call → Type 0
SetsNoCrop S cs c = (w : ℕ) (a : List ℕ) → c ≡ request w a → (request_of w).call ≡ SCrop → (S.request cs w a).number ≡ 0 → ⊥

pub record FieldsApart (S : Session) : Type 0 where
  -- a device that was opened tells its crop whenever it is asked, and its bounds and default
  pub told : (cs : List Call) (w : ℕ) (a : List ℕ) → S.opening ≡ 0 → (request_of w).call ≡ GCrop → length a ≡ 20 → word_at a 0 ≡ type_of Kind.pictures → (S.request cs w a).number ≡ 0
  pub limits_told : (cs : List Call) (w : ℕ) (a : List ℕ) → S.opening ≡ 0 → (request_of w).call ≡ Cropcap → length a ≡ 44 → word_at a 0 ≡ type_of Kind.pictures → (S.request cs w a).number ≡ 0
  -- whatever was called, the crop lies inside the bounds
  pub inside : (cs : List Call) (t : CropTold S cs) → default_ok (bounds_in S cs t) (crop_in S cs t) ≡ true
  -- and its top at an even distance from theirs
  pub even : (cs : List Call) (t : CropTold S cs) → distance (bounds_in S cs t).top (crop_in S cs t).top % 2 ≡ 0
  -- after the opening it is the default, with its top at the last even distance up to where it was
  pub opening : (t : CropTold S []) → crop_in S [] t ≡ top_apart (bounds_in S [] t) (default_in S [] t)
  -- after an S_CROP it is what the rules of a crop make of the rectangle that was asked for
  pub set : (cs : List Call) (w : ℕ) (a : List ℕ) → (request_of w).call ≡ SCrop → (S.request cs w a).number ≡ 0 → (t : CropTold S (more cs (request w a)))
      → crop_in S (more cs (request w a)) t ≡ clamped (bounds_in S (more cs (request w a)) t) (asked_crop a)
  -- and every other call leaves it as it was
  pub stays : (cs : List Call) (c : Call) → SetsNoCrop S cs c → (t : CropTold S cs) (u : CropTold S (more cs c)) → crop_in S (more cs c) u ≡ crop_in S cs t
