-- The faults of the crop, and devices that have them.
use mathlib.Core.Path.{◌≡◌, refl, sym, ap, ◌∙◌}
use mathlib.Core.Bool.{true, false, false≢true}
use Prim.Native.Nat.{ℕ, ◌%◌}
use native.Mathlib.Omega.{arith}
use mathlib.Core.List.{List, [], ◌∷◌}
use lib.IntN.{negsuc, nat_abs}
use lib.Signed.{le_z}
use Rattle.wire_read.specs.Lists.{any}
use Rattle.wire_read.specs.Words.{word_at, le32, bytes_of}
use Rattle.wire_signed.specs.Signed.{signed, bits, signed_at, above, distance}
use Rattle.ioctl_table.specs.Table.{request_of, call_of, known_words}
use Rattle.ioctl_table.specs.declared.table.Call.TheVariants.{SCrop}
use Rattle.sheet_contents.specs.Contents.{geometry_at}
use Rattle.sheet_geometry.specs.Geometry.{rect_at, crop_bounds, crop_default}
use Rattle.sheet_geometry.specs.declared.Rect.{Rect}
use Rattle.sheet_rules.specs.Rules.{inside_ok, default_ok}
use Rattle.crop_rules.specs.Crop.{min_z, max_z, clamp_z, size_in, clamped_place, even_down, fields_apart, width_in, height_in, left_in, clamped_top, top_in, clamped, opening_crop}
use Rattle.crop_rules.proofs.Laws.{inside_up}
use Rattle.crop_replies.specs.Replies.{crop_reply}
use Rattle.crop_calls.specs.Crops.{asked_crop}
use Rattle.claims.specs.Calls.{Kind, Call}
use Rattle.claims.specs.Calls.Call.{request}
use Rattle.claims.specs.Machine.{Session, more}
use Rattle.claims_together.specs.Crops.{CropTold, bounds_in, SetsNoCrop}
use Rattle.claims_together.proofs.Switched.{call_in}
use Rattle.claims_together.proofs.Waiting.{by_call}
use Rattle.claims_together.proofs.Crops.{bounds_are}
use Rattle.claims_together.proofs.Meets.{device_meets}
use Rattle.bench_sheet.specs.Bench.{odd_sheet}
use Rattle.bench_sheet.proofs.Good.{odd_good}
use Rattle.claims_shut_out.specs.Calls.{dark}
use Rattle.claims_shut_out.specs.Faults.{FieldsMixed, TopLowered, CropMoved, Out}
use Rattle.claims_shut_out.specs.Wrong.{ours, place, crop_after, cropping, as_it_is, inside, apart_first, even_itself, even_up, opening_left_out, not_rounded, rounded_first, top_itself, rounded_up, crop_forgotten}
use Rattle.claims_shut_out.proofs.Played.{dark_long}

-- ---- no machine has them

pub fields_mixed : Out FieldsMixed
fields_mixed M (s, m, cs, t, odd) meets = omega (arith, odd, (meets.fields_apart_law s m).even cs t)

pub top_lowered : Out TopLowered
top_lowered M (s, m, cs, w, a, call, z, t, within, lower) meets =
    let set = (meets.fields_apart_law s m).set cs w a call z t in
    false≢true (sym lower ∙ ap (λ (r : Rect). le_z r.top (asked_crop a).top) set ∙ inside_up (bounds_in (M s m) (more cs (request w a)) t) (asked_crop a) within)

pub crop_moved : Out CropMoved
crop_moved M (s, m, cs, c, none, t, u, moved) meets = moved ((meets.fields_apart_law s m).stays cs c none t u)

-- ---- there are devices that have them, on the sheet with odd tops

abbrev S : Session
S = ours odd_sheet dark

opened : S.opening ≡ 0
opened = (device_meets.demand_1 odd_sheet dark).opening ∙ rw (odd_good, dark_long Kind.pictures, dark_long Kind.captions)

-- left -8, 640 wide, of this top and height
abbrev crop : ℕ → ℕ → List ℕ
crop top height = bytes_of (1 ∷ 0xFFFFFFF8 ∷ top ∷ 640 ∷ height ∷ [])

abbrev limits : List ℕ
limits = bytes_of (1 ∷ 0 ∷ 0 ∷ 0 ∷ 0 ∷ 0 ∷ 0 ∷ 0 ∷ 0 ∷ 0 ∷ 0 ∷ [])

-- both calls, of a session that accepts them
asks : (T : Session) (cs : List Call) → (T.request cs 0xC014563B (crop 0 0)).number ≡ 0 → (T.request cs 0xC02C563A limits).number ≡ 0 → CropTold T cs
unfolding request_of call_of known_words
asks T cs got limits_got = record {
  word = 0xC014563B;
  argument = crop 0 0;
  is_get = refl;
  got = got;
  limits_word = 0xC02C563A;
  limits_argument = limits;
  is_limits = refl;
  limits_got = limits_got;
}

module _ (cs : List Call) where
  gets : (S.request cs 0xC014563B (crop 0 0)).number ≡ 0
  unfolding request_of call_of known_words word_at le32 bytes_of
  gets = (device_meets.fields_apart_law odd_sheet dark).told cs 0xC014563B (crop 0 0) opened refl refl refl

  gets_limits : (S.request cs 0xC02C563A limits).number ≡ 0
  unfolding request_of call_of known_words word_at le32 bytes_of
  gets_limits = (device_meets.fields_apart_law odd_sheet dark).limits_told cs 0xC02C563A limits opened refl refl refl

  bounds_told : rect_at (S.request cs 0xC02C563A limits).argument 4 ≡ crop_bounds odd_sheet
  unfolding asks
  bounds_told = bounds_are odd_sheet dark S (device_meets.demand_1 odd_sheet dark) (device_meets.answers odd_sheet dark) cs (asks S cs gets gets_limits)

module _ (first g : Rect → Rect → Rect) where
  -- a device with other rules accepts them too
  asks_other : (cs : List Call) → CropTold (cropping first g odd_sheet dark) cs
  unfolding request_of call_of known_words
  asks_other cs = asks (cropping first g odd_sheet dark) cs (gets cs) (gets_limits cs)

  -- it tells the crop by its rules, and the bounds of the sheet
  abbrev told : List Call → Rect
  told cs = rect_at (crop_reply (crop_after (g (crop_bounds odd_sheet)) (first (crop_bounds odd_sheet) (crop_default odd_sheet)) cs)) 4

  mixes : (cs : List Call) → distance (crop_bounds odd_sheet).top (told cs).top % 2 ≡ 1 → FieldsMixed (cropping first g)
  unfolding asks asks_other request_of call_of known_words
  mixes cs odd = (odd_sheet, dark, cs, asks_other cs, ap (λ (b : Rect). distance b.top (told cs).top % 2) (bounds_told cs) ∙ odd)

  lowers : (a : List ℕ) → (S.request [] 0x4014563C a).number ≡ 0 → default_ok (crop_bounds odd_sheet) (asked_crop a) ≡ true → le_z (told (request 0x4014563C a ∷ [])).top (asked_crop a).top ≡ false
      → TopLowered (cropping first g)
  unfolding asks asks_other request_of call_of known_words
  lowers a z within lower =
      let cs : List Call = request 0x4014563C a ∷ [] in
      (odd_sheet, dark, [], 0x4014563C, a, refl, z, asks_other cs, ap (λ (b : Rect). default_ok b (asked_crop a)) (bounds_told cs) ∙ within, lower)

-- the default begins a line below the bounds
pub leaves_opening_out : FieldsMixed opening_left_out
unfolding odd_sheet word_at le32 bytes_of signed bits signed_at above distance geometry_at rect_at crop_bounds crop_default crop_reply
leaves_opening_out = mixes as_it_is clamped [] refl

-- a line below the bounds, 300 high
pub does_not_round : FieldsMixed not_rounded
unfolding odd_sheet request_of call_of known_words word_at le32 bytes_of signed bits signed_at above distance geometry_at rect_at crop_bounds crop_default crop_reply asked_crop min_z max_z clamp_z size_in clamped_place width_in height_in left_in clamped_top
does_not_round = mixes clamped inside (request 0x4014563C (crop 0xFFFFFFFA 300) ∷ []) refl

-- 93 is at an even distance; 301 high begins at 92 or above
pub rounds_first : FieldsMixed rounded_first
unfolding odd_sheet request_of call_of known_words word_at le32 bytes_of signed bits signed_at above distance geometry_at rect_at crop_bounds crop_default crop_reply asked_crop min_z max_z clamp_z size_in clamped_place even_down fields_apart width_in height_in left_in
rounds_first = mixes clamped apart_first (request 0x4014563C (crop 93 301) ∷ []) refl

-- -5 is at an even distance, and no even number
pub rounds_itself : FieldsMixed top_itself
unfolding odd_sheet request_of call_of known_words word_at le32 bytes_of signed bits signed_at above distance geometry_at rect_at crop_bounds crop_default crop_reply asked_crop min_z max_z clamp_z size_in clamped_place width_in height_in left_in clamped_top
rounds_itself = mixes clamped even_itself (request 0x4014563C (crop 0xFFFFFFFB 300) ∷ []) refl

-- from -6 to -5
pub rounds_up : TopLowered rounded_up
unfolding odd_sheet request_of call_of known_words word_at le32 bytes_of signed bits signed_at above distance geometry_at rect_at crop_bounds crop_default crop_reply asked_crop inside_ok default_ok min_z max_z clamp_z size_in clamped_place width_in height_in left_in clamped_top
rounds_up = lowers clamped even_up (crop 0xFFFFFFFA 300) (by_call odd_sheet dark Kind.pictures S (device_meets.demand_1 odd_sheet dark) [] 0x4014563C (crop 0xFFFFFFFA 300) SCrop refl ∙ rw opened) refl refl

-- ---- a crop that an S_FMT moves

abbrev cropped : List Call
cropped = request 0x4014563C (crop 0xFFFFFFFB 300) ∷ []

-- S_FMT is no S_CROP
sets_no_crop : (T : Session) (cs : List Call) (b : List ℕ) → SetsNoCrop T cs (request 0xC0CC5605 b)
unfolding request_of call_of known_words
sets_no_crop T cs b w a e is z = omega (arith, ap place (ap call_in e ∙ is))

sets_crop : (S.request [] 0x4014563C (crop 0xFFFFFFFB 300)).number ≡ 0
unfolding request_of call_of known_words word_at le32 bytes_of
sets_crop = by_call odd_sheet dark Kind.pictures S (device_meets.demand_1 odd_sheet dark) [] 0x4014563C (crop 0xFFFFFFFB 300) SCrop refl ∙ rw opened

-- top -5 is told before it, and -7, that of the opening, behind it
told_before : signed_at (S.request cropped 0xC014563B (crop 0 0)).argument 8 ≡ negsuc 4
unfolding asks request_of call_of known_words odd_sheet word_at le32 bytes_of signed bits signed_at above distance geometry_at rect_at crop_bounds asked_crop min_z max_z clamp_z size_in clamped_place even_down fields_apart width_in height_in left_in clamped_top top_in clamped
told_before =
    ap (λ (r : Rect). r.top)
    ((device_meets.fields_apart_law odd_sheet dark).set [] 0x4014563C (crop 0xFFFFFFFB 300) refl sets_crop (asks S cropped (gets cropped) (gets_limits cropped)) ∙ ap (λ (b : Rect). clamped b (asked_crop (crop 0xFFFFFFFB 300))) (bounds_told cropped))

told_behind : (rect_at (crop_reply (opening_crop odd_sheet)) 4).top ≡ negsuc 6
unfolding odd_sheet word_at le32 bytes_of signed bits signed_at above distance geometry_at rect_at crop_bounds crop_default crop_reply min_z max_z clamp_z size_in clamped_place even_down fields_apart width_in height_in left_in clamped_top top_in clamped opening_crop
told_behind = refl

pub forgets : CropMoved crop_forgotten
unfolding asks request_of call_of known_words any rect_at
forgets =
    let T : Session = crop_forgotten odd_sheet dark in
    let c : Call = request 0xC0CC5605 [] in
    (odd_sheet, dark, cropped, c, sets_no_crop T cropped [], asks T cropped (gets cropped) (gets_limits cropped), asks T (more cropped c) (gets (more cropped c)) (gets_limits (more cropped c)), moved)
  where
    moved : rect_at (crop_reply (opening_crop odd_sheet)) 4 ≡ rect_at (S.request cropped 0xC014563B (crop 0 0)).argument 4 → ⊥
    moved e = omega (arith, ap nat_abs (sym told_behind ∙ ap (λ (r : Rect). r.top) e ∙ told_before))
