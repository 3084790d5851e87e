-- The crop keeps the fields apart: of every session that meets demand 1 and the answers. Assumes nothing.
use Prim.Native.Nat.{ℕ, ◌%◌}
use mathlib.Core.Path.{◌≡◌, refl, sym, ap, ap₂, ◌∙◌, subst}
use mathlib.Core.Logic.{◌⊎◌, inl, inr, ⊎_elim}
use mathlib.Core.Bool.{Bool, true, false, cond}
use borrow.Author.Tests.{eqb-true}
use mathlib.Core.List.{List, []}
use lib.Dec.{eqb}
use lib.ListN.{length}
use Rattle.wire_read.specs.Words.{word_at}
use Rattle.wire_signed.specs.Signed.{distance}
use Rattle.ioctl_table.specs.Table.{request_of}
use Rattle.ioctl_table.specs.declared.table.Call.{Call as Asked}
use Rattle.ioctl_table.specs.declared.table.Call.TheVariants.{Unknown, Querycap, EnumFmt, GFmt, SFmt, TryFmt, Reqbufs, Querybuf, Qbuf, Dqbuf, Streamon, Streamoff, GCtrl, SCtrl, Queryctrl, Cropcap, GCrop, SCrop, GSlicedVbiCap}
use Rattle.sheet_geometry.specs.Geometry.{rect_at, crop_bounds, crop_default}
use Rattle.sheet_geometry.specs.declared.Rect.{Rect}
use Rattle.sheet_rules.specs.Rules.{inside_ok, bound_ok, bounds_ok, default_ok, good_sheet}
use Rattle.sheet_rules.proofs.Truth.{both}
use Rattle.crop_rules.specs.Crop.{clamped, opening_crop, top_apart}
use Rattle.crop_rules.proofs.Laws.{inside_both, inside_fits, last_even_top, bounds_good, bounds_inside, default_inside, opening_taken}
use Rattle.crop_replies.specs.Replies.{crop_capability_reply}
use Rattle.crop_replies.proofs.Back.{Held, crop_back, bounds_back, default_back}
use Rattle.crop_calls.specs.Crops.{asked_crop}
use Rattle.claims.specs.Calls.{Kind, Call, Reply}
use Rattle.claims.specs.Calls.Call.{request, arrival, change}
use Rattle.claims.specs.Calls.Reply.{answered, taken, numbered}
use Rattle.claims.specs.Machine.{Session, more, reply_in}
use Rattle.claims.specs.Words.{papers_in}
use Rattle.claims.specs.Table.{named}
use Rattle.claims.specs.Desk.{Desk, chosen, choice, desk_in}
use Rattle.claims.specs.Answers.{answer_on}
use Rattle.claims.specs.Demands.{Demand1, Answers}
use Rattle.claims.proofs.Sessions.{every, desk_more}
use Rattle.claims_together.specs.Crops.{CropTold, crop_in, bounds_in, default_in, SetsNoCrop, FieldsApart}
use Rattle.claims_together.proofs.Waiting.{by_call}
use Rattle.claims_together.proofs.Sizes.{good}

-- ---- the crop on the desk

-- one of two desks that have this crop
either : (r : Rect) (x : Bool) (y z : Desk) → y.crop ≡ r → z.crop ≡ r → (cond x y z).crop ≡ r
either r true y z e f = e
either r false y z e f = f

module _ (s : List ℕ) (q : Desk) where
  -- a request leaves it, or it is S_CROP
  crop_left : (c : Asked) (a b : List ℕ) → ((chosen s q c a b).crop ≡ q.crop) ⊎ (c ≡ SCrop)
  crop_left Unknown a b = inl refl
  crop_left Querycap a b = inl refl
  crop_left EnumFmt a b = inl refl
  crop_left GFmt a b = inl refl
  crop_left SFmt a b = inl (either q.crop (eqb (word_at a 0) 6) _ _ refl refl)
  crop_left TryFmt a b = inl refl
  crop_left Reqbufs a b = inl refl
  crop_left Querybuf a b = inl refl
  crop_left Qbuf a b = inl refl
  crop_left Dqbuf a b = inl refl
  crop_left Streamon a b = inl refl
  crop_left Streamoff a b = inl refl
  crop_left GCtrl a b = inl refl
  crop_left SCtrl a b = inl (either q.crop (eqb (named s a).kind 4) _ _ refl refl)
  crop_left Queryctrl a b = inl refl
  crop_left Cropcap a b = inl refl
  crop_left GCrop a b = inl refl
  crop_left SCrop a b = inr refl
  crop_left GSlicedVbiCap a b = inl refl

-- a call that is no accepted S_CROP leaves it
crop_stays : (s : List ℕ) (S : Session) (cs : List Call) (c : Call) → SetsNoCrop S cs c → (desk_in s S (more cs c)).crop ≡ (desk_in s S cs).crop
crop_stays s S cs c none = ap (λ (q : Desk). q.crop) (desk_more s S cs c) ∙ by_call_made c none
  where
    answered_with : (w : ℕ) (a : List ℕ) → SetsNoCrop S cs (request w a) → (x : Bool) → eqb (S.request cs w a).number 0 ≡ x
        → (cond x (chosen s (desk_in s S cs) (request_of w).call a (S.request cs w a).argument) (desk_in s S cs)).crop ≡ (desk_in s S cs).crop
    answered_with w a none true e =
        ⊎_elim (λ l. l) (λ is. absurd (none w a refl is (eqb-true (S.request cs w a).number 0 e))) (crop_left s (desk_in s S cs) (request_of w).call a (S.request cs w a).argument)
    answered_with w a none false e = refl

    by_call_made : (c : Call) → SetsNoCrop S cs c → (choice s (desk_in s S cs) c (reply_in S cs c)).crop ≡ (desk_in s S cs).crop
    by_call_made (request w a) none = answered_with w a none (eqb (S.request cs w a).number 0) refl
    by_call_made (arrival t f x y other) none = refl
    by_call_made (change c t o l) none = refl

-- ---- it was always taken in the bounds

-- some rectangle was, and this is what became of it
abbrev Taken : List ℕ → Rect → Type 0
Taken s r = (a : Rect) × (r ≡ clamped (crop_bounds s) a)

module _ (s : List ℕ) (q : Desk) (before : Taken s q.crop) where
  taken_call : (c : Asked) (a b : List ℕ) → Taken s (chosen s q c a b).crop
  taken_call c a b = ⊎_elim (λ e. (before.0, e ∙ before.1)) (λ e. (asked_crop a, ap (λ (x : Asked). (chosen s q x a b).crop) e)) (crop_left s q c a b)

  taken_either : (x : Bool) (y z : Desk) → Taken s y.crop → Taken s z.crop → Taken s (cond x y z).crop
  taken_either true y z h k = h
  taken_either false y z h k = k

  taken_choice : (c : Call) (r : Reply) → Taken s (choice s q c r).crop
  taken_choice (request w a) (answered n b) = taken_either (eqb n 0) _ _ (taken_call (request_of w).call a b) before
  taken_choice (request w a) (taken r) = before
  taken_choice (request w a) (numbered n) = before
  taken_choice (arrival t f x y other) r = before
  taken_choice (change c t o l) r = before

taken_always : (s : List ℕ) (S : Session) (cs : List Call) → Taken s (desk_in s S cs).crop
unfolding opening_crop
taken_always s S = every (λ cs. Taken s (desk_in s S cs).crop) (crop_default s, refl)
    (λ h c before. subst (λ (q : Desk). Taken s q.crop) (sym (desk_more s S h c)) (taken_choice s (desk_in s S h) before c (reply_in S h c)))

-- ---- what is told is what is on the desk and in the sheet

-- 32 bits hold what lies inside the bounds of a good sheet
held : (b r : Rect) → bounds_ok b ≡ true → default_ok b r ≡ true → Held r
unfolding bounds_ok default_ok
held b r e i =
    let (across, down) = both (bound_ok b.left b.width) (bound_ok b.top b.height) e in
    let (x, y) = both (inside_ok b.left b.width r.left r.width) (inside_ok b.top b.height r.top r.height) i in
    let (l, w) = inside_fits b.left b.width r.left r.width x across in
    let (t, h) = inside_fits b.top b.height r.top r.height y down in
    record { left = l; top = t; width = w; height = h }

module _ (s : List ℕ) (m : Kind → List ℕ) (S : Session) (d : Demand1 s m S) (k : Answers s m S) where
  -- what an accepted call of this kind answers
  answer_to : (cs : List Call) (w : ℕ) (a : List ℕ) (c : Asked) → (request_of w).call ≡ c → (S.request cs w a).number ≡ 0
      → (S.request cs w a).argument ≡ answer_on s (λ j. length (m j)) (papers_in s S cs) (desk_in s S cs) c a
  answer_to cs w a c e z = k.arguments cs w a z ∙ ap (λ (x : Asked). answer_on s (λ j. length (m j)) (papers_in s S cs) (desk_in s S cs) x a) e

  module _ (cs : List Call) (t : CropTold S cs) where
    sheet : good_sheet s ≡ true
    sheet = good s m S d cs t.word t.argument t.got

    -- the crop on the desk lies inside the sheet's bounds
    desk_inside : default_ok (crop_bounds s) (desk_in s S cs).crop ≡ true
    desk_inside = let (a, e) = taken_always s S cs in rw e (inside_both (crop_bounds s) a (bounds_good s sheet))

    crop_is : crop_in S cs t ≡ (desk_in s S cs).crop
    crop_is =
        ap (λ (b : List ℕ). rect_at b 4) (answer_to cs t.word t.argument GCrop t.is_get t.got)
        ∙ crop_back (desk_in s S cs).crop (held (crop_bounds s) (desk_in s S cs).crop (bounds_good s sheet) desk_inside)

    limits_are : (S.request cs t.limits_word t.limits_argument).argument ≡ crop_capability_reply s
    limits_are = answer_to cs t.limits_word t.limits_argument Cropcap t.is_limits t.limits_got

    pub bounds_are : bounds_in S cs t ≡ crop_bounds s
    bounds_are = ap (λ (b : List ℕ). rect_at b 4) limits_are ∙ bounds_back s (held (crop_bounds s) (crop_bounds s) (bounds_good s sheet) (bounds_inside s sheet))

    default_is : default_in S cs t ≡ crop_default s
    default_is = ap (λ (b : List ℕ). rect_at b 20) limits_are ∙ default_back s (held (crop_bounds s) (crop_default s) (bounds_good s sheet) (default_inside s sheet))

    lies_inside : default_ok (bounds_in S cs t) (crop_in S cs t) ≡ true
    lies_inside = ap₂ default_ok bounds_are crop_is ∙ desk_inside

    lies_even : distance (bounds_in S cs t).top (crop_in S cs t).top % 2 ≡ 0
    lies_even =
        let (a, e) = taken_always s S cs in
        ap₂ (λ (b r : Rect). distance b.top r.top % 2) bounds_are (crop_is ∙ e) ∙ (last_even_top (crop_bounds s) a).even

  -- the crop that an accepted S_CROP puts on the desk
  chosen_crop : (cs : List Call) (w : ℕ) (a : List ℕ) → (request_of w).call ≡ SCrop → (S.request cs w a).number ≡ 0 → (desk_in s S (more cs (request w a))).crop ≡ clamped (crop_bounds s) (asked_crop a)
  chosen_crop cs w a e z =
      ap (λ (q : Desk). q.crop) (desk_more s S cs (request w a))
      ∙ ap₂ (λ (n : ℕ) (c : Asked). (cond (eqb n 0) (chosen s (desk_in s S cs) c a (S.request cs w a).argument) (desk_in s S cs)).crop) z e

  pub fields_apart_law : FieldsApart S
  fields_apart_law = record {
    told = λ cs w a opened e long type. by_call s m Kind.pictures S d cs w a GCrop e ∙ rw (opened, long, type);
    limits_told = λ cs w a opened e long type. by_call s m Kind.pictures S d cs w a Cropcap e ∙ rw (opened, long, type);
    inside = lies_inside;
    even = lies_even;
    opening = λ t. crop_is [] t ∙ opening_taken s (sheet [] t) ∙ sym (ap₂ top_apart (bounds_are [] t) (default_is [] t));
    set = λ cs w a e z t.
        crop_is (more cs (request w a)) t
        ∙ chosen_crop cs w a e z
        ∙ ap (λ (b : Rect). clamped b (asked_crop a)) (sym (bounds_are (more cs (request w a)) t));
    stays = λ cs c none t u. crop_is (more cs c) u ∙ crop_stays s S cs c none ∙ sym (crop_is cs t);
  }
