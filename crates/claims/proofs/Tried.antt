-- Demand 2 of our device.
use mathlib.Core.Path.{◌≡◌, refl, sym, ap, ◌∙◌, subst}
use mathlib.Core.Logic.{◌≢◌}
use mathlib.Core.Bool.{Bool, true, false, cond, not, ◌&&◌, ◌||◌}
use Prim.Native.Nat.{ℕ, ◌+◌, ◌*◌, ◌/◌, ◌%◌, ◌≤◌, ◌<◌}
use native.Mathlib.Omega.{arith}
use native.Mathlib.Nat.{le_of_mul-le-mul_right}
use borrow.Author.Tests.{eqb-true}
use lib.Dec.{eqb}
use mathlib.Core.List.{List}
use lib.ListN.{length, get_or}
use lib.Seq.{sets}
use Rattle.wire_read.specs.Words.{word_at}
use Rattle.wire_read.proofs.Stores.{sets_all}
use Rattle.ioctl_table.specs.Refusal.{errno_of}
use Rattle.ioctl_table.specs.Table.{argument_size, request_of}
use Rattle.ioctl_table.specs.declared.table.Call.{Call as Asked}
use Rattle.ioctl_table.specs.declared.table.Call.TheVariants.{SFmt, TryFmt}
use Rattle.ioctl_table.specs.declared.refusals.Refusal.TheVariants.{ArgumentLength, Closed, UnknownWord, WrongType, BuffersExist}
use Rattle.sheet_copy.specs.Copy.{kept_of}
use Rattle.sheet_records.specs.Records.{format_code}
use Rattle.sheet_copy.proofs.Copies.{kept_format_count, kept_code}
use Rattle.sheet_geometry.specs.Geometry.{widths_of, heights_of}
use Rattle.sheet_geometry.specs.declared.Range.{Range}
use Rattle.sheet_geometry.proofs.Copies.{kept_widths, kept_heights, kept_alignment}
use Rattle.sheet_rules.specs.Rules.{known_code, good_sheet}
use Rattle.sheet_rules.specs.Folds.{any_below}
use Rattle.sheet_rules.proofs.Truth.{any_at}
use Rattle.sheet_rules.proofs.Facts.{Sizes}
use Rattle.sheet_rules.proofs.Good.{geometry, format}
use Rattle.grid_rules.specs.Grid.{nearest_size, size_at}
use Rattle.grid_rules.proofs.Sizes.{size_to, size_on_grid, size_nearest, size_tie}
use Rattle.format_rules.specs.declared.Format.{Format}
use Rattle.negotiation_rules.specs.Negotiation.{offered, offers_among, chosen_code, negotiated, asked_format}
use Rattle.negotiation_rules.specs.Answer.{picture_words}
use Rattle.negotiation_rules.proofs.Good.{offered_all, width_within, height_within, chosen_offered, code_kept}
use Rattle.negotiation_rules.proofs.Reply.{reply_length, reply_word}
use Rattle.wire_read.proofs.Tabs.{tab_get}
use Rattle.service_rules.specs.Services.{Each, has, offers}
use Rattle.service_rules.specs.Negotiation.{asked_at, fitting_at}
use Rattle.service_rules.proofs.Laws.{all_that_fit, answered_at_law}
use Rattle.service_replies.specs.Halves.{half_at}
use Rattle.service_replies.specs.Services.{lines_at, asked_services, services_reply}
use Rattle.service_replies.proofs.Reply.{services_length, told_lines, told_union, told_size, asked_length, asked_fit}
use Rattle.device_state.specs.State.{State, with_format}
use Rattle.device_state.specs.Answers.{Answer, done, refused}
use Rattle.negotiation_calls.specs.Negotiations.{told_format, s_fmt_of, try_fmt_of}
use Rattle.service_calls.specs.Services.{services_answer, s_services_of, try_services_of}
use Rattle.request_topics.specs.Request.{by_services, call_answer, request_answer}
use Rattle.claims.specs.Calls.{Kind, Call}
use Rattle.claims.specs.Calls.Call.{request}
use Rattle.claims.specs.Machine.{Given, more}
use Rattle.claims.specs.Demands.{Nearest, Offered, Chosen, Fitting, Demand2}
use Rattle.claims.proofs.Boxes.{Box, asks, next, box_after, ours}
use Rattle.claims.proofs.Formats.{Reached, reached, try_stays, try_pictures, try_captions, got_set}
use Rattle.claims.proofs.Lists.{Since, since, one_more_law, no_trace}
use Rattle.claims.proofs.Told.{short, never}

-- ---- unless S_FMT gives 16

abbrev given : Answer → Given
given r = record { number = r.number; argument = r.argument }

same_given : (s : List ℕ) (d : State) (t u : ℕ) (a : List ℕ) → (request_of t).call ≡ TryFmt → (request_of u).call ≡ SFmt
    → (request_answer s d u a).number ≢ 16 → given (request_answer s d t a) ≡ given (request_answer s d u a)
unfolding request_answer request_of try_fmt_of s_fmt_of try_services_of s_services_of
same_given s d t u a et eu h =
    ap (λ (call : Asked). given (at call)) et
    ∙ go (eqb d.ready 0) (eqb (length a) 204) (eqb (word_at a 0) 1) (eqb (word_at a 0) 6) (eqb d.video.queues.granted 0) (eqb d.captions.queues.granted 0)
    (λ e. h (ap (λ (call : Asked). (at call).number) eu ∙ e))
    ∙ sym (ap (λ (call : Asked). given (at call)) eu)
  where
    at : Asked → Answer
    at call = cond (eqb d.ready 0) (refused Closed d a) (cond (eqb (argument_size call) 0) (refused UnknownWord d a)
        (cond (not (eqb (length a) (argument_size call))) (refused ArgumentLength d a) (call_answer call s d a)))

    pictures : List ℕ
    pictures = sets a 0 (told_format s (negotiated s (asked_format a)))

    captions : List ℕ
    captions = sets a 0 (services_reply 6 (asked_services a))

    -- closed, of another length, of another type; then either call
    by : Bool → Bool → Bool → Bool → Answer → Answer → Answer
    by x y z v p c = cond x (refused Closed d a) (cond (not y) (refused ArgumentLength d a) (cond z p (cond v c (refused WrongType d a))))

    tried : Bool → Bool → Bool → Bool → Answer
    tried x y z v = by x y z v (done d pictures) (done d captions)

    set : Bool → Bool → Bool → Bool → Bool → Bool → Answer
    set x y z v g i =
        by x y z v (cond (not g) (refused BuffersExist d a) (done (with_format s d (negotiated s (asked_format a))) pictures))
        (by_services d (cond (not i) (services_answer (errno_of BuffersExist) d.services a) (services_answer 0 (asked_services a) captions)))

    go : (x y z v g i : Bool) → (set x y z v g i).number ≢ 16 → given (tried x y z v) ≡ given (set x y z v g i)
    go true y z v g i h = refl
    go false false z v g i h = refl
    go false true true v true i h = refl
    go false true true v false i h = absurd (h refl)
    go false true false true g true h = refl
    go false true false true g false h = absurd (h refl)
    go false true false false g i h = refl

-- ---- nearest

nearest_of : (r : Range) → Sizes r → (asked : ℕ) → Nearest r asked (nearest_size r asked)
nearest_of r z asked =
    let some : 0 < r.step = omega (arith, z.stride) in
    let at = size_on_grid r z.steps some z.whole asked in
    record {
      place = at.0;
      is = at.2;
      most = size_to r asked z.order;
      near = λ k h. size_nearest r z.steps some z.whole asked k (within k h some);
      tie = λ k h e. size_tie r z.steps some z.whole asked k (within k h some) e;
    }
  where
    within : (k : ℕ) → size_at r k ≤ r.greatest → 0 < r.step → k ≤ z.steps
    within k h some = let l : k * r.step ≤ z.steps * r.step = omega (arith, z.whole) in le_of_mul-le-mul_right l some

-- ---- the words of an answered format

-- a code that sheets may have is a word
known_fits : (c : ℕ) → known_code c ≡ true → c < 4294967296
unfolding known_code
known_fits c = or _ 0x3231564E (omega arith) (or _ 0x32315659 (omega arith) (or _ 0x32315559 (omega arith) (or _ 0x33524742 (omega arith) (or _ 0x33424752 (omega arith)
    (or _ 0x50424752 (omega arith) (or _ 0x59565955 (omega arith) (or _ 0x56595559 (omega arith) (is 0x59455247 (omega arith)))))))))
  where
    is : (k : ℕ) → k < 4294967296 → eqb c k ≡ true → c < 4294967296
    is k h e = omega (arith, eqb-true c k e)

    or : (x : Bool) (k : ℕ) → k < 4294967296 → (x ≡ true → c < 4294967296) → (x || eqb c k) ≡ true → c < 4294967296
    or true k h f e = f refl
    or false k h f e = is k h e

module _ (s : List ℕ) (good : good_sheet s ≡ true) (f : Format) where
  code_fits : chosen_code s f.code < 4294967296
  code_fits = let (k, b, e) = chosen_offered s good f.code in omega (arith, e, known_fits (format_code s k) (format s good k b).known)

  -- width, height and code of what was negotiated
  pub width_word : word_at (told_format s (negotiated s f)) 4 ≡ nearest_size (widths_of s) f.width
  unfolding picture_words negotiated
  width_word = reply_word 1 (negotiated s f) _ _ 1 (omega arith) (omega (arith, (width_within s good f.width).1))

  pub height_word : word_at (told_format s (negotiated s f)) 8 ≡ nearest_size (heights_of s) f.height
  unfolding picture_words negotiated
  height_word = reply_word 1 (negotiated s f) _ _ 2 (omega arith) (omega (arith, (height_within s good f.height).1))

  pub code_word : word_at (told_format s (negotiated s f)) 12 ≡ chosen_code s f.code
  unfolding picture_words negotiated
  code_word = reply_word 1 (negotiated s f) _ _ 3 (omega arith) code_fits

-- the code asked, or the first
chosen_of : (s : List ℕ) → good_sheet s ≡ true → (c : ℕ) → Chosen s c (chosen_code s c)
unfolding chosen_code offers_among
chosen_of s good c = record {
  offered = λ (k, b, e). ap (chosen_code s) (sym e) ∙ code_kept s good k b ∙ e;
  otherwise = go (any_below (offered s) (λ k. eqb (format_code s k) c)) refl;
}
  where
    go : (x : Bool) → any_below (offered s) (λ k. eqb (format_code s k) c) ≡ x → (Offered s c → ⊥) → cond x c (format_code s 0) ≡ format_code s 0
    go true e none =
        let (k, b, g) = any_at (offered s) (λ k. eqb (format_code s k) c) e in
        absurd (none (k, omega (arith, b, offered_all s good), eqb-true (format_code s k) c g))
    go false e none = refl

-- the copy of a sheet makes the same of a question, and tells it alike
pub kept_negotiated : (s : List ℕ) → length s ≤ 2688 → (f : Format) → negotiated (kept_of s) f ≡ negotiated s f
unfolding negotiated chosen_code offers_among offered
kept_negotiated s fits f = simp (kept_widths s fits, kept_heights s fits, kept_format_count s fits, kept_code s fits)

pub kept_told : (s : List ℕ) → length s ≤ 2688 → (f : Format) → told_format (kept_of s) f ≡ told_format s f
kept_told s fits f = rw (kept_alignment s fits)

-- an accepted TRY_FMT answers what was negotiated, all over its argument
module _ (s : List ℕ) (d : State) (t : ℕ) (a : List ℕ) (e : (request_of t).call ≡ TryFmt) (h : (request_answer s d t a).number ≡ 0) where
  tried_over : (v : List ℕ) → length v ≡ 204 → call_answer TryFmt s d a ≡ done d (sets a 0 v) → (eqb d.ready 0 ≡ false) × ((request_answer s d t a).argument ≡ v)
  tried_over v l is =
      let q : Reached s d t a = reached s d t a h in (
        q.ready,
        ap (λ (r : Answer). r.argument) (q.is ∙ ap (λ (call : Asked). call_answer call s d a) e ∙ is) ∙ sets_all v a (q.long ∙ ap argument_size e ∙ sym l),
      )

  tried_pictures : word_at a 0 ≡ 1 → (eqb d.ready 0 ≡ false) × ((request_answer s d t a).argument ≡ told_format s (negotiated s (asked_format a)))
  tried_pictures o = tried_over _ (reply_length 1 (negotiated s (asked_format a)) _ _) (try_pictures s d a o)

  tried_captions : word_at a 0 ≡ 6 → (request_answer s d t a).argument ≡ services_reply 6 (asked_services a)
  tried_captions o = (tried_over _ (services_length 6 (asked_services a)) (try_captions s d a o)).1

-- ---- the services that fit

-- the set told for a line is the one that fits there
line_fits : (a : List ℕ) (k : ℕ) → k < 48 → half_at (services_reply 6 (asked_services a)) (6 + 2 * k) ≡ fitting_at (half_at a 4) (lines_at a 6) k
unfolding asked_services
line_fits a k h =
    sym (tab_get (λ j. half_at (services_reply 6 (asked_services a)) (6 + 2 * j)) 48 k 0 h)
    ∙ ap (λ (l : List ℕ). get_or l k 0) (told_lines 6 (asked_services a) (asked_length a) (asked_fit a))
    ∙ answered_at_law (half_at a 4) (lines_at a 6) k h

fitting_of : (a : List ℕ) → Fitting a (services_reply 6 (asked_services a))
fitting_of a = record {
  lines = λ k h. subst (λ (v : ℕ). Each (λ s. has v s.bit ≡ (has (asked_at (half_at a 4) (lines_at a 6) k) s.bit && offers s (k / 24) (k % 24)))) (sym (line_fits a k h)) (all_that_fit (half_at a 4) (lines_at a 6) k);
  union = told_union 6 (asked_services a) (asked_length a) (asked_fit a);
  size = told_size 6 (asked_services a) (asked_length a) (asked_fit a);
}

-- ---- after any calls

module _ (s : List ℕ) (m : Kind → List ℕ) (cs : List Call) (t : ℕ) (a : List ℕ) (e : (request_of t).call ≡ TryFmt) where
  services_told : word_at a 0 ≡ 6 → ((ours s m).request cs t a).number ≡ 0 → Fitting a ((ours s m).request cs t a).argument
  services_told o h = subst (Fitting a) (sym (tried_captions (box_after s m cs).sheet (box_after s m cs).state t a e h o)) (fitting_of a)

  module _ (o : word_at a 0 ≡ 1) (h : ((ours s m).request cs t a).number ≡ 0) where
    -- the sheet was good, and the answer is what it makes of the question
    tried : (good_sheet s ≡ true) × (((ours s m).request cs t a).argument ≡ told_format s (negotiated s (asked_format a)))
    tried = go (since s m cs) (tried_pictures (box_after s m cs).sheet (box_after s m cs).state t a e h o)
      where
        b : Box
        b = box_after s m cs

        go : Since s m cs → (eqb b.state.ready 0 ≡ false) × ((asks b t a).argument ≡ told_format b.sheet (negotiated b.sheet (asked_format a)))
            → (good_sheet s ≡ true) × ((asks b t a).argument ≡ told_format s (negotiated s (asked_format a)))
        go (Since.good g n k) (r, q) = (
          g,
          q ∙ ap (λ (z : List ℕ). told_format z (negotiated z (asked_format a))) (k Kind.pictures).sheet
              ∙ kept_told s (short s g) (negotiated (kept_of s) (asked_format a)) ∙ ap (told_format s) (kept_negotiated s (short s g) (asked_format a)),
        )
        go (Since.bad n d p) (r, q) = never b.state d r

    widths_told : Nearest (widths_of s) (word_at a 4) (word_at ((ours s m).request cs t a).argument 4)
    unfolding asked_format
    widths_told = rw (tried.1, width_word s tried.0 (asked_format a)) (nearest_of (widths_of s) (geometry s tried.0).widths (word_at a 4))

    heights_told : Nearest (heights_of s) (word_at a 8) (word_at ((ours s m).request cs t a).argument 8)
    unfolding asked_format
    heights_told = rw (tried.1, height_word s tried.0 (asked_format a)) (nearest_of (heights_of s) (geometry s tried.0).heights (word_at a 8))

    codes_told : Chosen s (word_at a 12) (word_at ((ours s m).request cs t a).argument 12)
    unfolding asked_format
    codes_told = rw (tried.1, code_word s tried.0 (asked_format a)) (chosen_of s tried.0 (word_at a 12))

pub told_2 : (s : List ℕ) (m : Kind → List ℕ) → Demand2 s (ours s m)
told_2 s m = record {
  quiet = λ cs t a e.
      let b : Box = box_after s m cs in
      no_trace s m cs (request t a) (ap (λ (d : State). record { sheet = b.sheet; state = d; memory = b.memory }) (try_stays b.sheet b.state t a e));
  same = λ cs t u a et eu h. same_given (box_after s m cs).sheet (box_after s m cs).state t u a et eu h;
  got = λ cs u g a b eu eg eq h k.
      let e : box_after s m (more cs (request u a)) ≡ next (box_after s m cs) (request u a) = one_more_law s m cs (request u a) in
      ap (λ (x : Box). (asks x g b).argument) e
      ∙ got_set (box_after s m cs).sheet (box_after s m cs).state u g a b eu eg eq h (ap (λ (x : Box). (asks x g b).number) (sym e) ∙ k);
  widths = widths_told s m;
  heights = heights_told s m;
  codes = codes_told s m;
  services = services_told s m;
}
