-- Trying, setting and getting a format.
use mathlib.Core.Path.{◌≡◌, refl, sym, ap, ◌∙◌}
use mathlib.Core.Logic.{◌⊎◌, inl, inr, ⊎_elim}
use mathlib.Core.Bool.{Bool, true, false, cond, not}
use Prim.Native.Nat.{ℕ}
use borrow.Author.Tests.{eqb-true}
use native.Mathlib.Omega.{arith}
use lib.Dec.{eqb}
use mathlib.Core.List.{List}
use lib.ListN.{length}
use lib.Seq.{sets}
use Rattle.wire_read.specs.Words.{word_at}
use Rattle.wire_read.proofs.Stores.{sets_all}
use Rattle.ioctl_table.specs.Table.{argument_size, request_of}
use Rattle.ioctl_table.specs.declared.table.Call.{Call}
use Rattle.ioctl_table.specs.declared.table.Call.TheVariants.{SFmt, TryFmt, GFmt}
use Rattle.ioctl_table.proofs.Numbers.{errno_positive}
use Rattle.ioctl_table.specs.Refusal.{errno_of}
use Rattle.ioctl_table.specs.declared.refusals.Refusal.{Refusal}
use Rattle.ioctl_table.specs.declared.refusals.Refusal.TheVariants.{ArgumentLength, Closed, UnknownWord, WrongType, BuffersExist}
use Rattle.negotiation_rules.specs.Negotiation.{negotiated, asked_format}
use Rattle.negotiation_rules.specs.Answer.{format_reply}
use Rattle.negotiation_rules.proofs.Reply.{reply_length}
use Rattle.service_replies.specs.Services.{asked_services, services_reply}
use Rattle.service_replies.proofs.Reply.{services_length}
use Rattle.device_state.specs.State.{State, with_format, with_services}
use Rattle.device_state.specs.Answers.{Answer, done, refused, by_type}
use Rattle.device_state.proofs.Typed.{by_pictures, by_captions_law}
use Rattle.format_calls.specs.Formats.{g_fmt_of}
use Rattle.negotiation_calls.specs.Negotiations.{s_fmt_of, try_fmt_of, told_format}
use Rattle.service_calls.specs.Services.{services_answer, g_services_of, s_services_of, try_services_of}
use Rattle.request_topics.specs.Request.{by_services, call_answer, request_answer}

-- a request that is accepted got to its call, with an argument of its length
pub record Reached (s : List ℕ) (d : State) (w : ℕ) (a : List ℕ) : Type 0 where
  pub ready : eqb d.ready 0 ≡ false
  pub long : length a ≡ argument_size (request_of w).call
  pub is : request_answer s d w a ≡ call_answer (request_of w).call s d a

pub reached : (s : List ℕ) (d : State) (w : ℕ) (a : List ℕ) → (request_answer s d w a).number ≡ 0 → Reached s d w a
unfolding request_answer request_of
reached s d w a h = go (eqb d.ready 0) refl (eqb (request_of w).size 0) refl (eqb (length a) (request_of w).size) refl h
  where
    r : Bool → Bool → Bool → Answer
    r x y z = cond x (refused Closed d a) (cond y (refused UnknownWord d a) (cond (not z) (refused ArgumentLength d a) (call_answer (request_of w).call s d a)))

    go : (x : Bool) → eqb d.ready 0 ≡ x → (y : Bool) → eqb (request_of w).size 0 ≡ y → (z : Bool) → eqb (length a) (request_of w).size ≡ z
        → (r x y z).number ≡ 0 → Reached s d w a
    go true e y f z g h = absurd (omega (arith, h))
    go false e true f z g h = absurd (omega (arith, h))
    go false e false f false g h = absurd (omega (arith, h))
    go false e false f true g h = record { ready = e; long = eqb-true (length a) (request_of w).size g; is = rw (e, f, g) }

-- ---- the three calls

-- a test that is passed
pub passed : (x : Bool) (why : Refusal) (d : State) (a : List ℕ) (r : Answer) → (cond x (refused why d a) r).number ≡ 0 → x ≡ false
passed true why d a r h = absurd (omega (arith, errno_positive why, h))
passed false why d a r h = refl

-- a call on a stream that is accepted names one
pub of_stream : (at : ℕ) (d : State) (a : List ℕ) (pictures captions : Answer) → (by_type at d a pictures captions).number ≡ 0 → (word_at a at ≡ 1) ⊎ (word_at a at ≡ 6)
of_stream at d a pictures captions h = go (eqb (word_at a at) 1) refl (eqb (word_at a at) 6) refl h
  where
    go : (x : Bool) → eqb (word_at a at) 1 ≡ x → (y : Bool) → eqb (word_at a at) 6 ≡ y
        → (cond x pictures (cond y captions (refused WrongType d a))).number ≡ 0 → (word_at a at ≡ 1) ⊎ (word_at a at ≡ 6)
    go true e y f h = inl (eqb-true (word_at a at) 1 e)
    go false e true f h = inr (eqb-true (word_at a at) 6 f)
    go false e false f h = absurd (omega (arith, h))

-- the state stays, whichever test holds
stays : (x : Bool) (why : Refusal) (d : State) (a : List ℕ) (r : Answer) → r.state ≡ d → (cond x (refused why d a) r).state ≡ d
stays true why d a r e = refl
stays false why d a r e = e

stays_by : (at : ℕ) (d : State) (a : List ℕ) (pictures captions : Answer) → pictures.state ≡ d → captions.state ≡ d → (by_type at d a pictures captions).state ≡ d
stays_by at d a pictures captions e f = go (eqb (word_at a at) 1) (eqb (word_at a at) 6)
  where
    go : (x y : Bool) → (cond x pictures (cond y captions (refused WrongType d a))).state ≡ d
    go true y = e
    go false true = f
    go false false = refl

try_leaves : (s : List ℕ) (d : State) (a : List ℕ) → (call_answer TryFmt s d a).state ≡ d
unfolding try_fmt_of try_services_of
try_leaves s d a = stays_by 0 d a (try_fmt_of s d a) (by_services d (try_services_of 6 d.services a)) refl refl

pub try_stays : (s : List ℕ) (d : State) (w : ℕ) (a : List ℕ) → (request_of w).call ≡ TryFmt → (request_answer s d w a).state ≡ d
unfolding request_answer
try_stays s d w a e =
    stays (eqb d.ready 0) Closed d a _
    (stays (eqb (request_of w).size 0) UnknownWord d a _
    (stays (not (eqb (length a) (request_of w).size)) ArgumentLength d a _
    (ap (λ (call : Call). (call_answer call s d a).state) e ∙ try_leaves s d a)))

module _ (s : List ℕ) (d : State) (a : List ℕ) where
  -- what an accepted S_FMT does: it sets what was negotiated and answers it
  abbrev pub set_pictures : Answer
  set_pictures = done (with_format s d (negotiated s (asked_format a))) (sets a 0 (told_format s (negotiated s (asked_format a))))

  abbrev pub set_captions : Answer
  set_captions = done (with_services d (asked_services a)) (sets a 0 (services_reply 6 (asked_services a)))

  pub set_pictures_law : word_at a 0 ≡ 1 → (call_answer SFmt s d a).number ≡ 0 → call_answer SFmt s d a ≡ set_pictures
  unfolding s_fmt_of
  set_pictures_law e h = is ∙ go (not (eqb d.video.queues.granted 0)) (ap (λ (r : Answer). r.number) (sym is) ∙ h)
    where
      is : call_answer SFmt s d a ≡ s_fmt_of s d a
      is = by_pictures 0 d a (s_fmt_of s d a) _ refl e

      go : (x : Bool) → (cond x (refused BuffersExist d a) set_pictures).number ≡ 0 → cond x (refused BuffersExist d a) set_pictures ≡ set_pictures
      go true h = absurd (omega (arith, h))
      go false h = refl

  pub set_captions_law : word_at a 0 ≡ 6 → (call_answer SFmt s d a).number ≡ 0 → call_answer SFmt s d a ≡ set_captions
  unfolding s_services_of
  set_captions_law e h = is ∙ go (not (eqb d.captions.queues.granted 0)) (ap (λ (r : Answer). r.number) (sym is) ∙ h)
    where
      is : call_answer SFmt s d a ≡ by_services d (s_services_of 6 d.captions.queues.granted d.services a)
      is = by_captions_law 0 d a (s_fmt_of s d a) _ refl e

      r : Bool → Answer
      r x = by_services d (cond x (services_answer (errno_of BuffersExist) d.services a) (services_answer 0 (asked_services a) (sets a 0 (services_reply 6 (asked_services a)))))

      go : (x : Bool) → (r x).number ≡ 0 → r x ≡ set_captions
      go true h = absurd (omega (arith, h))
      go false h = refl

  -- TRY_FMT answers what was negotiated
  pub try_pictures : word_at a 0 ≡ 1 → call_answer TryFmt s d a ≡ done d (sets a 0 (told_format s (negotiated s (asked_format a))))
  unfolding try_fmt_of
  try_pictures e = by_pictures 0 d a (try_fmt_of s d a) _ refl e

  pub try_captions : word_at a 0 ≡ 6 → call_answer TryFmt s d a ≡ done d (sets a 0 (services_reply 6 (asked_services a)))
  unfolding try_services_of
  try_captions e = by_captions_law 0 d a (try_fmt_of s d a) (by_services d (try_services_of 6 d.services a)) refl e

  -- G_FMT answers what is set
  get_pictures : word_at a 0 ≡ 1 → (call_answer GFmt s d a).argument ≡ sets a 0 (format_reply 1 d.format d.line d.size)
  unfolding g_fmt_of
  get_pictures e = ap (λ (r : Answer). r.argument) (by_pictures 0 d a (g_fmt_of d a) _ refl e)

  get_captions : word_at a 0 ≡ 6 → (call_answer GFmt s d a).argument ≡ sets a 0 (services_reply 6 d.services)
  unfolding g_services_of
  get_captions e = ap (λ (r : Answer). r.argument) (by_captions_law 0 d a (g_fmt_of d a) (by_services d (g_services_of 6 d.services a)) refl e)

-- an accepted G_FMT right after an accepted S_FMT of the same type gives the same argument
pub got_set : (s : List ℕ) (d : State) (u g : ℕ) (a b : List ℕ) → (request_of u).call ≡ SFmt → (request_of g).call ≡ GFmt → word_at b 0 ≡ word_at a 0
    → (request_answer s d u a).number ≡ 0 → (request_answer s (request_answer s d u a).state g b).number ≡ 0
    → (request_answer s (request_answer s d u a).state g b).argument ≡ (request_answer s d u a).argument
got_set s d u g a b eu eg eq h k =
    ⊎_elim
    (λ o. same (told_format s (negotiated s (asked_format a))) (reply_length 1 (negotiated s (asked_format a)) _ _) (set_pictures s d a) refl (set_pictures_law s d a o ok) (get_pictures s (set_pictures s d a).state b (eq ∙ o)))
    (λ o. same (services_reply 6 (asked_services a)) (services_length 6 (asked_services a)) (set_captions s d a) refl (set_captions_law s d a o ok) (get_captions s (set_captions s d a).state b (eq ∙ o)))
    (of_stream 0 d a (s_fmt_of s d a) _ ok)
  where
    e : State
    e = (request_answer s d u a).state

    sets_is : request_answer s d u a ≡ call_answer SFmt s d a
    sets_is = (reached s d u a h).is ∙ ap (λ (call : Call). call_answer call s d a) eu

    gets_is : request_answer s e g b ≡ call_answer GFmt s e b
    gets_is = (reached s e g b k).is ∙ ap (λ (call : Call). call_answer call s e b) eg

    ok : (call_answer SFmt s d a).number ≡ 0
    ok = ap (λ (r : Answer). r.number) (sym sets_is) ∙ h

    long_a : length a ≡ 204
    long_a = (reached s d u a h).long ∙ ap argument_size eu

    long_b : length b ≡ 204
    long_b = (reached s e g b k).long ∙ ap argument_size eg

    -- the same bytes all over both arguments
    same : (v : List ℕ) → length v ≡ 204 → (r : Answer) → r.argument ≡ sets a 0 v → call_answer SFmt s d a ≡ r → (call_answer GFmt s r.state b).argument ≡ sets b 0 v
        → (request_answer s e g b).argument ≡ (request_answer s d u a).argument
    same v l r f x y =
        ap (λ (q : Answer). q.argument) gets_is
        ∙ ap (λ (q : Answer). (call_answer GFmt s q.state b).argument) (sets_is ∙ x)
        ∙ y
        ∙ sets_all v b (long_b ∙ sym l)
        ∙ sym (ap (λ (q : Answer). q.argument) (sets_is ∙ x) ∙ f ∙ sets_all v a (long_a ∙ sym l))
