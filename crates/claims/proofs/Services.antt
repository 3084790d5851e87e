-- The services that our device has in force are those that the desk says.
use mathlib.Core.Path.{◌≡◌, refl, sym, ap, ◌∙◌}
use mathlib.Core.Logic.{⊎_elim}
use mathlib.Core.Bool.{Bool, true, false, cond, not, true≢false}
use denote.Enum.Declared.{tag_of}
use Rattle.ioctl_table.specs.contracts.table.Call.{the_type}
use Prim.Native.Nat.{ℕ}
use borrow.Author.Tests.{eqb-true, eqb-false}
use lib.Dec.{eqb, leb, ltb}
use mathlib.Core.List.{List, [], ◌∷◌}
use lib.ListN.{length}
use lib.Seq.{sets}
use Rattle.wire_read.specs.Words.{word_at}
use Rattle.ioctl_table.specs.Refusal.{errno_of}
use Rattle.ioctl_table.specs.Table.{argument_size, request_of}
use Rattle.ioctl_table.specs.declared.refusals.Refusal.{Refusal}
use Rattle.ioctl_table.specs.declared.refusals.Refusal.TheVariants.{Closed, WrongType, NoSuchIndex, NoSuchControl, BadSheet, MemoryTooLong}
use Rattle.ioctl_table.specs.declared.table.Call.{Call as Asked}
use Rattle.ioctl_table.specs.declared.table.Call.TheVariants.{Unknown, Querycap, EnumFmt, GFmt, SFmt, TryFmt, Reqbufs, Querybuf, Qbuf, Dqbuf, Streamon, Streamoff, GCtrl, SCtrl, Queryctrl, Cropcap, GCrop, SCrop, GSlicedVbiCap}
use Rattle.sheet_contents.specs.Contents.{format_count}
use Rattle.sheet_rules.specs.Rules.{good_sheet}
use Rattle.control_place_rules.specs.Find.{present, queried_place}
use Rattle.control_value_rules.specs.Values.{reading, setting_of}
use Rattle.std.specs.Prelude.{Result, Ok, Err}
use Rattle.control_value_rules.specs.declared.Setting.{Setting}
use Rattle.control_value_rules.specs.declared.Setting.TheVariants as settings
use Rattle.service_replies.specs.Services.{lines_at, asked_services, services_reply, services_capability_reply}
use Rattle.service_replies.proofs.Reply.{services_length, told_lines, asked_length, asked_fit}
use Rattle.service_calls.specs.Services.{g_services_of, try_services_of, services_capability_of}
use Rattle.stream_arrival.specs.declared.Arrival.TheVariants as arrivals
use Rattle.stream_words.specs.declared.Time.{Time}
use Rattle.device_state.specs.State.{State, closed_state, opening_state, no_services, with_video, with_captions}
use Rattle.device_state.specs.Answers.{Answer, refused, by_type}
use Rattle.format_calls.specs.Formats.{querycap_of, enum_fmt_of, g_fmt_of}
use Rattle.negotiation_calls.specs.Negotiations.{try_fmt_of}
use Rattle.crop_calls.specs.Crops.{cropcap_of, g_crop_of, s_crop_of}
use Rattle.control_calls.specs.Controls.{g_ctrl_of, s_ctrl_of, read_as, set_as}
use Rattle.control_query_calls.specs.Query.{queryctrl_of}
use Rattle.request_topics.specs.Request.{by_services, call_answer}
use Rattle.sheet_copy.specs.Copy.{kept_of}
use Rattle.negotiation_rules.specs.Negotiation.{negotiated, asked_format}
use Rattle.stream_history.proofs.Machine.{leaves_append}
use Rattle.claims.specs.Words.{told}
use Rattle.device_opening.specs.Opening.{longest_memory, closed_by, opened_of}
use Rattle.device_film.specs.Film.{taken as takes, picture_arrives, captions_arrive, taken_of}
use Rattle.claims.specs.Calls.{Kind, Call, arrival_time}
use Rattle.claims.specs.Calls.Call.{request, arrival, change}
use Rattle.claims.specs.Machine.{reply_in}
use Rattle.claims.specs.Table.{named}
use Rattle.claims.specs.Desk.{Desk, chosen, choice, desk_in}
use Rattle.claims.proofs.Sessions.{every, desk_more}
use Rattle.claims.proofs.Boxes.{Box, opened, asks, seen, next, box_after, ours}
use Rattle.claims.proofs.Steps.{whole_reply}
use Rattle.claims.proofs.Formats.{Reached, reached, of_stream, set_pictures_law, set_captions_law}
use Rattle.claims.proofs.Mapping.{mapped_chosen}
use Rattle.claims.proofs.Honest.{honest_request}

module _ (s : List ℕ) (d : State) (a : List ℕ) where
  -- a test before the rest
  checked : (x : Bool) (why : Refusal) (r : Answer) → r.state.services ≡ d.services → (cond x (refused why d a) r).state.services ≡ d.services
  checked true why r e = refl
  checked false why r e = e

  -- by the type
  typed : (at : ℕ) (x y : Answer) → x.state.services ≡ d.services → y.state.services ≡ d.services → (by_type at d a x y).state.services ≡ d.services
  typed at x y e f = go (eqb (word_at a at) 1) (eqb (word_at a at) 6)
    where
      go : (u v : Bool) → (cond u x (cond v y (refused WrongType d a))).state.services ≡ d.services
      go true v = e
      go false true = f
      go false false = refl

  read : (x : Result ℕ Refusal) (id : ℕ) → (read_as x id d a).state.services ≡ d.services
  read (Ok v) id = refl
  read (Err why) id = refl

  written : (x : Result Setting Refusal) (id : ℕ) → (set_as x id d a).state.services ≡ d.services
  written (Ok (settings.Stored k v)) id = refl
  written (Ok settings.Pressed) id = refl
  written (Err why) id = refl

  -- every call but S_FMT leaves them
  left : (call : Asked) → (call ≡ SFmt → ⊥) → (call_answer call s d a).state.services ≡ d.services
  unfolding querycap_of enum_fmt_of g_fmt_of try_fmt_of g_services_of try_services_of services_capability_of cropcap_of g_crop_of s_crop_of queryctrl_of g_ctrl_of s_ctrl_of
  left Unknown n = refl
  left Querycap n = refl
  left EnumFmt n = checked (not (eqb (word_at a 4) 1)) WrongType _ (checked (leb (format_count s) (word_at a 0)) NoSuchIndex _ refl)
  left GFmt n = typed 0 _ _ refl refl
  left SFmt n = absurd (n refl)
  left TryFmt n = typed 0 _ _ refl refl
  left Reqbufs n = typed 4 _ _ refl refl
  left Querybuf n = typed 4 _ _ refl refl
  left Qbuf n = typed 4 _ _ refl refl
  left Dqbuf n = typed 4 _ _ refl refl
  left Streamon n = typed 0 _ _ refl refl
  left Streamoff n = typed 0 _ _ refl refl
  left GCtrl n = read (reading s d.values (word_at a 0)) (word_at a 0)
  left SCtrl n = written (setting_of s (word_at a 0) (word_at a 4)) (word_at a 0)
  left Queryctrl n = checked (leb (present s) (queried_place s (word_at a 0))) NoSuchControl _ refl
  left Cropcap n = checked (not (eqb (word_at a 0) 1)) WrongType _ refl
  left GCrop n = checked (not (eqb (word_at a 0) 1)) WrongType _ refl
  left SCrop n = checked (not (eqb (word_at a 0) 1)) WrongType _ refl
  left GSlicedVbiCap n = go (not (eqb (word_at a 100) 6))
    where
      go : (x : Bool) → (by_services d (cond x (record { number = errno_of WrongType; lines = d.services; argument = a }) (record { number = 0; lines = d.services; argument = sets a 0 (services_capability_reply 6) }))).state.services ≡ d.services
      go true = refl
      go false = refl

-- what is not numbered as S_FMT is another call
not_it : (call : Asked) → eqb (tag_of the_type call) 4 ≡ false → call ≡ SFmt → ⊥
not_it call h e = true≢false (sym (ap (λ (c : Asked). eqb (tag_of the_type c) 4) e) ∙ h)

-- the desk after an accepted S_FMT of a type
abbrev pub set_desk : List ℕ → Desk → List ℕ → List ℕ → ℕ → Desk
set_desk s q a b w =
    cond (eqb w 6) (record { format = q.format; crop = q.crop; values = q.values; services = lines_at b 6 })
    (record { format = negotiated s (asked_format a); crop = q.crop; values = q.values; services = q.services })

-- an accepted S_FMT: of captions it sets what it answers, of pictures it leaves them
module _ (s sh : List ℕ) (d : State) (a : List ℕ) (q : Desk) (e : q.services ≡ d.services) where
  set_told : length a ≡ 204 → (call_answer SFmt sh d a).number ≡ 0 → (call_answer SFmt sh d a).state.services ≡ (chosen s q SFmt a (call_answer SFmt sh d a).argument).services
  set_told l h = ⊎_elim of_pictures of_captions (of_stream 0 d a _ _ h)
    where
      whole : lines_at (sets a 0 (services_reply 6 (asked_services a))) 6 ≡ asked_services a
      whole = ap (λ (v : List ℕ). lines_at v 6) (whole_reply a (services_reply 6 (asked_services a)) 204 l (services_length 6 (asked_services a))) ∙ told_lines 6 (asked_services a) (asked_length a) (asked_fit a)

      of_pictures : word_at a 0 ≡ 1 → (call_answer SFmt sh d a).state.services ≡ (chosen s q SFmt a (call_answer SFmt sh d a).argument).services
      of_pictures n = ap (λ (r : Answer). r.state.services) (set_pictures_law sh d a n h) ∙ sym e ∙ sym (ap (λ (w : ℕ). (set_desk s q a (call_answer SFmt sh d a).argument w).services) n)

      of_captions : word_at a 0 ≡ 6 → (call_answer SFmt sh d a).state.services ≡ (chosen s q SFmt a (call_answer SFmt sh d a).argument).services
      of_captions n =
          ap (λ (r : Answer). r.state.services) (set_captions_law sh d a n h) ∙ sym whole ∙ sym (ap (λ (r : Answer). lines_at r.argument 6) (set_captions_law sh d a n h))
          ∙ sym (ap (λ (w : ℕ). (set_desk s q a (call_answer SFmt sh d a).argument w).services) n)

  button : (x : Bool) (v : List ℕ) → (cond x q (record { format = q.format; crop = q.crop; values = v; services = q.services })).services ≡ q.services
  button true v = refl
  button false v = refl

  call_services : (call : Asked) → length a ≡ argument_size call → (call_answer call sh d a).number ≡ 0 → (call_answer call sh d a).state.services ≡ (chosen s q call a (call_answer call sh d a).argument).services
  call_services Unknown l h = left sh d a Unknown (not_it Unknown refl) ∙ sym e
  call_services Querycap l h = left sh d a Querycap (not_it Querycap refl) ∙ sym e
  call_services EnumFmt l h = left sh d a EnumFmt (not_it EnumFmt refl) ∙ sym e
  call_services GFmt l h = left sh d a GFmt (not_it GFmt refl) ∙ sym e
  call_services SFmt l h = set_told l h
  call_services TryFmt l h = left sh d a TryFmt (not_it TryFmt refl) ∙ sym e
  call_services Reqbufs l h = left sh d a Reqbufs (not_it Reqbufs refl) ∙ sym e
  call_services Querybuf l h = left sh d a Querybuf (not_it Querybuf refl) ∙ sym e
  call_services Qbuf l h = left sh d a Qbuf (not_it Qbuf refl) ∙ sym e
  call_services Dqbuf l h = left sh d a Dqbuf (not_it Dqbuf refl) ∙ sym e
  call_services Streamon l h = left sh d a Streamon (not_it Streamon refl) ∙ sym e
  call_services Streamoff l h = left sh d a Streamoff (not_it Streamoff refl) ∙ sym e
  call_services GCtrl l h = left sh d a GCtrl (not_it GCtrl refl) ∙ sym e
  call_services SCtrl l h = left sh d a SCtrl (not_it SCtrl refl) ∙ sym e ∙ sym (button (eqb (named s a).kind 4) _)
  call_services Queryctrl l h = left sh d a Queryctrl (not_it Queryctrl refl) ∙ sym e
  call_services Cropcap l h = left sh d a Cropcap (not_it Cropcap refl) ∙ sym e
  call_services GCrop l h = left sh d a GCrop (not_it GCrop refl) ∙ sym e
  call_services SCrop l h = left sh d a SCrop (not_it SCrop refl) ∙ sym e
  call_services GSlicedVbiCap l h = left sh d a GSlicedVbiCap (not_it GSlicedVbiCap refl) ∙ sym e

-- no arrival changes them
taken_services : (d : State) (t l : ℕ) (f : List ℕ) (u : Time) → (taken_of d t l f u).state.services ≡ d.services
unfolding taken_of
taken_services d t l f u = go (eqb d.ready 0) (eqb t 1) (eqb t 6)
  where
    go : (x y z : Bool) → (cond x (takes (arrivals.Refused Closed) d) (cond y (takes (picture_arrives d l f u).arrival (with_video d (picture_arrives d l f u).stream))
        (cond z (takes (captions_arrive d l f u).arrival (with_captions d (captions_arrive d l f u).stream)) (takes (arrivals.Refused WrongType) d)))).state.services ≡ d.services
    go true y z = refl
    go false true z = refl
    go false false true = refl
    go false false false = refl

-- ---- from an opening

module _ (s : List ℕ) (m : Kind → List ℕ) where
  at_first : (opened s m).state.services ≡ no_services
  unfolding opened_of closed_by closed_state opening_state
  at_first = go (good_sheet s) (ltb longest_memory (length (m Kind.pictures))) (ltb longest_memory (length (m Kind.captions)))
    where
      go : (x y z : Bool) → (cond (not x) (closed_by BadSheet) (cond y (closed_by MemoryTooLong) (cond z (closed_by MemoryTooLong)
          (record { number = 0; device = record { sheet = kept_of s; state = opening_state (kept_of s) (length (m Kind.pictures)) (length (m Kind.captions)) } })))).device.state.services ≡ no_services
      go false y z = refl
      go true true z = refl
      go true false true = refl
      go true false false = refl

  -- after one call more
  one_more_law : (cs : List Call) (c : Call) (q : Desk) → q.services ≡ (box_after s m cs).state.services
      → (choice s q c (reply_in (ours s m) cs c)).services ≡ (next (box_after s m cs) c).state.services
  one_more_law cs (request w a) q e = go (eqb (asks b w a).number 0) refl
    where
      b : Box
      b = box_after s m cs

      go : (x : Bool) → eqb (asks b w a).number 0 ≡ x → (cond x (chosen s q (request_of w).call a (asks b w a).argument) q).services ≡ (asks b w a).state.services
      go true z =
          let r : Reached b.sheet b.state w a = reached b.sheet b.state w a (eqb-true (asks b w a).number 0 z) in
          let h : (call_answer (request_of w).call b.sheet b.state a).number ≡ 0 = ap (λ (v : Answer). v.number) (sym r.is) ∙ eqb-true (asks b w a).number 0 z in
          ap (λ (v : Answer). (chosen s q (request_of w).call a v.argument).services) r.is
          ∙ sym (call_services s b.sheet b.state a q e (request_of w).call r.long h) ∙ ap (λ (v : Answer). v.state.services) (sym r.is)
      go false z = e ∙ ap (λ (v : State). v.services) (sym ((honest_request b.state a b.sheet w).unchanged (eqb-false (asks b w a).number 0 z)).0)
  one_more_law cs (arrival t f x y other) q e = e ∙ sym (taken_services (box_after s m cs).state t _ f (arrival_time x y))
  one_more_law cs (change c t o l) q e = e ∙ sym (mapped_chosen c (box_after s m cs).state t o l).1

  pub same_services : (cs : List Call) → (desk_in s (ours s m) cs).services ≡ (box_after s m cs).state.services
  same_services = every (λ cs. (desk_in s (ours s m) cs).services ≡ (box_after s m cs).state.services) (sym at_first)
      (λ h c e. ap (λ (q : Desk). q.services) (desk_more s (ours s m) h c) ∙ one_more_law h c (desk_in s (ours s m) h) e ∙ ap (λ (b : Box). b.state.services) (sym (leaves_append seen next (told Kind.pictures) h (c ∷ []) (opened s m))))
