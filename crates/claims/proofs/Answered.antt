-- Every answer of our device: its state is what the desk says, and an accepted call answers by sheet, paper and desk.
use mathlib.Core.Path.{◌≡◌, refl, sym, ap, ap₂, ◌∙◌, subst, fun_ext}
use mathlib.Core.Logic.{◌≢◌}
use mathlib.Core.Bool.{Bool, true, false, cond, not, ◌||◌}
use Prim.Native.Nat.{ℕ, zero, suc, ◌/◌, ◌%◌, ◌<◌}
use native.Mathlib.Omega.{arith}
use borrow.Author.Tests.{leb-false, eqb-true, eqb-false, eq-eqb, ne_eqb}
use lib.Dec.{eqb, leb, ltb}
use lib.Signed.{lt_z}
use mathlib.Core.List.{List}
use lib.ListN.{length, get_or, set, length-take, length-drop}
use lib.Seq.{sets}
use Rattle.wire_read.specs.Words.{word_at}
use Rattle.wire_signed.specs.Signed.{signed}
use Rattle.ioctl_table.specs.Refusal.{errno_of}
use Rattle.ioctl_table.specs.Table.{argument_size, request_of}
use Rattle.ioctl_table.specs.declared.refusals.Refusal.{Refusal}
use Rattle.ioctl_table.specs.declared.refusals.Refusal.TheVariants.{Closed, WrongType, WrongMemory, NoSuchIndex, NotDequeued, NoSuchControl, BuffersExist, ControlDisabled, ControlReadOnly, ControlIsButton, ControlGrabbed, OutOfRange}
use Rattle.ioctl_table.specs.declared.table.Call.{Call as Asked}
use Rattle.ioctl_table.specs.declared.table.Call.TheVariants.{Unknown, Querycap, EnumFmt, GFmt, SFmt, TryFmt, Reqbufs, Querybuf, Qbuf, Dqbuf, Streamon, Streamoff, GCtrl, SCtrl, Queryctrl, Cropcap, GCrop, SCrop, GSlicedVbiCap}
use Rattle.ioctl_table.proofs.Numbers.{errno_positive}
use Rattle.sheet_copy.specs.Copy.{kept_of}
use Rattle.sheet_contents.specs.Contents.{format_count, control_count, controls_at, control_at}
use Rattle.sheet_records.specs.Records.{control_record}
use Rattle.sheet_copy.proofs.Copies.{kept_word, kept_format_count, kept_code, kept_description, kept_identity, kept_control, kept_record}
use Rattle.sheet_geometry.specs.Geometry.{line_alignment}
use Rattle.sheet_geometry.specs.declared.Rect.{Rect}
use Rattle.sheet_geometry.proofs.Copies.{kept_widths, kept_heights, kept_alignment, kept_bounds, kept_default, kept_aspect}
use Rattle.sheet_rules.specs.Rules.{good_sheet}
use Rattle.sheet_rules.proofs.Good.{identity_within, format_within, control_within}
use Rattle.format_rules.specs.declared.Format.{Format}
use Rattle.negotiation_rules.specs.Negotiation.{opening_format, negotiated, asked_format}
use Rattle.negotiation_rules.specs.Answer.{format_reply}
use Rattle.negotiation_rules.proofs.Reply.{reply_length}
use Rattle.plane_rules.specs.Planes.{no_place, plane_of}
use Rattle.crop_rules.specs.Crop.{clamped, opening_crop}
use Rattle.control_place_rules.specs.Find.{present, place_of, queried_place}
use Rattle.control_value_rules.specs.Values.{default_values, opening_values, reading_at, reading, ranged_at, setting_at, setting_of}
use Rattle.std.specs.Prelude.{Result, Ok, Err}
use Rattle.control_value_rules.specs.declared.Setting.{Setting}
use Rattle.control_value_rules.specs.declared.Setting.TheVariants as settings
use Rattle.stream_words.specs.Stream.{Stream, on_queues}
use Rattle.stream_words.specs.Moves.{is_incoming, is_outgoing, pushed}
use Rattle.stream_run.specs.Switches.{Step, answers, refuses}
use Rattle.stream_queue.specs.Queueing.{enqueue_of}
use Rattle.stream_run.specs.Replies.{Reply as replies}
use Rattle.stream_status.specs.declared.Status.{Status}
use Rattle.stream_status.specs.Buffer.{status_of, returned_of}
use Rattle.format_replies.specs.Replies.{capability_reply, description_reply}
use Rattle.buffer_replies.specs.Replies.{buffer_reply}
use Rattle.control_replies.specs.Replies.{control_reply, value_reply}
use Rattle.crop_replies.specs.Replies.{crop_reply, crop_capability_reply}
use Rattle.format_replies.proofs.Lengths.{capability_length, description_length}
use Rattle.buffer_replies.proofs.Lengths.{buffer_length}
use Rattle.control_replies.proofs.Lengths.{value_length}
use Rattle.crop_replies.proofs.Lengths.{crop_length, crop_capability_length}
use Rattle.stream_arrival.specs.declared.Arrival.TheVariants as arrivals
use Rattle.device_state.specs.State.{State, opening_state, with_video, with_captions}
use Rattle.device_state.specs.Answers.{Answer, refused, by_type}
use Rattle.format_calls.specs.Formats.{querycap_of, enum_fmt_of, g_fmt_of}
use Rattle.negotiation_calls.specs.Negotiations.{told_format, s_fmt_of, try_fmt_of}
use Rattle.crop_calls.specs.Crops.{cropcap_of, g_crop_of, s_crop_of, asked_crop}
use Rattle.control_calls.specs.Controls.{g_ctrl_of, s_ctrl_of, read_as, set_as}
use Rattle.control_query_calls.specs.Query.{queryctrl_of}
use Rattle.buffer_calls.specs.Buffers.{StreamAnswer, stream_answer, stepped, reqbufs_of, querybuf_of}
use Rattle.queue_calls.specs.Queues.{enqueue_reply, qbuf_of}
use Rattle.dequeue_calls.specs.Dequeues.{dqbuf_of}
use Rattle.run_calls.specs.Runs.{streamon_of, streamoff_of}
use Rattle.request_topics.specs.Request.{by_video, by_captions, by_services, stream_call, call_answer}
use Rattle.device_opening.specs.Opening.{Opened, longest_memory, closed_by}
use Rattle.stream_maps.specs.declared.Change.{Change}
use Rattle.device_maps.specs.Mapping.{mapped_of}
use Rattle.device_film.specs.Film.{taken as takes, picture_arrives, captions_arrive, taken_of, taken_memory, device_verdict}
use Rattle.device_planes.specs.Planes.{device_place}
use Rattle.stream_history.specs.Paper.{Paper, Event, step}
use Rattle.stream_history.specs.Paper.Event.{put, handed}
use Rattle.stream_history.proofs.Tied.{Tied}
use Rattle.claims.specs.Calls.{Kind, type_of, Call, arrival_time}
use Rattle.claims.specs.Calls.Call.{request, arrival, change}
use Rattle.claims.specs.Calls.Reply.{answered}
use Rattle.claims.specs.Machine.{reply_in}
use Rattle.claims.specs.Words.{request_told, told_by, papers_in}
use Rattle.claims.specs.Device.{stream_of}
use Rattle.claims.specs.Table.{named, kind_of}
use Rattle.claims.specs.Desk.{Desk, opening_desk, value_on, chosen, choice, desk_in}
use Rattle.claims.specs.Answers.{queues_on, status_on, first_on, answer_on, plane_on}
use Rattle.claims.specs.Demands.{Answers}
use Rattle.claims.proofs.Sessions.{every, desk_more}
use Rattle.claims.proofs.Boxes.{Box, opened, asks, next, paper_after, box_after, ours}
use Rattle.claims.proofs.Steps.{view, box_with, Safe, Foretold, Does, whole_reply, does_call, kind_view}
use Rattle.claims.proofs.Checks.{size_of}
use Rattle.claims.proofs.Shut.{opened_by, opening_by, box_of}
use Rattle.claims.proofs.Mapping.{by_tests}
use Rattle.claims.proofs.Honest.{honest_request}
use Rattle.claims.proofs.Formats.{Reached, reached}
use Rattle.claims.proofs.Lists.{Stands, Since, since, one_more_law}
use Rattle.claims.proofs.Told.{kept_present, kept_place, kept_queried, stream_accepted, stream_argument, reqbufs_answers, same_papers, short, closed_ready, never}
use Rattle.claims.proofs.Tried.{kept_negotiated, kept_told}
use Rattle.claims.proofs.Queued.{querybuf_answers}
use Rattle.claims.proofs.Services.{set_desk}
use Rattle.service_replies.specs.Services.{lines_at, asked_services, services_reply, services_capability_reply}
use Rattle.service_replies.proofs.Reply.{services_length, told_lines, asked_length, asked_fit, capability_length as services-capability-length}
use Rattle.service_calls.specs.Services.{g_services_of, s_services_of, try_services_of, services_capability_of}
use Rattle.stream_history.specs.Calls.{World}
use Rattle.stream_run.specs.Switches.{grant_of}
use Rattle.buffer_replies.specs.Replies.{buffers_reply}
use Rattle.stream_words.specs.declared.Time.{Time}
use Rattle.stream_arrival.specs.Arrivals.{written_by}
use Rattle.stream_verdict.specs.declared.Verdict.TheVariants.{Blank}

-- what a state has on its desk
abbrev desk_of : State → Desk
desk_of d = record { format = d.format; crop = d.crop; values = d.values; services = d.services }

-- ---- the sheet's copy tells what the sheet tells

module _ (s : List ℕ) (good : good_sheet s ≡ true) where
  kept_capability : capability_reply (kept_of s) ≡ capability_reply s
  unfolding capability_reply
  kept_capability = rw (kept_identity s (short s good) (identity_within s good))

  kept_describes : (k : ℕ) → k < format_count s → description_reply (kept_of s) k ≡ description_reply s k
  unfolding description_reply
  kept_describes k h = rw (kept_description s (short s good) k (format_within s good k h), kept_code s (short s good) k)

  kept_controls : (k : ℕ) → k < control_count s → control_reply (kept_of s) k ≡ control_reply s k
  unfolding control_reply
  kept_controls k h = kept_record s (short s good) k (control_within s good k h)

  control_length : (k : ℕ) → k < control_count s → length (control_reply s k) ≡ 68
  unfolding control_reply control_record
  control_length k h = simp (length-take, length-drop) (omega (arith, control_within s good k h))

  kept_crop_capability : crop_capability_reply (kept_of s) ≡ crop_capability_reply s
  unfolding crop_capability_reply
  kept_crop_capability = rw (kept_bounds s (short s good), kept_default s (short s good), kept_aspect s (short s good))

  kept_reading : (values : List ℕ) (id : ℕ) → reading (kept_of s) values id ≡ reading s values id
  unfolding reading
  kept_reading values id = simp (kept_present s (short s good), kept_place s (short s good), kept_control s (short s good))

  kept_setting : (id w : ℕ) → setting_of (kept_of s) id w ≡ setting_of s id w
  unfolding setting_of
  kept_setting id w = simp (kept_present s (short s good), kept_place s (short s good), kept_control s (short s good))

  kept_defaults : (n : ℕ) → default_values (kept_of s) n ≡ default_values s n
  unfolding default_values control_at controls_at
  kept_defaults zero = refl
  kept_defaults (suc n) = simp (kept_defaults n, kept_word s (short s good))

  -- and opening sets the desk by it
  opening_desk_law : (n m : ℕ) → desk_of (opening_state (kept_of s) n m) ≡ opening_desk s
  unfolding opening_state opening_format opening_crop opening_values
  opening_desk_law n m =
      rw (
        kept_widths s (short s good),
        kept_heights s (short s good),
        kept_code s (short s good) 0,
        kept_bounds s (short s good),
        kept_default s (short s good),
        kept_present s (short s good),
        kept_defaults (present s),
      )

-- ---- a stream's queues

queues_same : (w : World) (p : Paper) → Tied w p → w.stream.queues ≡ queues_on p
queues_same w p t = rw (← t.holds.granted, ← t.holds.ins, ← t.holds.outs) refl

status_same : (w : World) (p : Paper) → Tied w p → (i : ℕ) → status_of w.stream i w.size ≡ status_on p i
unfolding status_of
status_same w p t i = rw (queues_same w p t, t.size, t.maps)

-- an accepted QBUF tells the buffer as it is then
qbuf_answers : (x : Stream) (kind size : ℕ) (a : List ℕ) → length a ≡ 68 → (qbuf_of x kind size a).number ≡ 0
    → (qbuf_of x kind size a).argument ≡ buffer_reply kind (status_of (qbuf_of x kind size a).stream (word_at a 0) size)
unfolding qbuf_of enqueue_of
qbuf_answers x kind size a l =
    go (not (eqb (word_at a 48) 1)) (leb x.queues.granted (word_at a 0)) (is_incoming x.queues (word_at a 0) || is_outgoing x.queues (word_at a 0))
  where
    t : Bool → Bool → Step
    t u v = cond u (refuses NoSuchIndex x) (cond v (refuses NotDequeued x) (answers replies.Done (on_queues (λ q. pushed q (word_at a 0)) x)))

    r : Bool → Bool → Bool → StreamAnswer
    r y u v = cond y (stream_answer (errno_of WrongMemory) x a) (stepped (t u v) (enqueue_reply (t u v).reply (t u v).stream kind size a))

    go : (y u v : Bool) → (r y u v).number ≡ 0 → (r y u v).argument ≡ buffer_reply kind (status_of (r y u v).stream (word_at a 0) size)
    go true u v h = absurd (omega (arith, h))
    go false true v h = absurd (omega (arith, h))
    go false false true h = absurd (omega (arith, h))
    go false false false h =
        let st : Status = status_of (on_queues (λ q. pushed q (word_at a 0)) x) (word_at a 0) size in
        whole_reply a (buffer_reply kind st) 68 l (buffer_length kind st)

-- ---- each call

-- What an accepted call leaves on the desk, and in its argument.
record Answered (s : List ℕ) (n : Kind → ℕ) (d : State) (P : Kind → Paper) (call : Asked) (a : List ℕ) (r : Answer) : Type 0 where
  desk : desk_of r.state ≡ chosen s (desk_of d) call a r.argument
  argument : r.argument ≡ answer_on s n P (desk_of d) call a

module _ (s : List ℕ) (good : good_sheet s ≡ true) (d : State) (mem : Kind → List ℕ) (P : Kind → Paper) (safe : (k : Kind) → Safe k (record { sheet = kept_of s; state = d; memory = mem }) (P k)) (a : List ℕ) where
  abbrev box : Box
  box = record { sheet = kept_of s; state = d; memory = mem }

  abbrev DoesIt : Asked → Answer → Type 0
  DoesIt call r = r.number ≡ 0 → Answered s (λ k. length (mem k)) d P call a r

  -- a test that is passed
  past : (call : Asked) (x : Bool) (why : Refusal) (r : Answer) → (x ≡ false → DoesIt call r) → DoesIt call (cond x (refused why d a) r)
  past call true why r f h = absurd (omega (arith, errno_positive why, h))
  past call false why r f h = f refl h

  -- by the type that is named
  by_type_law : (call : Asked) (x y : Answer) → (word_at a 0 ≡ 1 → DoesIt call x) → (word_at a 0 ≡ 6 → DoesIt call y) → DoesIt call (by_type 0 d a x y)
  by_type_law call x y f g = go (eqb (word_at a 0) 1) refl (eqb (word_at a 0) 6) refl
    where
      go : (u : Bool) → eqb (word_at a 0) 1 ≡ u → (v : Bool) → eqb (word_at a 0) 6 ≡ v → DoesIt call (cond u x (cond v y (refused WrongType d a)))
      go true e v i = f (eqb-true (word_at a 0) 1 e)
      go false e true i = g (eqb-true (word_at a 0) 6 i)
      go false e false i = λ h. absurd (omega (arith, h))

  -- the desk does not go by the streams
  stream_desk : (f : Stream → ℕ → ℕ → List ℕ → StreamAnswer) (at : ℕ) → desk_of (stream_call f at d a).state ≡ desk_of d
  stream_desk f at = go (eqb (word_at a at) 1) (eqb (word_at a at) 6)
    where
      go : (u v : Bool) → desk_of (cond u (by_video d (f d.video 1 d.size a)) (cond v (by_captions d (f d.captions 6 (size_of Kind.captions d) a)) (refused WrongType d a))).state ≡ desk_of d
      go true v = refl
      go false true = refl
      go false false = refl

  -- an argument that stays
  stream_quiet : (f : Stream → ℕ → ℕ → List ℕ → StreamAnswer) (at : ℕ) → ((x : Stream) (kind size : ℕ) → (f x kind size a).argument ≡ a) → (stream_call f at d a).argument ≡ a
  stream_quiet f at e = go (eqb (word_at a at) 1) (eqb (word_at a at) 6)
    where
      go : (u v : Bool) → (cond u (by_video d (f d.video 1 d.size a)) (cond v (by_captions d (f d.captions 6 (size_of Kind.captions d) a)) (refused WrongType d a))).argument ≡ a
      go true v = e d.video 1 d.size
      go false true = e d.captions 6 (size_of Kind.captions d)
      go false false = refl

  -- the stream that a buffer call names, and what the call tells it
  abbrev k4 : Kind
  k4 = kind_of (word_at a 4)

  told_named : (call : Asked) (b : List ℕ) → type_of k4 ≡ word_at a 4 → request_told k4 (P k4) call a b ≡ cond (eqb (word_at a 4) (type_of k4)) (request_told k4 (P k4) call a b) Event.idle
  told_named call b e = sym (ap (λ (x : Bool). cond x (request_told k4 (P k4) call a b) Event.idle) (eq-eqb (word_at a 4) (type_of k4) (sym e)))

  answered_reqbufs : length a ≡ 20 → DoesIt Reqbufs (stream_call reqbufs_of 4 d a)
  answered_reqbufs l h =
      let (n, v) = stream_argument reqbufs_of 4 d a h in
      record {
        desk = stream_desk reqbufs_of 4;
        argument = v ∙ reqbufs_answers (stream_of k4 d) (type_of k4) (size_of k4 d) a l n
            ∙ ap (λ (t : ℕ). buffers_reply t (grant_of (stream_of k4 d).length (word_at a 0) (size_of k4 d))) (stream_accepted reqbufs_of 4 d a h).0
            ∙ ap₂ (λ (z y : ℕ). buffers_reply (word_at a 4) (grant_of z (word_at a 0) y)) (safe k4).kept.tied.noted (safe k4).kept.tied.size;
      }

  answered_querybuf : length a ≡ 68 → DoesIt Querybuf (stream_call querybuf_of 4 d a)
  answered_querybuf l h =
      let (n, v) = stream_argument querybuf_of 4 d a h in
      record {
        desk = stream_desk querybuf_of 4;
        argument = v ∙ querybuf_answers (stream_of k4 d) (type_of k4) (size_of k4 d) a l n
            ∙ ap₂ buffer_reply (stream_accepted querybuf_of 4 d a h).0 (status_same (view k4 box) (P k4) (safe k4).kept.tied (word_at a 0));
      }

  answered_qbuf : length a ≡ 68 → DoesIt Qbuf (stream_call qbuf_of 4 d a)
  answered_qbuf l h =
      let (n, v) = stream_argument qbuf_of 4 d a h in
      let (e, is) = stream_accepted qbuf_of 4 d a h in
      let r : StreamAnswer = qbuf_of (stream_of k4 d) (type_of k4) (size_of k4 d) a in
      let g : Does k4 box (P k4) Qbuf a (stream_call qbuf_of 4 d a) = does_call k4 box (P k4) a (safe k4) Qbuf l in
      let put_is : g.event ≡ put (word_at a 0) =
      sym g.tells ∙ ap (λ (n : ℕ). cond (eqb n 0) (told_by k4 (P k4) Qbuf a (stream_call qbuf_of 4 d a).argument) Event.idle) h ∙ sym (told_named Qbuf (stream_call qbuf_of 4 d a).argument e) in
      let w : World = record { stream = r.stream; size = size_of k4 d; memory = mem k4 } in
      let same : view k4 (box_with box (stream_call qbuf_of 4 d a).state) ≡ w = ap (λ (z : Answer). view k4 (box_with box z.state)) is ∙ kind_view box r k4 in
      let t : Tied w (step (P k4) (put (word_at a 0))) = subst (λ (z : World). Tied z (step (P k4) (put (word_at a 0)))) same (subst (λ (x : Event). Tied (view k4 (box_with box (stream_call qbuf_of 4 d a).state)) (step (P k4) x)) put_is g.tied) in
      record {
        desk = stream_desk qbuf_of 4;
        argument = v ∙ qbuf_answers (stream_of k4 d) (type_of k4) (size_of k4 d) a l n ∙ ap₂ buffer_reply e (status_same w (step (P k4) (put (word_at a 0))) t (word_at a 0));
      }

  answered_dqbuf : length a ≡ 68 → DoesIt Dqbuf (stream_call dqbuf_of 4 d a)
  answered_dqbuf l h =
      let e = (stream_accepted dqbuf_of 4 d a h).0 in
      let g : Does k4 box (P k4) Dqbuf a (stream_call dqbuf_of 4 d a) = does_call k4 box (P k4) a (safe k4) Dqbuf l in
      let handed_is : g.event ≡ handed =
      sym g.tells ∙ ap (λ (n : ℕ). cond (eqb n 0) (told_by k4 (P k4) Dqbuf a (stream_call dqbuf_of 4 d a).argument) Event.idle) h ∙ sym (told_named Dqbuf (stream_call dqbuf_of 4 d a).argument e) in
      let q : answered (stream_call dqbuf_of 4 d a).number (stream_call dqbuf_of 4 d a).argument ≡ answered 0 (buffer_reply (type_of k4) (returned_of (P k4).maps (first_on (P k4).outgoing) (P k4).size)) =
      subst (λ (x : Event). Foretold k4 (P k4) x (answered (stream_call dqbuf_of 4 d a).number (stream_call dqbuf_of 4 d a).argument)) handed_is g.foretold in
      let same : (stream_call dqbuf_of 4 d a).argument ≡ buffer_reply (type_of k4) (returned_of (P k4).maps (first_on (P k4).outgoing) (P k4).size) = cc q in
      record { desk = stream_desk dqbuf_of 4; argument = same ∙ ap (λ (t : ℕ). buffer_reply t (returned_of (P k4).maps (first_on (P k4).outgoing) (P k4).size)) e }

  answered_read : length a ≡ 8 → DoesIt GCtrl (g_ctrl_of (kept_of s) d a)
  unfolding g_ctrl_of reading reading_at
  answered_read l =
      subst (λ (x : Result ℕ Refusal). DoesIt GCtrl (read_as x (word_at a 0) d a)) (sym (kept_reading s good d.values (word_at a 0)))
      (go (leb (present s) (place_of s (word_at a 0))) (eqb ((named s a).flags % 2) 1) (eqb (named s a).kind 4))
    where
      v : ℕ
      v = get_or d.values (place_of s (word_at a 0)) 0

      r : Bool → Bool → Bool → Result ℕ Refusal
      r x y z = cond x (Err NoSuchControl) (cond y (Err ControlDisabled) (cond z (Err ControlIsButton) (Ok (get_or d.values (place_of s (word_at a 0)) 0))))

      go : (x y z : Bool) → DoesIt GCtrl (read_as (r x y z) (word_at a 0) d a)
      go true y z h = absurd (omega (arith, h))
      go false true z h = absurd (omega (arith, h))
      go false false true h = absurd (omega (arith, h))
      go false false false h = record { desk = refl; argument = whole_reply a (value_reply (word_at a 0) v) 8 l (value_length (word_at a 0) v) }

  answered_set : length a ≡ 8 → DoesIt SCtrl (s_ctrl_of (kept_of s) d a)
  unfolding s_ctrl_of setting_of setting_at ranged_at
  answered_set l =
      subst (λ (x : Result Setting Refusal). DoesIt SCtrl (set_as x (word_at a 0) d a)) (sym (kept_setting s good (word_at a 0) (word_at a 4)))
      λ h. let (x, y) = go (leb (present s) (place_of s (word_at a 0))) (eqb ((named s a).flags % 2) 1) (eqb ((named s a).flags / 4 % 2) 1) (eqb ((named s a).flags / 2 % 2) 1) (eqb (named s a).kind 4)
      (lt_z (signed (word_at a 4)) (named s a).limits.minimum) (lt_z (named s a).limits.maximum (signed (word_at a 4))) h in
      record { desk = x; argument = y }
    where
      r : Bool → Bool → Bool → Bool → Bool → Bool → Bool → Result Setting Refusal
      r x y z u button lo hi = cond x (Err NoSuchControl) (cond y (Err ControlDisabled) (cond z (Err ControlReadOnly) (cond u (Err ControlGrabbed)
          (cond button (Ok settings.Pressed) (cond lo (Err OutOfRange) (cond hi (Err OutOfRange) (Ok (settings.Stored (place_of s (word_at a 0)) (value_on s a)))))))))

      kept : Desk
      kept = record { format = d.format; crop = d.crop; values = set d.values (place_of s (word_at a 0)) (value_on s a); services = d.services }

      go : (x y z u button lo hi : Bool) → (set_as (r x y z u button lo hi) (word_at a 0) d a).number ≡ 0
          → (desk_of (set_as (r x y z u button lo hi) (word_at a 0) d a).state ≡ cond button (desk_of d) kept)
          × ((set_as (r x y z u button lo hi) (word_at a 0) d a).argument ≡ cond button a (value_reply (word_at a 0) (value_on s a)))
      go true y z u button lo hi h = absurd (omega (arith, h))
      go false true z u button lo hi h = absurd (omega (arith, h))
      go false false true u button lo hi h = absurd (omega (arith, h))
      go false false false true button lo hi h = absurd (omega (arith, h))
      go false false false false true lo hi h = (refl, refl)
      go false false false false false true hi h = absurd (omega (arith, h))
      go false false false false false false true h = absurd (omega (arith, h))
      go false false false false false false false h = (refl, whole_reply a (value_reply (word_at a 0) (value_on s a)) 8 l (value_length (word_at a 0) (value_on s a)))

  answered_control : length a ≡ 68 → DoesIt Queryctrl (queryctrl_of (kept_of s) d a)
  unfolding queryctrl_of present
  answered_control l = past Queryctrl (leb (present (kept_of s)) (queried_place (kept_of s) (word_at a 0))) NoSuchControl _ λ e h.
      let k : ℕ = queried_place s (word_at a 0) in
      let b : k < control_count s = omega (arith, leb-false (present (kept_of s)) (queried_place (kept_of s) (word_at a 0)) e, kept_present s (short s good), kept_queried s (short s good) (word_at a 0)) in
      let same : control_reply (kept_of s) (queried_place (kept_of s) (word_at a 0)) ≡ control_reply s k = ap (control_reply (kept_of s)) (kept_queried s (short s good) (word_at a 0)) ∙ kept_controls s good k b in
      record { desk = refl; argument = ap (sets a 0) same ∙ whole_reply a (control_reply s k) 68 l (control_length s good k b) }

  -- what G_FMT, S_FMT and TRY_FMT answer and choose by the type
  of_pictures : (x y : List ℕ) → word_at a 0 ≡ 1 → cond (eqb (word_at a 0) 6) x y ≡ y
  of_pictures x y e = ap (λ (w : ℕ). cond (eqb w 6) x y) e

  of_captions : (x y : List ℕ) → word_at a 0 ≡ 6 → cond (eqb (word_at a 0) 6) x y ≡ x
  of_captions x y e = ap (λ (w : ℕ). cond (eqb w 6) x y) e

  own_format : format_reply 1 d.format d.line d.size ≡ told_format s d.format
  own_format = rw ((safe Kind.pictures).sized.0, (safe Kind.pictures).sized.1, kept_alignment s (short s good))

  answered_g_fmt : length a ≡ 204 → DoesIt GFmt (call_answer GFmt (kept_of s) d a)
  unfolding g_fmt_of g_services_of
  answered_g_fmt l = by_type_law GFmt _ _
      (λ e h. record {
        desk = refl;
        argument = whole_reply a (format_reply 1 d.format d.line d.size) 204 l (reply_length 1 d.format d.line d.size) ∙ own_format ∙ sym (of_pictures (services_reply 6 d.services) (told_format s d.format) e);
      })
      (λ e h. record {
        desk = refl;
        argument = whole_reply a (services_reply 6 d.services) 204 l (services_length 6 d.services) ∙ sym (of_captions (services_reply 6 d.services) (told_format s d.format) e);
      })

  -- the format that was negotiated, told by the sheet's copy
  told_picture : length a ≡ 204 → sets a 0 (told_format (kept_of s) (negotiated (kept_of s) (asked_format a))) ≡ told_format s (negotiated s (asked_format a))
  told_picture l =
      let f : Format = negotiated (kept_of s) (asked_format a) in
      whole_reply a (told_format (kept_of s) f) 204 l (reply_length 1 f _ _) ∙ kept_told s (short s good) f ∙ ap (told_format s) (kept_negotiated s (short s good) (asked_format a))

  told_lines_whole : length a ≡ 204 → sets a 0 (services_reply 6 (asked_services a)) ≡ services_reply 6 (asked_services a)
  told_lines_whole l = whole_reply a (services_reply 6 (asked_services a)) 204 l (services_length 6 (asked_services a))

  answered_s_fmt : length a ≡ 204 → DoesIt SFmt (call_answer SFmt (kept_of s) d a)
  unfolding s_fmt_of s_services_of
  answered_s_fmt l = by_type_law SFmt _ _
      (λ e. past SFmt (not (eqb d.video.queues.granted 0)) BuffersExist _ λ f h. record {
        desk = ap (λ (z : Format). record { format = z; crop = d.crop; values = d.values; services = d.services }) (kept_negotiated s (short s good) (asked_format a))
            ∙ sym (ap (λ (w : ℕ). set_desk s (desk_of d) a (sets a 0 (told_format (kept_of s) (negotiated (kept_of s) (asked_format a)))) w) e);
        argument = told_picture l ∙ sym (of_pictures (services_reply 6 (asked_services a)) (told_format s (negotiated s (asked_format a))) e);
      })
      (λ e. go e (not (eqb d.captions.queues.granted 0)))
    where
      go : word_at a 0 ≡ 6 → (x : Bool) → DoesIt SFmt (by_services d (cond x (record { number = errno_of BuffersExist; lines = d.services; argument = a }) (record { number = 0; lines = asked_services a; argument = sets a 0 (services_reply 6 (asked_services a)) })))
      go e true h = absurd (omega (arith, h))
      go e false h = record {
        desk = ap (λ (z : List ℕ). record { format = d.format; crop = d.crop; values = d.values; services = z })
            (sym (ap (λ (v : List ℕ). lines_at v 6) (told_lines_whole l) ∙ told_lines 6 (asked_services a) (asked_length a) (asked_fit a)))
            ∙ sym (ap (λ (w : ℕ). set_desk s (desk_of d) a (sets a 0 (services_reply 6 (asked_services a))) w) e);
        argument = told_lines_whole l ∙ sym (of_captions (services_reply 6 (asked_services a)) (told_format s (negotiated s (asked_format a))) e);
      }

  answered_try_fmt : length a ≡ 204 → DoesIt TryFmt (call_answer TryFmt (kept_of s) d a)
  unfolding try_fmt_of try_services_of
  answered_try_fmt l = by_type_law TryFmt _ _
      (λ e h. record { desk = refl; argument = told_picture l ∙ sym (of_pictures (services_reply 6 (asked_services a)) (told_format s (negotiated s (asked_format a))) e) })
      (λ e h. record { desk = refl; argument = told_lines_whole l ∙ sym (of_captions (services_reply 6 (asked_services a)) (told_format s (negotiated s (asked_format a))) e) })

  answered_services : length a ≡ 116 → DoesIt GSlicedVbiCap (call_answer GSlicedVbiCap (kept_of s) d a)
  unfolding services_capability_of
  answered_services l = go (not (eqb (word_at a 100) 6))
    where
      go : (x : Bool) → DoesIt GSlicedVbiCap (by_services d (cond x (record { number = errno_of WrongType; lines = d.services; argument = a }) (record { number = 0; lines = d.services; argument = sets a 0 (services_capability_reply 6) })))
      go true h = absurd (omega (arith, h))
      go false h = record { desk = refl; argument = whole_reply a (services_capability_reply 6) 116 l (services-capability-length 6) }

  answers_call : (call : Asked) → length a ≡ argument_size call → DoesIt call (call_answer call (kept_of s) d a)
  unfolding querycap_of enum_fmt_of cropcap_of g_crop_of s_crop_of streamon_of streamoff_of
  answers_call Unknown l = λ h. absurd (omega (arith, h))
  answers_call Querycap l = λ h. record { desk = refl; argument = whole_reply a (capability_reply (kept_of s)) 104 l (capability_length (kept_of s)) ∙ kept_capability s good }
  answers_call EnumFmt l = past EnumFmt (not (eqb (word_at a 4) 1)) WrongType _ λ t. past EnumFmt (leb (format_count (kept_of s)) (word_at a 0)) NoSuchIndex _ λ e h.
      record {
        desk = refl;
        argument = whole_reply a (description_reply (kept_of s) (word_at a 0)) 64 l (description_length (kept_of s) (word_at a 0))
            ∙ kept_describes s good (word_at a 0) (omega (arith, leb-false (format_count (kept_of s)) (word_at a 0) e, kept_format_count s (short s good)));
      }
  answers_call GFmt l = answered_g_fmt l
  answers_call SFmt l = answered_s_fmt l
  answers_call TryFmt l = answered_try_fmt l
  answers_call Reqbufs l = answered_reqbufs l
  answers_call Querybuf l = answered_querybuf l
  answers_call Qbuf l = answered_qbuf l
  answers_call Dqbuf l = answered_dqbuf l
  answers_call Streamon l = λ h. record { desk = stream_desk streamon_of 0; argument = stream_quiet streamon_of 0 (λ x kind size. refl) }
  answers_call Streamoff l = λ h. record { desk = stream_desk streamoff_of 0; argument = stream_quiet streamoff_of 0 (λ x kind size. refl) }
  answers_call GCtrl l = answered_read l
  answers_call SCtrl l = answered_set l
  answers_call Queryctrl l = answered_control l
  answers_call Cropcap l = past Cropcap (not (eqb (word_at a 0) 1)) WrongType _ λ t h.
      record { desk = refl; argument = whole_reply a (crop_capability_reply (kept_of s)) 44 l (crop_capability_length (kept_of s)) ∙ kept_crop_capability s good }
  answers_call GCrop l = past GCrop (not (eqb (word_at a 0) 1)) WrongType _ λ t h. record { desk = refl; argument = whole_reply a (crop_reply d.crop) 20 l (crop_length d.crop) }
  answers_call SCrop l = past SCrop (not (eqb (word_at a 0) 1)) WrongType _ λ t h.
      record { desk = ap (λ (z : Rect). record { format = d.format; crop = clamped z (asked_crop a); values = d.values; services = d.services }) (kept_bounds s (short s good)); argument = refl }
  answers_call GSlicedVbiCap l = answered_services l

-- ---- from an opening

-- an arrival leaves the desk
arrival_desk : (d : State) (t l : ℕ) (f : List ℕ) (u : Time) → desk_of (taken_of d t l f u).state ≡ desk_of d
unfolding taken_of
arrival_desk d t l f u = go (eqb d.ready 0) (eqb t 1) (eqb t 6)
  where
    go : (x y z : Bool) → desk_of (cond x (takes (arrivals.Refused Closed) d) (cond y (takes (picture_arrives d l f u).arrival (with_video d (picture_arrives d l f u).stream))
        (cond z (takes (captions_arrive d l f u).arrival (with_captions d (captions_arrive d l f u).stream)) (takes (arrivals.Refused WrongType) d)))).state ≡ desk_of d
    go true y z = refl
    go false true z = refl
    go false false true = refl
    go false false false = refl

-- and so does a map or an unmap
change_desk : (c : Change) (d : State) (t o l : ℕ) → desk_of (mapped_of c d t o l).state ≡ desk_of d
unfolding mapped_of
change_desk c d t o l = go (eqb d.ready 0) (eqb t 1) (eqb t 6)
  where
    go : (x y z : Bool) → desk_of (by_tests c d t o l x y z).state ≡ desk_of d
    go true y z = refl
    go false true z = refl
    go false false true = refl
    go false false false = refl

-- a good opening, and any calls after it
module _ (s : List ℕ) (m : Kind → List ℕ) (good : good_sheet s ≡ true) (zero_is : (opened_by s m).number ≡ 0) where
  stands : (cs : List Call) (k : Kind) → Stands s m k (box_after s m cs) (paper_after s m k cs)
  stands cs = go (since s m cs)
    where
      go : Since s m cs → (k : Kind) → Stands s m k (box_after s m cs) (paper_after s m k cs)
      go (Since.good g n t) = t
      go (Since.bad n d p) = absurd (omega (arith, n, zero_is))

  -- an accepted request
  accepted : (cs : List Call) (w : ℕ) (a : List ℕ) → (asks (box_after s m cs) w a).number ≡ 0
      → Answered s (λ k. length (m k)) (box_after s m cs).state (λ k. paper_after s m k cs) (request_of w).call a (asks (box_after s m cs) w a)
  accepted cs w a h =
      let b : Box = box_after s m cs in
      let P : Kind → Paper = λ k. paper_after s m k cs in
      let q : Reached b.sheet b.state w a = reached b.sheet b.state w a h in
      let is : asks b w a ≡ call_answer (request_of w).call (kept_of s) b.state a = q.is ∙ ap (λ (z : List ℕ). call_answer (request_of w).call z b.state a) (stands cs Kind.pictures).sheet in
      let safe : (k : Kind) → Safe k (record { sheet = kept_of s; state = b.state; memory = b.memory }) (paper_after s m k cs) =
      λ k. subst (λ (z : List ℕ). Safe k (record { sheet = z; state = b.state; memory = b.memory }) (paper_after s m k cs)) (stands cs k).sheet (stands cs k).safe in
      let long : ◌≡◌ {A = Kind → ℕ} (λ k. length (b.memory k)) (λ k. length (m k)) = fun_ext λ k. (stands cs k).long in
      subst (Answered s (λ k. length (m k)) b.state P (request_of w).call a) (sym is)
      (subst (λ (n : Kind → ℕ). Answered s n b.state P (request_of w).call a (call_answer (request_of w).call (kept_of s) b.state a)) long
      (answers_call s good b.state b.memory P safe a (request_of w).call q.long (ap (λ (r : Answer). r.number) (sym is) ∙ h)))

  -- the desk after one call more
  desk_next : (cs : List Call) (c : Call) → desk_of (next (box_after s m cs) c).state ≡ choice s (desk_of (box_after s m cs).state) c (reply_in (ours s m) cs c)
  desk_next cs (request w a) = go (eqb (asks b w a).number 0) refl
    where
      b : Box
      b = box_after s m cs

      go : (x : Bool) → eqb (asks b w a).number 0 ≡ x → desk_of (asks b w a).state ≡ cond x (chosen s (desk_of b.state) (request_of w).call a (asks b w a).argument) (desk_of b.state)
      go true e = (accepted cs w a (eqb-true (asks b w a).number 0 e)).desk
      go false e = ap desk_of ((honest_request b.state a b.sheet w).unchanged (eqb-false (asks b w a).number 0 e)).0
  desk_next cs (arrival t f x y other) = arrival_desk (box_after s m cs).state t _ f (arrival_time x y)
  desk_next cs (change c t o l) = change_desk c (box_after s m cs).state t o l

  at_first : desk_of (opened s m).state ≡ opening_desk s
  unfolding closed_by
  at_first = go (ltb longest_memory (length (m Kind.pictures))) refl (ltb longest_memory (length (m Kind.captions))) refl
    where
      go : (x : Bool) → ltb longest_memory (length (m Kind.pictures)) ≡ x → (y : Bool) → ltb longest_memory (length (m Kind.captions)) ≡ y → desk_of (opened s m).state ≡ opening_desk s
      go true e y f = absurd (omega (arith, zero_is, ap (λ (o : Opened). o.number) (opening_by s m true true y good e f)))
      go false e true f = absurd (omega (arith, zero_is, ap (λ (o : Opened). o.number) (opening_by s m true false true good e f)))
      go false e false f = ap (λ (o : Opened). desk_of (box_of o m).state) (opening_by s m true false false good e f) ∙ opening_desk_law s good (length (m Kind.pictures)) (length (m Kind.captions))

  same_desk : (cs : List Call) → desk_of (box_after s m cs).state ≡ desk_in s (ours s m) cs
  same_desk = every (λ cs. desk_of (box_after s m cs).state ≡ desk_in s (ours s m) cs) at_first
      (λ h c e. ap (λ (b : Box). desk_of b.state) (one_more_law s m h c) ∙ desk_next h c ∙ ap (λ (q : Desk). choice s q c (reply_in (ours s m) h c)) e ∙ sym (desk_more s (ours s m) h c))

-- another type than those of the streams
module _ (d : State) (t : ℕ) (n : t ≢ 1) (o : t ≢ 6) where
  other_verdict : device_verdict d t ≡ Blank
  unfolding device_verdict
  other_verdict = rw (ne_eqb t 1 n, ne_eqb t 6 o) (go (eqb d.ready 0))
    where
      go : (x : Bool) → cond x Blank Blank ≡ Blank
      go true = refl
      go false = refl

  other_leaves : (f : List ℕ) (u : Time) (z : List ℕ) → taken_memory d t z f u ≡ z
  unfolding taken_memory taken_of
  other_leaves f u z = rw (ne_eqb t 1 n, ne_eqb t 6 o) (go (eqb d.ready 0))
    where
      go : (x : Bool) → written_by (cond x (takes (arrivals.Refused Closed) d) (takes (arrivals.Refused WrongType) d)).arrival (size_of Kind.captions d) z f ≡ z
      go true = refl
      go false = refl

module _ (s : List ℕ) (m : Kind → List ℕ) where
  arguments_told : (cs : List Call) (w : ℕ) (a : List ℕ) → ((ours s m).request cs w a).number ≡ 0
      → ((ours s m).request cs w a).argument ≡ answer_on s (λ k. length (m k)) (papers_in s (ours s m) cs) (desk_in s (ours s m) cs) (request_of w).call a
  arguments_told cs w a h = go (since s m cs)
    where
      b : Box
      b = box_after s m cs

      go : Since s m cs → (asks b w a).argument ≡ answer_on s (λ k. length (m k)) (papers_in s (ours s m) cs) (desk_in s (ours s m) cs) (request_of w).call a
      go (Since.good g n t) =
          (accepted s m g n cs w a h).argument
          ∙ ap₂ (λ (P : Kind → Paper) (q : Desk). answer_on s (λ k. length (m k)) P q (request_of w).call a) (sym (same_papers s m cs)) (same_desk s m g n cs)
      go (Since.bad n d p) = never b.state d (reached b.sheet b.state w a h).ready

  planes_told : (cs : List Call) (n k : ℕ) → (ours s m).plane cs n k ≡ plane_on (ours s m).opening s (desk_in s (ours s m) cs) n k
  unfolding device_place
  planes_told cs n k = go (since s m cs)
    where
      b : Box
      b = box_after s m cs

      go : Since s m cs → device_place b.sheet b.state n k ≡ plane_on (opened_by s m).number s (desk_in s (ours s m) cs) n k
      go (Since.good g z t) =
          let is : device_place b.sheet b.state n k ≡ plane_of b.state.format (line_alignment s) n k = rw ((t Kind.pictures).safe.ready, (t Kind.pictures).sheet, kept_alignment s (short s g)) in
          is ∙ ap (λ (q : Desk). plane_of q.format (line_alignment s) n k) (same_desk s m g z cs) ∙ ap (λ (o : ℕ). plane_on o s (desk_in s (ours s m) cs) n k) (sym z)
      go (Since.bad z d p) =
          let is : device_place b.sheet b.state n k ≡ no_place Closed = rw (closed_ready b.state d) in
          is ∙ ap (λ (o : ℕ). plane_on o s (desk_in s (ours s m) cs) n k) (sym z)

  pub told_answers : Answers s m (ours s m)
  told_answers = record {
    arguments = arguments_told;
    planes = planes_told;
    others = λ cs t n o. other_verdict (box_after s m cs).state t n o;
    untouched = λ cs t f x y other n o. other_leaves (box_after s m cs).state t n o f (arrival_time x y) other;
  }
