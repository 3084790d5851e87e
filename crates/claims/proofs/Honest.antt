-- A refusal changes nothing, and every answer has a number of the table.
use mathlib.Core.Path.{◌≡◌, refl, ap}
use mathlib.Core.Logic.{◌≢◌}
use mathlib.Core.Bool.{Bool, true, false, cond, not}
use Prim.Native.Nat.{ℕ}
use lib.Dec.{eqb, leb}
use mathlib.Core.List.{List}
use lib.ListN.{length, set}
use lib.Seq.{sets, length-sets}
use Rattle.wire_read.specs.Words.{word_at}
use Rattle.ioctl_table.specs.Refusal.{errno_of}
use Rattle.ioctl_table.specs.Table.{request_of}
use Rattle.ioctl_table.specs.declared.refusals.Refusal.{Refusal}
use Rattle.ioctl_table.specs.declared.refusals.Refusal.TheVariants.{ArgumentLength, Closed, UnknownWord, WrongType, NoSuchIndex, NoSuchControl, BuffersExist}
use Rattle.ioctl_table.specs.declared.table.Call.{Call}
use Rattle.ioctl_table.specs.declared.table.Call.TheVariants.{Unknown, Querycap, EnumFmt, GFmt, SFmt, TryFmt, Reqbufs, Querybuf, Qbuf, Dqbuf, Streamon, Streamoff, GCtrl, SCtrl, Queryctrl, Cropcap, GCrop, SCrop, GSlicedVbiCap}
use Rattle.sheet_contents.specs.Contents.{format_count}
use Rattle.control_place_rules.specs.Find.{present, queried_place}
use Rattle.control_value_rules.specs.Values.{reading, setting_of}
use Rattle.std.specs.Prelude.{Result, Ok, Err}
use Rattle.control_value_rules.specs.declared.Setting.{Setting}
use Rattle.control_value_rules.specs.declared.Setting.TheVariants as settings
use Rattle.negotiation_rules.specs.Negotiation.{negotiated, asked_format}
use Rattle.negotiation_rules.specs.Answer.{format_reply}
use Rattle.format_replies.specs.Replies.{capability_reply, description_reply}
use Rattle.control_replies.specs.Replies.{control_reply, value_reply}
use Rattle.crop_replies.specs.Replies.{crop_reply, crop_capability_reply}
use Rattle.stream_words.specs.Stream.{Stream}
use Rattle.device_state.specs.State.{State, with_format, with_values, with_services, with_video, with_captions}
use Rattle.device_state.specs.Answers.{Answer, answer, done, refused, by_type}
use Rattle.format_calls.specs.Formats.{querycap_of, enum_fmt_of, g_fmt_of}
use Rattle.negotiation_calls.specs.Negotiations.{told_format, s_fmt_of, try_fmt_of}
use Rattle.crop_calls.specs.Crops.{cropcap_of, g_crop_of, s_crop_of}
use Rattle.control_calls.specs.Controls.{g_ctrl_of, s_ctrl_of, read_as, set_as}
use Rattle.control_query_calls.specs.Query.{queryctrl_of}
use Rattle.service_replies.specs.Services.{asked_services, services_reply, services_capability_reply}
use Rattle.service_calls.specs.Services.{ServicesAnswer, services_answer, g_services_of, s_services_of, try_services_of, services_capability_of}
use Rattle.buffer_calls.specs.Buffers.{StreamAnswer, reqbufs_of, querybuf_of}
use Rattle.queue_calls.specs.Queues.{qbuf_of}
use Rattle.dequeue_calls.specs.Dequeues.{dqbuf_of}
use Rattle.run_calls.specs.Runs.{streamon_of, streamoff_of}
use Rattle.run_calls.proofs.Refused.{HonestStream, reqbufs_honest, querybuf_honest, qbuf_honest, dqbuf_honest, streamon_honest, streamoff_honest}
use Rattle.request_topics.specs.Request.{by_video, by_captions, by_services, stream_call, call_answer, request_answer}

-- a refusal changes nothing, and the argument keeps its length
pub record Honest (d : State) (a : List ℕ) (r : Answer) : Type 0 where
  pub unchanged : r.number ≢ 0 → (r.state ≡ d) × (r.argument ≡ a)
  pub long : length r.argument ≡ length a

module _ (d : State) (a : List ℕ) where
  honest_refused : (n : ℕ) → Honest d a (answer n d a)
  honest_refused n = record { unchanged = λ h. (refl, refl); long = refl }

  -- done: a reply is stored over the argument, or the argument stays
  honest_done : (e : State) (v : List ℕ) → Honest d a (done e (sets a 0 v))
  honest_done e v = record { unchanged = λ h. absurd (h refl); long = length-sets a 0 v }

  honest_quiet : (e : State) → Honest d a (done e a)
  honest_quiet e = record { unchanged = λ h. absurd (h refl); long = refl }

  honest_check : (x : Bool) (why : Refusal) (r : Answer) → Honest d a r → Honest d a (cond x (refused why d a) r)
  honest_check true why r h = honest_refused (errno_of why)
  honest_check false why r h = h

  -- as honest as each of its answers
  honest_type : (at : ℕ) (pictures captions : Answer) → Honest d a pictures → Honest d a captions → Honest d a (by_type at d a pictures captions)
  honest_type at pictures captions h k = go (eqb (word_at a at) 1) (eqb (word_at a at) 6)
    where
      go : (x y : Bool) → Honest d a (cond x pictures (cond y captions (refused WrongType d a)))
      go true y = h
      go false true = k
      go false false = honest_refused (errno_of WrongType)

  -- as honest as its stream is
  honest_video : (r : StreamAnswer) → HonestStream d.video a r → Honest d a (by_video d r)
  honest_video r h = record { unchanged = λ n. (ap (with_video d) (h.unchanged n).0, (h.unchanged n).1); long = h.long }

  honest_captions : (r : StreamAnswer) → HonestStream d.captions a r → Honest d a (by_captions d r)
  honest_captions r h = record { unchanged = λ n. (ap (with_captions d) (h.unchanged n).0, (h.unchanged n).1); long = h.long }

  honest_stream : (f : Stream → ℕ → ℕ → List ℕ → StreamAnswer) (at : ℕ) → ((t : Stream) (kind size : ℕ) → HonestStream t a (f t kind size a)) → Honest d a (stream_call f at d a)
  honest_stream f at h = honest_type at _ _ (honest_video _ (h d.video 1 d.size)) (honest_captions _ (h d.captions 6 _))

  -- the services after a test
  honest_services : (x : Bool) (why : Refusal) (r : ServicesAnswer) → Honest d a (by_services d r) → Honest d a (by_services d (cond x (services_answer (errno_of why) d.services a) r))
  honest_services true why r h = honest_refused (errno_of why)
  honest_services false why r h = h

  honest_read : (x : Result ℕ Refusal) (id : ℕ) → Honest d a (read_as x id d a)
  honest_read (Ok v) id = honest_done d (value_reply id v)
  honest_read (Err why) id = honest_refused (errno_of why)

  honest_set : (x : Result Setting Refusal) (id : ℕ) → Honest d a (set_as x id d a)
  honest_set (Ok (settings.Stored k v)) id = honest_done (with_values d (set d.values k v)) (value_reply id v)
  honest_set (Ok settings.Pressed) id = honest_quiet d
  honest_set (Err why) id = honest_refused (errno_of why)

  honest_call : (s : List ℕ) (call : Call) → Honest d a (call_answer call s d a)
  unfolding querycap_of enum_fmt_of g_fmt_of s_fmt_of try_fmt_of cropcap_of g_crop_of s_crop_of queryctrl_of g_ctrl_of s_ctrl_of g_services_of s_services_of try_services_of services_capability_of
  honest_call s Unknown = honest_refused (errno_of UnknownWord)
  honest_call s Querycap = honest_done d (capability_reply s)
  honest_call s EnumFmt = honest_check (not (eqb (word_at a 4) 1)) WrongType _ (honest_check (leb (format_count s) (word_at a 0)) NoSuchIndex _ (honest_done d (description_reply s (word_at a 0))))
  honest_call s GFmt = honest_type 0 _ _ (honest_done d (format_reply 1 d.format d.line d.size)) (honest_done d (services_reply 6 d.services))
  honest_call s SFmt =
      honest_type 0 _ _
      (honest_check (not (eqb d.video.queues.granted 0)) BuffersExist _ (honest_done (with_format s d (negotiated s (asked_format a))) (told_format s (negotiated s (asked_format a)))))
      (honest_services (not (eqb d.captions.queues.granted 0)) BuffersExist _ (honest_done (with_services d (asked_services a)) (services_reply 6 (asked_services a))))
  honest_call s TryFmt = honest_type 0 _ _ (honest_done d (told_format s (negotiated s (asked_format a)))) (honest_done d (services_reply 6 (asked_services a)))
  honest_call s Reqbufs = honest_stream reqbufs_of 4 (λ t. reqbufs_honest t a)
  honest_call s Querybuf = honest_stream querybuf_of 4 (λ t. querybuf_honest t a)
  honest_call s Qbuf = honest_stream qbuf_of 4 (λ t. qbuf_honest t a)
  honest_call s Dqbuf = honest_stream dqbuf_of 4 (λ t. dqbuf_honest t a)
  honest_call s Streamon = honest_stream streamon_of 0 (λ t. streamon_honest t a)
  honest_call s Streamoff = honest_stream streamoff_of 0 (λ t. streamoff_honest t a)
  honest_call s GCtrl = honest_read (reading s d.values (word_at a 0)) (word_at a 0)
  honest_call s SCtrl = honest_set (setting_of s (word_at a 0) (word_at a 4)) (word_at a 0)
  honest_call s Queryctrl = honest_check (leb (present s) (queried_place s (word_at a 0))) NoSuchControl _ (honest_done d (control_reply s (queried_place s (word_at a 0))))
  honest_call s Cropcap = honest_check (not (eqb (word_at a 0) 1)) WrongType _ (honest_done d (crop_capability_reply s))
  honest_call s GCrop = honest_check (not (eqb (word_at a 0) 1)) WrongType _ (honest_done d (crop_reply d.crop))
  honest_call s SCrop = honest_check (not (eqb (word_at a 0) 1)) WrongType _ (honest_quiet _)
  honest_call s GSlicedVbiCap = honest_services (not (eqb (word_at a 100) 6)) WrongType _ (honest_done d (services_capability_reply 6))

  pub honest_request : (s : List ℕ) (w : ℕ) → Honest d a (request_answer s d w a)
  unfolding request_answer
  honest_request s w =
      honest_check (eqb d.ready 0) Closed _
      (honest_check (eqb (request_of w).size 0) UnknownWord _ (honest_check (not (eqb (length a) (request_of w).size)) ArgumentLength _ (honest_call s (request_of w).call)))
