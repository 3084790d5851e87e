-- The number of every request is that of the refusal table.
use mathlib.Core.Path.{◌≡◌, refl}
use mathlib.Core.Bool.{Bool, true, false, cond, not, ◌&&◌, ◌||◌}
use Prim.Native.Nat.{ℕ, ◌/◌, ◌%◌}
use native.Mathlib.Omega.{arith}
use borrow.Author.Tests.{eqb-true}
use lib.Dec.{eqb, leb}
use lib.Signed.{lt_z}
use mathlib.Core.List.{List}
use lib.ListN.{length}
use Rattle.wire_read.specs.Words.{word_at}
use Rattle.wire_signed.specs.Signed.{signed, bits}
use Rattle.grid_rules.specs.Grid.{nearest_value}
use Rattle.ioctl_table.specs.Refusal.{errno_of}
use Rattle.ioctl_table.specs.Table.{request_of}
use Rattle.ioctl_table.specs.declared.refusals.Refusal.{Refusal}
use Rattle.ioctl_table.specs.declared.refusals.Refusal.TheVariants.{ArgumentLength, Closed, UnknownWord, WrongType, NoSuchIndex, NoSuchControl, ControlDisabled, ControlReadOnly, ControlIsButton, BuffersExist, ControlGrabbed, OutOfRange}
use Rattle.ioctl_table.specs.declared.table.Call.{Call}
use Rattle.ioctl_table.specs.declared.table.Call.TheVariants.{Unknown, Querycap, EnumFmt, GFmt, SFmt, TryFmt, Reqbufs, Querybuf, Qbuf, Dqbuf, Streamon, Streamoff, GCtrl, SCtrl, Queryctrl, Cropcap, GCrop, SCrop, GSlicedVbiCap}
use Rattle.sheet_records.specs.declared.Control.{Control}
use Rattle.sheet_contents.specs.Contents.{format_count}
use Rattle.control_place_rules.specs.Find.{present, place_of, queried_place}
use Rattle.control_value_rules.specs.Values.{reading_at, reading, ranged_at, setting_at, setting_of}
use Rattle.std.specs.Prelude.{Result, Ok, Err}
use Rattle.control_value_rules.specs.declared.Setting.{Setting}
use Rattle.control_value_rules.specs.declared.Setting.TheVariants as settings
use Rattle.stream_words.specs.Stream.{Stream}
use Rattle.stream_words.specs.Moves.{is_incoming, is_outgoing}
use Rattle.stream_maps.specs.Maps.{any_mapped}
use Rattle.stream_run.specs.Stream.{streaming}
use Rattle.device_state.specs.State.{State}
use Rattle.device_state.specs.Answers.{Answer, refused, by_type}
use Rattle.format_calls.specs.Formats.{querycap_of, enum_fmt_of, g_fmt_of}
use Rattle.negotiation_calls.specs.Negotiations.{s_fmt_of, try_fmt_of}
use Rattle.crop_calls.specs.Crops.{cropcap_of, g_crop_of, s_crop_of}
use Rattle.control_calls.specs.Controls.{g_ctrl_of, s_ctrl_of, read_as, set_as}
use Rattle.control_query_calls.specs.Query.{queryctrl_of}
use Rattle.service_calls.specs.Services.{ServicesAnswer, services_answer, g_services_of, s_services_of, try_services_of, services_capability_of}
use Rattle.buffer_calls.specs.Buffers.{StreamAnswer, reqbufs_of, querybuf_of}
use Rattle.queue_calls.specs.Queues.{qbuf_of}
use Rattle.dequeue_calls.specs.Dequeues.{dqbuf_of}
use Rattle.run_calls.specs.Runs.{streamon_of, streamoff_of}
use Rattle.run_calls.proofs.Numbers.{reqbufs_number, querybuf_number, qbuf_number, dqbuf_number, streamon_number, streamoff_number}
use Rattle.request_topics.specs.Request.{by_services, stream_call, call_answer, request_answer}
use Rattle.claims.specs.Calls.{Kind}
use Rattle.claims.specs.Device.{stream_of}
use Rattle.claims.specs.Table.{first_number, kind_of, no_stream, named, out_of_range}
use Rattle.claims.proofs.Checks.{stream_at, checks, request_checks}

-- a test before the rest: its number, or that of the rest
after_check : (x : Bool) (why : Refusal) (d : State) (a : List ℕ) (r : Answer) (n : ℕ) → r.number ≡ n → (cond x (refused why d a) r).number ≡ cond x (errno_of why) n
after_check true why d a r n e = refl
after_check false why d a r n e = e

services_check : (x : Bool) (why : Refusal) (d : State) (a : List ℕ) (r : ServicesAnswer) (n : ℕ) → r.number ≡ n
    → (by_services d (cond x (services_answer (errno_of why) d.services a) r)).number ≡ cond x (errno_of why) n
services_check true why d a r n e = refl
services_check false why d a r n e = e

-- a call on the stream that the argument names: a type that is none is refused
type_number : (at : ℕ) (d : State) (a : List ℕ) (pictures captions : Answer) (n : Kind → ℕ) → pictures.number ≡ n Kind.pictures → captions.number ≡ n Kind.captions
    → (by_type at d a pictures captions).number ≡ cond (no_stream (word_at a at)) 22 (n (kind_of (word_at a at)))
type_number at d a pictures captions n e f = go (eqb (word_at a at) 1) refl (eqb (word_at a at) 6) refl
  where
    go : (x : Bool) → eqb (word_at a at) 1 ≡ x → (y : Bool) → eqb (word_at a at) 6 ≡ y
        → (cond x pictures (cond y captions (refused WrongType d a))).number ≡ cond (not x && not y) 22 (n (cond y Kind.captions Kind.pictures))
    go true p true q = absurd (omega (arith, eqb-true (word_at a at) 1 p, eqb-true (word_at a at) 6 q))
    go true p false q = e
    go false p true q = f
    go false p false q = refl

-- a call that both streams have
stream_number : (f : Stream → ℕ → ℕ → List ℕ → StreamAnswer) (at : ℕ) (d : State) (a : List ℕ) (n : Stream → ℕ) → ((t : Stream) (kind size : ℕ) → (f t kind size a).number ≡ n t)
    → (stream_call f at d a).number ≡ cond (no_stream (word_at a at)) 22 (n (stream_at d a at))
stream_number f at d a n e = type_number at d a _ _ (λ k. n (stream_of k d)) (e d.video 1 d.size) (e d.captions 6 _)

-- a reading and a setting by their tests
read_by : (x : Bool) (why : Refusal) (r : Result ℕ Refusal) (id : ℕ) (d : State) (a : List ℕ) (n : ℕ) → (read_as r id d a).number ≡ n
    → (read_as (cond x (Err why) r) id d a).number ≡ cond x (errno_of why) n
read_by true why r id d a n e = refl
read_by false why r id d a n e = e

set_by : (x : Bool) (why : Refusal) (r : Result Setting Refusal) (id : ℕ) (d : State) (a : List ℕ) (n : ℕ) → (set_as r id d a).number ≡ n
    → (set_as (cond x (Err why) r) id d a).number ≡ cond x (errno_of why) n
set_by true why r id d a n e = refl
set_by false why r id d a n e = e

-- a value out of range, unless the control is a button
range_number : (c : Control) (k v id : ℕ) (d : State) (a : List ℕ)
    → (set_as (cond (eqb c.kind 4) (Ok settings.Pressed) (ranged_at c.limits k v)) id d a).number ≡ cond (out_of_range c v) 34 0
unfolding ranged_at
range_number c k v id d a = go (eqb c.kind 4) (lt_z (signed v) c.limits.minimum) (lt_z c.limits.maximum (signed v))
  where
    go : (x y z : Bool)
        → (set_as (cond x (Ok settings.Pressed) (cond y (Err OutOfRange) (cond z (Err OutOfRange) (Ok (settings.Stored k (bits (nearest_value c.limits (signed v)))))))) id d a).number
        ≡ cond (not x && (y || z)) 34 0
    go true y z = refl
    go false true z = refl
    go false false true = refl
    go false false false = refl

module _ (s : List ℕ) (d : State) (a : List ℕ) where
  call_number : (call : Call) → (call_answer call s d a).number ≡ first_number (checks call s d a)
  unfolding querycap_of enum_fmt_of g_fmt_of s_fmt_of try_fmt_of cropcap_of g_crop_of s_crop_of queryctrl_of g_ctrl_of s_ctrl_of g_services_of s_services_of try_services_of services_capability_of reading reading_at setting_of setting_at
  call_number Unknown = refl
  call_number Querycap = refl
  call_number EnumFmt = after_check (not (eqb (word_at a 4) 1)) WrongType d a _ _ (after_check (leb (format_count s) (word_at a 0)) NoSuchIndex d a _ 0 refl)
  call_number GFmt = type_number 0 d a _ _ (λ k. 0) refl refl
  call_number SFmt =
      type_number 0 d a _ _ (λ k. cond (not (eqb (stream_of k d).queues.granted 0)) 16 0)
      (after_check (not (eqb d.video.queues.granted 0)) BuffersExist d a _ 0 refl)
      (services_check (not (eqb d.captions.queues.granted 0)) BuffersExist d a _ 0 refl)
  call_number TryFmt = type_number 0 d a _ _ (λ k. 0) refl refl
  call_number Reqbufs =
      stream_number reqbufs_of 4 d a (λ t. cond (not (eqb (word_at a 8) 1)) 22 (cond (any_mapped t.maps) 16 (cond (streaming t && not (eqb (word_at a 0) 0)) 16 0))) (λ t kind size. reqbufs_number t kind size a)
  call_number Querybuf = stream_number querybuf_of 4 d a (λ t. cond (leb t.queues.granted (word_at a 0)) 22 0) (λ t kind size. querybuf_number t kind size a)
  call_number Qbuf =
      stream_number qbuf_of 4 d a
      (λ t. cond (not (eqb (word_at a 48) 1)) 22 (cond (leb t.queues.granted (word_at a 0)) 22 (cond (is_incoming t.queues (word_at a 0) || is_outgoing t.queues (word_at a 0)) 22 0)))
      (λ t kind size. qbuf_number t kind size a)
  call_number Dqbuf =
      stream_number dqbuf_of 4 d a
      (λ t. cond (not (eqb (word_at a 48) 1)) 22 (cond (eqb t.queues.granted 0) 22 (cond (not (streaming t)) 22 (cond (eqb (length t.queues.outgoing) 0) 11 0))))
      (λ t kind size. dqbuf_number t kind size a)
  call_number Streamon = stream_number streamon_of 0 d a (λ t. cond (eqb t.queues.granted 0) 22 0) (λ t kind size. streamon_number t kind size a)
  call_number Streamoff = stream_number streamoff_of 0 d a (λ t. 0) (λ t kind size. streamoff_number t kind size a)
  call_number GCtrl =
      read_by (leb (present s) (place_of s (word_at a 0))) NoSuchControl _ (word_at a 0) d a _
      (read_by (eqb ((named s a).flags % 2) 1) ControlDisabled _ (word_at a 0) d a _ (read_by (eqb (named s a).kind 4) ControlIsButton _ (word_at a 0) d a 0 refl))
  call_number SCtrl =
      set_by (leb (present s) (place_of s (word_at a 0))) NoSuchControl _ (word_at a 0) d a _
      (set_by (eqb ((named s a).flags % 2) 1) ControlDisabled _ (word_at a 0) d a _
      (set_by (eqb ((named s a).flags / 4 % 2) 1) ControlReadOnly _ (word_at a 0) d a _
      (set_by (eqb ((named s a).flags / 2 % 2) 1) ControlGrabbed _ (word_at a 0) d a _
      (range_number (named s a) (place_of s (word_at a 0)) (word_at a 4) (word_at a 0) d a))))
  call_number Queryctrl = after_check (leb (present s) (queried_place s (word_at a 0))) NoSuchControl d a _ 0 refl
  call_number Cropcap = after_check (not (eqb (word_at a 0) 1)) WrongType d a _ 0 refl
  call_number GCrop = after_check (not (eqb (word_at a 0) 1)) WrongType d a _ 0 refl
  call_number SCrop = after_check (not (eqb (word_at a 0) 1)) WrongType d a _ 0 refl
  call_number GSlicedVbiCap = services_check (not (eqb (word_at a 100) 6)) WrongType d a _ 0 refl

  -- every word
  pub request_table : (w : ℕ) → (request_answer s d w a).number ≡ first_number (request_checks s d w a)
  unfolding request_answer
  request_table w =
      after_check (eqb d.ready 0) Closed d a _ _
      (after_check (eqb (request_of w).size 0) UnknownWord d a _ _
      (after_check (not (eqb (length a) (request_of w).size)) ArgumentLength d a _ _ (call_number (request_of w).call)))
