-- Every call on an open device is a call on a stream of it, or leaves that stream alone.
use mathlib.Core.Path.{◌≡◌, refl, sym, ap, ap₂, ◌∙◌, subst}
use mathlib.Core.Bool.{Bool, true, false, cond, not, ◌&&◌, true≢false}
use Prim.Native.Nat.{ℕ, ◌^◌, ◌≤◌, ◌<◌}
use native.Mathlib.Omega.{arith}
use borrow.Author.Tests.{eqb-true, ne_eqb}
use lib.Dec.{leb, eqb}
use lib.Signed.{mag}
use mathlib.Core.List.{List}
use lib.ListN.{length}
use lib.Seq.{sets}
use Rattle.wire_read.specs.Words.{word_at}
use Rattle.wire_read.proofs.Stores.{sets_all}
use Rattle.ioctl_table.specs.Refusal.{errno_of}
use Rattle.ioctl_table.specs.Table.{argument_size, request_of}
use Rattle.ioctl_table.specs.declared.refusals.Refusal.{Refusal}
use Rattle.ioctl_table.specs.declared.refusals.Refusal.TheVariants.{Streaming as busy, NoBuffers, NotStreaming, StillMapped, NoSuchIndex, NoSuchControl, BuffersExist, Closed, UnknownWord, ArgumentLength, WrongType, WrongMemory}
use Rattle.ioctl_table.specs.declared.table.Call.{Call as Asked}
use Rattle.ioctl_table.specs.declared.table.Call.TheVariants.{Unknown, Querycap, EnumFmt, GFmt, SFmt, TryFmt, Reqbufs, Querybuf, Qbuf, Dqbuf, Streamon, Streamoff, GCtrl, SCtrl, Queryctrl, Cropcap, GCrop, SCrop, GSlicedVbiCap}
use Rattle.ioctl_table.proofs.Numbers.{errno_positive}
use Rattle.sheet_geometry.specs.Geometry.{line_alignment}
use Rattle.format_rules.specs.declared.Format.{Format}
use Rattle.format_rules.specs.Size.{bytes_per_line, image_size}
use Rattle.format_rules.proofs.Bounds.{image_fits}
use Rattle.negotiation_rules.specs.Negotiation.{negotiated, asked_format}
use Rattle.negotiation_rules.specs.Answer.{picture_words}
use Rattle.negotiation_rules.proofs.Reply.{reply_length, reply_word}
use Rattle.stream_words.specs.declared.Time.{Time}
use Rattle.stream_words.specs.declared.Filled.{Filled}
use Rattle.stream_maps.specs.Maps.{any_mapped}
use Rattle.stream_run.specs.Replies.{Reply as StreamReply}
use Rattle.stream_run.specs.Switches.{Step}
use Rattle.stream_words.specs.Stream.{Stream}
use Rattle.stream_run.specs.Stream.{reduced, streaming, stopped}
use Rattle.stream_run.specs.Switches.{answers, refuses, grant_of, request_buffers_of as bufferRequest, start_of, stop_of}
use Rattle.std.specs.Prelude.{Option, Some, None, Result, Ok, Err}
use Rattle.stream_words.specs.Moves.{oldest_of}
use Rattle.stream_queue.specs.Queueing.{enqueue_of, handed_over, dequeue_of}
use Rattle.stream_run.specs.Numbers.{reply_number}
use Rattle.stream_run.proofs.Grants.{grant_few}
use Rattle.stream_status.specs.declared.Status.{Status}
use Rattle.stream_status.specs.Buffer.{query_of, returned_of}
use Rattle.sheet_contents.specs.Contents.{format_count}
use Rattle.control_place_rules.specs.Find.{present, queried_place}
use Rattle.control_value_rules.specs.Values.{reading, setting_of}
use Rattle.std.specs.Prelude.{Result, Ok, Err}
use Rattle.control_value_rules.specs.declared.Setting.{Setting}
use Rattle.control_value_rules.specs.declared.Setting.TheVariants as settings
use Rattle.buffer_replies.specs.Replies.{buffers_reply, buffer_reply}
use Rattle.buffer_replies.proofs.Lengths.{buffers_length, buffer_length, buffers_count}
use Rattle.device_state.specs.State.{State, with_format, with_values, with_crop}
use Rattle.device_state.specs.Answers.{Answer, answer, done, refused, by_type}
use Rattle.format_calls.specs.Formats.{querycap_of, enum_fmt_of, g_fmt_of}
use Rattle.negotiation_calls.specs.Negotiations.{told_format, s_fmt_of, try_fmt_of}
use Rattle.crop_calls.specs.Crops.{cropcap_of, g_crop_of, s_crop_of}
use Rattle.control_calls.specs.Controls.{g_ctrl_of, s_ctrl_of, read_as, set_as}
use Rattle.control_query_calls.specs.Query.{queryctrl_of}
use Rattle.buffer_calls.specs.Buffers.{StreamAnswer, stream_answer, stepped, request_reply, queried_as, reqbufs_of, querybuf_of}
use Rattle.queue_calls.specs.Queues.{qbuf_of}
use Rattle.dequeue_calls.specs.Dequeues.{dequeue_reply, dqbuf_of}
use Rattle.run_calls.specs.Runs.{streamon_of, streamoff_of}
use Rattle.device_opening.specs.Opening.{longest_memory}
use Rattle.service_rules.specs.Negotiation.{io_size}
use Rattle.sheet_geometry.specs.declared.Rect.{Rect}
use Rattle.service_replies.specs.Services.{asked_services, services_reply, services_capability_reply}
use Rattle.service_replies.proofs.Reply.{services_length, told_lines, told_size, asked_length, asked_fit}
use Rattle.service_calls.specs.Services.{g_services_of, s_services_of, try_services_of, services_capability_of}
use Rattle.request_topics.specs.Request.{by_video, by_captions, by_services, stream_call, call_answer, request_answer}
use Rattle.stream_history.specs.Calls.{Call as StreamCall, World, size_reply}
use Rattle.stream_history.specs.Calls.Call.{request as asks-for, enqueue as hands_in, dequeue as takes_out, start as starts, stop as stops, resize as resizes}
use Rattle.stream_history.specs.Calls.Answer.{replied}
use Rattle.stream_history.specs.Paper.{Paper, Event, refused_reply, grant_in, replied_told, step}
use Rattle.stream_history.specs.Paper.Event.{put, whole, damaged, handed, begun, ended, sized, changed, idle}
use Rattle.stream_history.proofs.Lists.{All}
use Rattle.stream_history.proofs.Sound.{Fits}
use Rattle.stream_history.proofs.Tied.{Tied, Answers, Follows, placed_as, first_of, follows}
use Rattle.stream_history.proofs.Every.{Kept}
use Rattle.claims.specs.Calls.Reply.{answered, taken}
use Rattle.claims.specs.Calls.{Kind, type_of, Reply}
use Rattle.claims.specs.Device.{stream_of}
use Rattle.claims.proofs.Boxes.{Box}
use Rattle.claims.specs.Words.{type_at, request_told, told_by}
use Rattle.claims.proofs.Checks.{size_of}

-- a stream of a device, the size of its frames and its memory
abbrev pub view : Kind → Box → World
view k b = record { stream = stream_of k b.state; size = size_of k b.state; memory = b.memory k }

-- what the device answers when the stream does
abbrev pub by_kind : Kind → State → StreamAnswer → Answer
by_kind Kind.pictures d r = by_video d r
by_kind Kind.captions d r = by_captions d r

-- a time of 32 bits with a sign
abbrev pub Timed : Time → Type 0
Timed t = (mag t.seconds < 2 ^ 31) × (mag t.microseconds < 2 ^ 31)

-- line and image size are those of the format
abbrev pub Sized : List ℕ → State → Type 0
Sized s d = (d.line ≡ bytes_per_line d.format (line_alignment s)) × (d.size ≡ image_size d.format (line_alignment s))

-- an open device, a stream of which is as its paper says
pub record Safe (k : Kind) (b : Box) (p : Paper) : Type 0 where
  pub ready : eqb b.state.ready 0 ≡ false
  pub kept : Kept (view k b) p
  pub short : length (b.memory k) ≤ longest_memory
  pub timed : All (λ x. Timed x.frame.time) p.outgoing
  pub sized : Sized b.sheet b.state

-- the reply that the paper foretells
abbrev pub Foretold : Kind → Paper → Event → Reply → Type 0
Foretold k p (put i) r = Unit {0}
Foretold k p (whole b t) r = r ≡ taken (placed_as p.incoming (reduced p.run.accepted))
Foretold k p damaged r = Unit {0}
Foretold k p handed r = r ≡ answered 0 (buffer_reply (type_of k) (returned_of p.maps (first_of p.outgoing) p.size))
Foretold k p begun r = Unit {0}
Foretold k p (ended n) r = Unit {0}
Foretold k p (sized n) r = Unit {0}
Foretold k p (changed c j) r = Unit {0}
Foretold k p idle r = Unit {0}

-- an arrival has a time of 32 bits
abbrev pub Timely : Event → Type 0
Timely (put i) = Unit {0}
Timely (whole b t) = Timed t
Timely damaged = Unit {0}
Timely handed = Unit {0}
Timely begun = Unit {0}
Timely (ended n) = Unit {0}
Timely (sized n) = Unit {0}
Timely (changed c j) = Unit {0}
Timely idle = Unit {0}

-- the box after a request
abbrev pub box_with : Box → State → Box
box_with b d = record { sheet = b.sheet; state = d; memory = b.memory }

-- What a request does that gives back r.
pub record Does (k : Kind) (b : Box) (p : Paper) (call : Asked) (a : List ℕ) (r : Answer) : Type 0 where
  pub event : Event
  pub tells : cond (eqb r.number 0) (told_by k p call a r.argument) idle ≡ event
  pub fits : Fits p event
  pub foretold : Foretold k p event (answered r.number r.argument)
  pub timely : Timely event
  pub ready : eqb r.state.ready 0 ≡ false
  pub sized : Sized b.sheet r.state
  pub tied : Tied (view k (box_with b r.state)) (step p event)

-- a refusal has a number, and nothing else has
refused_number : (y : StreamReply) → refused_reply y ≡ true → eqb (reply_number y) 0 ≡ false
refused_number StreamReply.Done h = absurd (true≢false (sym h))
refused_number (StreamReply.Granted n) h = absurd (true≢false (sym h))
refused_number (StreamReply.Returned g) h = absurd (true≢false (sym h))
refused_number (StreamReply.Refused why) h = ne_eqb (errno_of why) 0 (λ e. omega (arith, errno_positive why, e))

accepted_number : (y : StreamReply) → refused_reply y ≡ false → reply_number y ≡ 0
accepted_number StreamReply.Done h = refl
accepted_number (StreamReply.Granted n) h = refl
accepted_number (StreamReply.Returned g) h = refl
accepted_number (StreamReply.Refused why) h = absurd (true≢false h)

-- a test that fails has nothing behind it
pub never_told : (x : Bool) (v : Event) → cond x (cond false v idle) idle ≡ idle
never_told true v = refl
never_told false v = refl

-- a buffer that is handed over leaves the map counts as they were
dequeue_maps : (s : Stream) → (dequeue_of s).stream.maps ≡ s.maps
unfolding dequeue_of
dequeue_maps s = by (eqb s.queues.granted 0) (not (streaming s)) (oldest_of s.queues.outgoing)
  where
    by : (x y : Bool) (o : Option Filled) → (cond x (refuses NoBuffers s) (cond y (refuses NotStreaming s) (handed_over o s))).stream.maps ≡ s.maps
    by true y o = refl
    by false true o = refl
    by false false None = refl
    by false false (Some f) = refl

-- what a stream's answer makes of the device
module _ (b : Box) (r : StreamAnswer) where
  pub kind_view : (k : Kind) → view k (box_with b (by_kind k b.state r).state) ≡ record { stream = r.stream; size = size_of k b.state; memory = b.memory k }
  kind_view Kind.pictures = refl
  kind_view Kind.captions = refl

  kind_ready : (k : Kind) → (by_kind k b.state r).state.ready ≡ b.state.ready
  kind_ready Kind.pictures = refl
  kind_ready Kind.captions = refl

  kind_sized : (k : Kind) → Sized b.sheet b.state → Sized b.sheet (by_kind k b.state r).state
  kind_sized Kind.pictures z = z
  kind_sized Kind.captions z = z

  pub kind_number : (k : Kind) → (by_kind k b.state r).number ≡ r.number
  kind_number Kind.pictures = refl
  kind_number Kind.captions = refl

  pub kind_argument : (k : Kind) → (by_kind k b.state r).argument ≡ r.argument
  kind_argument Kind.pictures = refl
  kind_argument Kind.captions = refl

module _ (k : Kind) (b : Box) (p : Paper) (call : Asked) (a : List ℕ) (safe : Safe k b p) where
  -- a request that leaves the stream and the size of its frames alone
  quiet : (r : Answer) → eqb r.state.ready 0 ≡ false → Sized b.sheet r.state → view k (box_with b r.state) ≡ view k b
      → cond (eqb r.number 0) (told_by k p call a r.argument) idle ≡ idle → Does k b p call a r
  quiet r e z v t = record { event = idle; tells = t; fits = tt; foretold = tt; timely = tt; ready = e; sized = z; tied = subst (λ (w : World). Tied w p) (sym v) safe.kept.tied }

  -- one that names another stream
  foreign : (r : Answer) → eqb (word_at a (type_at call)) (type_of k) ≡ false → eqb r.state.ready 0 ≡ false → Sized b.sheet r.state → view k (box_with b r.state) ≡ view k b → Does k b p call a r
  foreign r n e z v = quiet r e z v (ap (λ (x : Bool). cond (eqb r.number 0) (cond x (request_told k p call a r.argument) idle) idle) n ∙ never_told (eqb r.number 0) (request_told k p call a r.argument))

  -- a refusal with a number
  refuses_with : (n : ℕ) → eqb n 0 ≡ false → Does k b p call a (answer n b.state a)
  refuses_with n e = quiet (answer n b.state a) safe.ready safe.sized refl (ap (λ (x : Bool). cond x (told_by k p call a a) idle) e)

  refuses_for : (why : Refusal) → Does k b p call a (refused why b.state a)
  refuses_for why = refuses_with (errno_of why) (ne_eqb (errno_of why) 0 (λ e. omega (arith, errno_positive why, e)))

  -- a check before the rest
  checked : (x : Bool) (why : Refusal) (r : Answer) → Does k b p call a r → Does k b p call a (cond x (refused why b.state a) r)
  checked true why r d = refuses_for why
  checked false why r d = d

  -- by the type that it names
  by_type_law : (x y : Answer) → (eqb (word_at a (type_at call)) 1 ≡ true → Does k b p call a x) → (eqb (word_at a (type_at call)) 6 ≡ true → Does k b p call a y)
      → Does k b p call a (by_type (type_at call) b.state a x y)
  by_type_law x y f g = go (eqb (word_at a (type_at call)) 1) refl (eqb (word_at a (type_at call)) 6) refl
    where
      go : (u : Bool) → eqb (word_at a (type_at call)) 1 ≡ u → (v : Bool) → eqb (word_at a (type_at call)) 6 ≡ v → Does k b p call a (cond u x (cond v y (refused WrongType b.state a)))
      go true d v e = f d
      go false d true e = g e
      go false d false e = refuses_for WrongType

  -- a call on the stream, with this argument after it
  stepping : eqb (word_at a (type_at call)) (type_of k) ≡ true
      → (c : StreamCall) (r : Step) (after : List ℕ) → Follows (record { stream = r.stream; size = size_of k b.state; memory = b.memory k }) p c (replied r.reply)
      → (refused_reply r.reply ≡ false → request_told k p call a after ≡ replied_told p c r.reply)
      → Timely (replied_told p c r.reply)
      → (refused_reply r.reply ≡ false → Answers p (replied_told p c r.reply) (replied r.reply) → Foretold k p (replied_told p c r.reply) (answered 0 after))
      → Does k b p call a (by_kind k b.state (stepped r after))
  stepping named c r after f same timely foretold = go (refused_reply r.reply) refl
    where
      w : World
      w = record { stream = r.stream; size = size_of k b.state; memory = b.memory k }

      number_is : (by_kind k b.state (stepped r after)).number ≡ reply_number r.reply
      number_is = kind_number b (stepped r after) k

      argument_is : (by_kind k b.state (stepped r after)).argument ≡ after
      argument_is = kind_argument b (stepped r after) k

      ready : eqb (by_kind k b.state (stepped r after)).state.ready 0 ≡ false
      ready = ap (λ (n : ℕ). eqb n 0) (kind_ready b (stepped r after) k) ∙ safe.ready

      tied_as : (v : Event) → Tied w (step p v) → Tied (view k (box_with b (by_kind k b.state (stepped r after)).state)) (step p v)
      tied_as v t = subst (λ (x : World). Tied x (step p v)) (sym (kind_view b (stepped r after) k)) t

      told_as : (x : Bool) → refused_reply r.reply ≡ x → f.event ≡ cond x idle (replied_told p c r.reply)
      told_as x e = sym f.tells ∙ ap (λ (y : Bool). cond y idle (replied_told p c r.reply)) e

      go : (x : Bool) → refused_reply r.reply ≡ x → Does k b p call a (by_kind k b.state (stepped r after))
      go true e = record {
        event = idle;
        tells = ap (λ (n : ℕ). cond (eqb n 0) (told_by k p call a (by_kind k b.state (stepped r after)).argument) idle) number_is
            ∙ ap (λ (y : Bool). cond y (told_by k p call a (by_kind k b.state (stepped r after)).argument) idle) (refused_number r.reply e);
        fits = tt;
        foretold = tt;
        timely = tt;
        ready = ready;
        sized = kind_sized b (stepped r after) k safe.sized;
        tied = tied_as idle (subst (λ (v : Event). Tied w (step p v)) (told_as true e) f.tied);
      }
      go false e =
          let is : f.event ≡ replied_told p c r.reply = told_as false e in
          let zero : (by_kind k b.state (stepped r after)).number ≡ 0 = number_is ∙ accepted_number r.reply e in
          record {
            event = replied_told p c r.reply;
            tells = ap (λ (n : ℕ). cond (eqb n 0) (told_by k p call a (by_kind k b.state (stepped r after)).argument) idle) zero
                ∙ ap (told_by k p call a) argument_is
                ∙ ap (λ (y : Bool). cond y (request_told k p call a after) idle) named
                ∙ same e;
            fits = subst (Fits p) is f.fits;
            foretold = subst (λ (n : ℕ). Foretold k p (replied_told p c r.reply) (answered n (by_kind k b.state (stepped r after)).argument)) (sym zero)
                (subst (λ (l : List ℕ). Foretold k p (replied_told p c r.reply) (answered 0 l)) (sym argument_is)
                (foretold e (subst (λ (v : Event). Answers p v (replied r.reply)) is f.foretold)));
            timely = timely;
            ready = ready;
            sized = kind_sized b (stepped r after) k safe.sized;
            tied = tied_as (replied_told p c r.reply) (subst (λ (v : Event). Tied w (step p v)) is f.tied);
          }

-- what a type is, it is not another
pub one_not_six : (w : ℕ) → eqb w 1 ≡ true → eqb w 6 ≡ false
one_not_six w e = ap (λ (n : ℕ). eqb n 6) (eqb-true w 1 e)

pub six_not_one : (w : ℕ) → eqb w 6 ≡ true → eqb w 1 ≡ false
six_not_one w e = ap (λ (n : ℕ). eqb n 1) (eqb-true w 6 e)

-- a call on a stream: the one that it names answers
on_stream : (k : Kind) (b : Box) (p : Paper) (call : Asked) (a : List ℕ) (safe : Safe k b p) (f : Stream → ℕ → ℕ → List ℕ → StreamAnswer)
    → (eqb (word_at a (type_at call)) (type_of k) ≡ true → Does k b p call a (by_kind k b.state (f (stream_of k b.state) (type_of k) (size_of k b.state) a)))
    → Does k b p call a (stream_call f (type_at call) b.state a)
on_stream Kind.pictures b p call a safe f own =
    by_type_law Kind.pictures b p call a safe _ _ own
    (λ e. foreign Kind.pictures b p call a safe _ (six_not_one (word_at a (type_at call)) e) safe.ready safe.sized refl)
on_stream Kind.captions b p call a safe f own =
    by_type_law Kind.captions b p call a safe _ _
    (λ e. foreign Kind.captions b p call a safe _ (one_not_six (word_at a (type_at call)) e) safe.ready safe.sized refl) own

-- ---- each call

-- the argument of a call has the length of its reply, so the reply is all of it
pub whole_reply : (a v : List ℕ) (n : ℕ) → length a ≡ n → length v ≡ n → sets a 0 v ≡ v
whole_reply a v n e f = sets_all v a (e ∙ sym f)

-- the count that REQBUFS answers is the one that the stream granted
pub told_count : (s : Stream) (n kind size : ℕ) (a : List ℕ) → length a ≡ 20 → refused_reply (bufferRequest s n size).reply ≡ false
    → word_at (request_reply (bufferRequest s n size).reply kind a) 0 ≡ grant_in (bufferRequest s n size).reply
unfolding bufferRequest
told_count s n kind size a l = go (any_mapped s.maps) (streaming s && not (eqb n 0))
  where
    g : ℕ
    g = grant_of s.length n size

    r : Bool → Bool → Step
    r x y = cond x (refuses StillMapped s) (cond y (refuses busy s) (answers (StreamReply.Granted (grant_of s.length n size)) (stopped s (grant_of s.length n size))))

    go : (x y : Bool) → refused_reply (r x y).reply ≡ false → word_at (request_reply (r x y).reply kind a) 0 ≡ grant_in (r x y).reply
    go true y h = absurd (true≢false h)
    go false true h = absurd (true≢false h)
    go false false h =
        ap (λ (v : List ℕ). word_at v 0) (whole_reply a (buffers_reply kind g) 20 l (buffers_length kind g))
        ∙ buffers_count kind g (omega (arith, grant_few s.length n size))

-- the image size that S_FMT answers is that of the format set
told_image : (s : List ℕ) (f : Format) (a : List ℕ) → length a ≡ 204 → word_at (sets a 0 (told_format s f)) 24 ≡ image_size f (line_alignment s)
unfolding picture_words
told_image s f a l =
    let line : ℕ = bytes_per_line f (line_alignment s) in
    let size : ℕ = image_size f (line_alignment s) in
    ap (λ (v : List ℕ). word_at v 24) (whole_reply a (told_format s f) 204 l (reply_length 1 f line size))
    ∙ reply_word 1 f line size 6 (omega arith) (omega (arith, image_fits f (line_alignment s)))

-- the io size that it answers is that of the services set
told_io : (a : List ℕ) → length a ≡ 204 → word_at (sets a 0 (services_reply 6 (asked_services a))) 104 ≡ io_size (asked_services a)
told_io a l =
    ap (λ (v : List ℕ). word_at v 104) (whole_reply a (services_reply 6 (asked_services a)) 204 l (services_length 6 (asked_services a)))
    ∙ told_size 6 (asked_services a) (asked_length a) (asked_fit a)
    ∙ ap io_size (told_lines 6 (asked_services a) (asked_length a) (asked_fit a))

module _ (k : Kind) (b : Box) (p : Paper) (a : List ℕ) (safe : Safe k b p) where
  abbrev own : ℕ → Type 0
  own at = eqb (word_at a at) (type_of k) ≡ true

  -- a memory other than 1 is refused by the stream's call
  remembers : (call : Asked) (x : Bool) (r : StreamAnswer) → Does k b p call a (by_kind k b.state r)
      → Does k b p call a (by_kind k b.state (cond x (stream_answer (errno_of WrongMemory) (stream_of k b.state) a) r))
  remembers call false r d = d
  remembers call true r d = go k safe
    where
      go : (j : Kind) → Safe j b p → Does j b p call a (by_kind j b.state (stream_answer (errno_of WrongMemory) (stream_of j b.state) a))
      go Kind.pictures z = refuses_for Kind.pictures b p call a z WrongMemory
      go Kind.captions z = refuses_for Kind.captions b p call a z WrongMemory

  does_reqbufs : length a ≡ 20 → own 4 → Does k b p Reqbufs a (by_kind k b.state (reqbufs_of (stream_of k b.state) (type_of k) (size_of k b.state) a))
  unfolding reqbufs_of
  does_reqbufs l n = remembers Reqbufs (not (eqb (word_at a 8) 1)) _
      (stepping k b p Reqbufs a safe n (asks-for (word_at a 0)) (bufferRequest (stream_of k b.state) (word_at a 0) (size_of k b.state)) _
      (follows (view k b) p (asks-for (word_at a 0)) safe.kept.tied safe.kept.sound)
      (λ ok. ap ended (told_count (stream_of k b.state) (word_at a 0) (type_of k) (size_of k b.state) a l ok)) tt (λ ok f. tt))

  does_qbuf : own 4 → Does k b p Qbuf a (by_kind k b.state (qbuf_of (stream_of k b.state) (type_of k) (size_of k b.state) a))
  unfolding qbuf_of
  does_qbuf n = remembers Qbuf (not (eqb (word_at a 48) 1)) _
      (stepping k b p Qbuf a safe n (hands_in (word_at a 0)) (enqueue_of (stream_of k b.state) (word_at a 0)) _
      (follows (view k b) p (hands_in (word_at a 0)) safe.kept.tied safe.kept.sound) (λ ok. refl) tt (λ ok f. tt))

  -- the buffer that DQBUF answers is the first outgoing one
  told_buffer : length a ≡ 68 → (r : StreamReply) (x : Stream) → x.maps ≡ p.maps → replied r ≡ replied (StreamReply.Returned (first_of p.outgoing))
      → answered 0 (dequeue_reply r x (type_of k) (size_of k b.state) a) ≡ answered 0 (buffer_reply (type_of k) (returned_of p.maps (first_of p.outgoing) p.size))
  told_buffer l r x m e =
      let size : ℕ = size_of k b.state in
      let f : Filled = first_of p.outgoing in
      let same : r ≡ StreamReply.Returned f = cc e in
      ap (λ (z : StreamReply). answered 0 (dequeue_reply z x (type_of k) size a)) same
      ∙ ap (answered 0) (whole_reply a (buffer_reply (type_of k) (returned_of x.maps f size)) 68 l (buffer_length (type_of k) (returned_of x.maps f size)))
      ∙ ap₂ (λ (v : List ℕ) (n : ℕ). answered 0 (buffer_reply (type_of k) (returned_of v f n))) m safe.kept.tied.size

  does_dqbuf : length a ≡ 68 → own 4 → Does k b p Dqbuf a (by_kind k b.state (dqbuf_of (stream_of k b.state) (type_of k) (size_of k b.state) a))
  unfolding dqbuf_of
  does_dqbuf l n = remembers Dqbuf (not (eqb (word_at a 48) 1)) _
      (stepping k b p Dqbuf a safe n takes_out (dequeue_of (stream_of k b.state)) _
      (follows (view k b) p takes_out safe.kept.tied safe.kept.sound) (λ ok. refl) tt (λ ok f. told_buffer l _ _ (dequeue_maps (stream_of k b.state) ∙ safe.kept.tied.maps) f))

  does_streamon : own 0 → Does k b p Streamon a (by_kind k b.state (streamon_of (stream_of k b.state) (type_of k) (size_of k b.state) a))
  unfolding streamon_of
  does_streamon n =
      stepping k b p Streamon a safe n starts (start_of (stream_of k b.state)) a
      (follows (view k b) p starts safe.kept.tied safe.kept.sound) (λ ok. refl)
      (elim p.running as (λ x. Timely (cond x idle begun)) [ true ↦ tt | false ↦ tt ])
      (λ ok f. elim p.running as (λ x. Foretold k p (cond x idle begun) (answered 0 a)) [ true ↦ tt | false ↦ tt ])

  does_streamoff : own 0 → Does k b p Streamoff a (by_kind k b.state (streamoff_of (stream_of k b.state) (type_of k) (size_of k b.state) a))
  unfolding streamoff_of stop_of
  does_streamoff n =
      stepping k b p Streamoff a safe n stops (stop_of (stream_of k b.state)) a
      (follows (view k b) p stops safe.kept.tied safe.kept.sound) (λ ok. refl) tt (λ ok f. tt)

  -- a frame size that changes while no buffer exists
  module _ (n : ℕ) where
    resized : Follows (record { stream = stream_of k b.state; size = cond (eqb (stream_of k b.state).queues.granted 0) n (size_of k b.state); memory = b.memory k }) p (resizes n) (replied (size_reply (stream_of k b.state).queues.granted))
    resized = follows (view k b) p (resizes n) safe.kept.tied safe.kept.sound

    sizing : eqb (word_at a 0) (type_of k) ≡ true → eqb (stream_of k b.state).queues.granted 0 ≡ true → (d : State) (after : List ℕ) → request_told k p SFmt a after ≡ sized n → eqb d.ready 0 ≡ false → Sized b.sheet d
        → view k (box_with b d) ≡ record { stream = stream_of k b.state; size = n; memory = b.memory k } → Does k b p SFmt a (done d after)
    sizing named e d after t r z v =
        let f : Follows (record { stream = stream_of k b.state; size = n; memory = b.memory k }) p (resizes n) (replied StreamReply.Done) =
        subst (λ (x : Bool). Follows (record { stream = stream_of k b.state; size = cond x n (size_of k b.state); memory = b.memory k }) p (resizes n) (replied (cond x StreamReply.Done (StreamReply.Refused BuffersExist)))) e resized in
        record {
          event = sized n;
          tells = ap (λ (x : Bool). cond x (request_told k p SFmt a after) idle) named ∙ t;
          fits = subst (Fits p) (sym f.tells) f.fits;
          foretold = tt;
          timely = tt;
          ready = r;
          sized = z;
          tied = subst (λ (w : World). Tied w (step p (sized n))) (sym v) (subst (λ (x : Event). Tied (record { stream = stream_of k b.state; size = n; memory = b.memory k }) (step p x)) (sym f.tells) f.tied);
        }

  -- the calls that leave the streams and the sizes alone
  still : (call : Asked) (d : State) (v : List ℕ) → eqb d.ready 0 ≡ false → Sized b.sheet d → view k (box_with b d) ≡ view k b
      → request_told k p call a v ≡ idle → Does k b p call a (done d v)
  still call d v e z s t = quiet k b p call a safe (done d v) e z s (go (eqb (word_at a (type_at call)) (type_of k)) t)
    where
      go : (x : Bool) → request_told k p call a v ≡ idle → cond x (request_told k p call a v) idle ≡ idle
      go true h = h
      go false h = refl

-- S_FMT
module _ (b : Box) (p : Paper) (a : List ℕ) where
  does_s_fmt : (k : Kind) → Safe k b p → length a ≡ 204 → Does k b p SFmt a (call_answer SFmt b.sheet b.state a)
  unfolding s_fmt_of s_services_of
  does_s_fmt Kind.pictures safe l =
      by_type_law Kind.pictures b p SFmt a safe _ _ (λ n. go n (eqb b.state.video.queues.granted 0) refl) (λ n. other n (eqb b.state.captions.queues.granted 0))
    where
      f : Format
      f = negotiated b.sheet (asked_format a)

      go : eqb (word_at a 0) 1 ≡ true → (x : Bool) → eqb b.state.video.queues.granted 0 ≡ x
          → Does Kind.pictures b p SFmt a (cond (not x) (refused BuffersExist b.state a) (done (with_format b.sheet b.state (negotiated b.sheet (asked_format a))) (sets a 0 (told_format b.sheet (negotiated b.sheet (asked_format a))))))
      go n false e = refuses_for Kind.pictures b p SFmt a safe BuffersExist
      go n true e =
          sizing Kind.pictures b p a safe (image_size (negotiated b.sheet (asked_format a)) (line_alignment b.sheet)) n e
          (with_format b.sheet b.state (negotiated b.sheet (asked_format a))) (sets a 0 (told_format b.sheet (negotiated b.sheet (asked_format a))))
          (ap sized (told_image b.sheet f a l)) safe.ready (refl, refl) refl

      other : eqb (word_at a 0) 6 ≡ true → (x : Bool)
          → Does Kind.pictures b p SFmt a (by_services b.state (cond (not x) (record { number = errno_of BuffersExist; lines = b.state.services; argument = a }) (record { number = 0; lines = asked_services a; argument = sets a 0 (services_reply 6 (asked_services a)) })))
      other n false = foreign Kind.pictures b p SFmt a safe _ (six_not_one (word_at a 0) n) safe.ready safe.sized refl
      other n true = foreign Kind.pictures b p SFmt a safe _ (six_not_one (word_at a 0) n) safe.ready safe.sized refl
  does_s_fmt Kind.captions safe l =
      by_type_law Kind.captions b p SFmt a safe _ _ (λ n. other n (eqb b.state.video.queues.granted 0)) (λ n. go n (eqb b.state.captions.queues.granted 0) refl)
    where
      go : eqb (word_at a 0) 6 ≡ true → (x : Bool) → eqb b.state.captions.queues.granted 0 ≡ x
          → Does Kind.captions b p SFmt a (by_services b.state (cond (not x) (record { number = errno_of BuffersExist; lines = b.state.services; argument = a }) (record { number = 0; lines = asked_services a; argument = sets a 0 (services_reply 6 (asked_services a)) })))
      go n false e = refuses_for Kind.captions b p SFmt a safe BuffersExist
      go n true e =
          sizing Kind.captions b p a safe (io_size (asked_services a)) n e _ (sets a 0 (services_reply 6 (asked_services a))) (ap sized (told_io a l)) safe.ready safe.sized refl

      other : eqb (word_at a 0) 1 ≡ true → (x : Bool)
          → Does Kind.captions b p SFmt a (cond (not x) (refused BuffersExist b.state a) (done (with_format b.sheet b.state (negotiated b.sheet (asked_format a))) (sets a 0 (told_format b.sheet (negotiated b.sheet (asked_format a))))))
      other n false = refuses_for Kind.captions b p SFmt a safe BuffersExist
      other n true = foreign Kind.captions b p SFmt a safe _ (one_not_six (word_at a 0) n) safe.ready (refl, refl) refl

module _ (k : Kind) (b : Box) (p : Paper) (a : List ℕ) (safe : Safe k b p) where
  -- one that leaves the state as it is
  same_state : (call : Asked) (v : List ℕ) → request_told k p call a v ≡ idle → Does k b p call a (done b.state v)
  same_state call v t = still k b p a safe call b.state v safe.ready safe.sized refl t

  does_queried : (x : Result Status Refusal) → Does k b p Querybuf a (by_kind k b.state (queried_as x (stream_of k b.state) (type_of k) a))
  does_queried x = go k safe x
    where
      go : (j : Kind) → Safe j b p → (x : Result Status Refusal) → Does j b p Querybuf a (by_kind j b.state (queried_as x (stream_of j b.state) (type_of j) a))
      go Kind.pictures z (Ok i) = still Kind.pictures b p a z Querybuf b.state _ z.ready z.sized refl refl
      go Kind.pictures z (Err why) = refuses_for Kind.pictures b p Querybuf a z why
      go Kind.captions z (Ok i) = still Kind.captions b p a z Querybuf b.state _ z.ready z.sized refl refl
      go Kind.captions z (Err why) = refuses_for Kind.captions b p Querybuf a z why

  does_read : (x : Result ℕ Refusal) (id : ℕ) → Does k b p GCtrl a (read_as x id b.state a)
  does_read (Ok v) id = same_state GCtrl _ refl
  does_read (Err why) id = refuses_for k b p GCtrl a safe why

  -- other values, or another crop, leave the streams and their sizes
  values_view : (j : Kind) (v : List ℕ) → view j (box_with b (with_values b.state v)) ≡ view j b
  values_view Kind.pictures v = refl
  values_view Kind.captions v = refl

  crop_view : (j : Kind) (r : Rect) → view j (box_with b (with_crop b.state r)) ≡ view j b
  crop_view Kind.pictures r = refl
  crop_view Kind.captions r = refl

  does_set : (x : Result Setting Refusal) (id : ℕ) → Does k b p SCtrl a (set_as x id b.state a)
  does_set (Ok (settings.Stored i v)) id = still k b p a safe SCtrl _ _ safe.ready safe.sized (values_view k _) refl
  does_set (Ok settings.Pressed) id = same_state SCtrl a refl
  does_set (Err why) id = refuses_for k b p SCtrl a safe why

  pub does_call : (call : Asked) → length a ≡ argument_size call → Does k b p call a (call_answer call b.sheet b.state a)
  unfolding querycap_of enum_fmt_of g_fmt_of try_fmt_of querybuf_of g_ctrl_of s_ctrl_of queryctrl_of cropcap_of g_crop_of s_crop_of g_services_of try_services_of services_capability_of
  does_call Unknown l = refuses_for k b p Unknown a safe UnknownWord
  does_call Querycap l = same_state Querycap _ refl
  does_call EnumFmt l =
      checked k b p EnumFmt a safe (not (eqb (word_at a 4) 1)) WrongType _
      (checked k b p EnumFmt a safe (leb (format_count b.sheet) (word_at a 0)) NoSuchIndex _ (same_state EnumFmt _ refl))
  does_call GFmt l = by_type_law k b p GFmt a safe _ _ (λ n. same_state GFmt _ refl) (λ n. same_state GFmt _ refl)
  does_call SFmt l = does_s_fmt b p a k safe l
  does_call TryFmt l = by_type_law k b p TryFmt a safe _ _ (λ n. same_state TryFmt _ refl) (λ n. same_state TryFmt _ refl)
  does_call Reqbufs l = on_stream k b p Reqbufs a safe reqbufs_of (does_reqbufs k b p a safe l)
  does_call Querybuf l = on_stream k b p Querybuf a safe querybuf_of (λ n. does_queried (query_of (stream_of k b.state) (word_at a 0) (size_of k b.state)))
  does_call Qbuf l = on_stream k b p Qbuf a safe qbuf_of (does_qbuf k b p a safe)
  does_call Dqbuf l = on_stream k b p Dqbuf a safe dqbuf_of (does_dqbuf k b p a safe l)
  does_call Streamon l = on_stream k b p Streamon a safe streamon_of (does_streamon k b p a safe)
  does_call Streamoff l = on_stream k b p Streamoff a safe streamoff_of (does_streamoff k b p a safe)
  does_call GCtrl l = does_read (reading b.sheet b.state.values (word_at a 0)) (word_at a 0)
  does_call SCtrl l = does_set (setting_of b.sheet (word_at a 0) (word_at a 4)) (word_at a 0)
  does_call Queryctrl l =
      checked k b p Queryctrl a safe (leb (present b.sheet) (queried_place b.sheet (word_at a 0))) NoSuchControl _ (same_state Queryctrl _ refl)
  does_call Cropcap l = checked k b p Cropcap a safe (not (eqb (word_at a 0) 1)) WrongType _ (same_state Cropcap _ refl)
  does_call GCrop l = checked k b p GCrop a safe (not (eqb (word_at a 0) 1)) WrongType _ (same_state GCrop _ refl)
  does_call SCrop l = checked k b p SCrop a safe (not (eqb (word_at a 0) 1)) WrongType _ (still k b p a safe SCrop _ _ safe.ready safe.sized (crop_view k _) refl)
  does_call GSlicedVbiCap l = go (not (eqb (word_at a 100) 6))
    where
      go : (x : Bool) → Does k b p GSlicedVbiCap a (by_services b.state (cond x (record { number = errno_of WrongType; lines = b.state.services; argument = a }) (record { number = 0; lines = b.state.services; argument = sets a 0 (services_capability_reply 6) })))
      go true = refuses_for k b p GSlicedVbiCap a safe WrongType
      go false = same_state GSlicedVbiCap _ refl

  -- any word
  pub does_request : (w : ℕ) → Does k b p (request_of w).call a (request_answer b.sheet b.state w a)
  unfolding request_answer request_of
  does_request w =
      go (eqb b.state.ready 0) safe.ready (eqb (length a) (request_of w).size) refl
    where
      rest : Bool → Answer
      rest y = cond (eqb (request_of w).size 0) (refused UnknownWord b.state a) (cond (not y) (refused ArgumentLength b.state a) (call_answer (request_of w).call b.sheet b.state a))

      go : (x : Bool) → x ≡ false → (y : Bool) → eqb (length a) (request_of w).size ≡ y → Does k b p (request_of w).call a (cond x (refused Closed b.state a) (rest y))
      go true e y f = absurd (true≢false e)
      go false e false f = checked k b p (request_of w).call a safe (eqb (request_of w).size 0) UnknownWord _ (refuses_for k b p (request_of w).call a safe ArgumentLength)
      go false e true f = checked k b p (request_of w).call a safe (eqb (request_of w).size 0) UnknownWord _ (does_call (request_of w).call (eqb-true (length a) (request_of w).size f))
