-- What a request answers. The checks run in this order: closed, word, argument length, then those of the call.
use Rattle.std.specs.Prelude.{ℕ, Bool, true, false, cond, not, List, eqb, length, Option, Some, None}
use Rattle.ioctl_table.specs.Table.{argument_size, request_of}
use Rattle.ioctl_table.specs.declared.table.Call.{Call}
use Rattle.ioctl_table.specs.declared.table.Call.TheVariants.{Unknown, Querycap, EnumFmt, GFmt, SFmt, TryFmt, Reqbufs, Querybuf, Qbuf, Dqbuf, Streamon, Streamoff, GCtrl, SCtrl, Queryctrl, Cropcap, GCrop, SCrop, GSlicedVbiCap}
use Rattle.ioctl_table.specs.declared.refusals.Refusal.TheVariants.{ArgumentLength, Closed, UnknownWord}
use Rattle.request_topics.specs.declared.About.{About}
use Rattle.request_topics.specs.declared.About.TheVariants.{Settings, Streams, Controls}
use Rattle.stream_words.specs.Stream.{Stream}
use Rattle.device_state.specs.State.{State, with_video, with_captions, with_services}
use Rattle.device_state.specs.Answers.{Answer, answer, refused, by_type}
use Rattle.format_calls.specs.Formats.{querycap_of, enum_fmt_of, g_fmt_of}
use Rattle.negotiation_calls.specs.Negotiations.{s_fmt_of, try_fmt_of}
use Rattle.crop_calls.specs.Crops.{cropcap_of, g_crop_of, s_crop_of}
use Rattle.control_calls.specs.Controls.{g_ctrl_of, s_ctrl_of}
use Rattle.control_query_calls.specs.Query.{queryctrl_of}
use Rattle.service_rules.specs.Negotiation.{io_size}
use Rattle.service_calls.specs.Services.{ServicesAnswer, g_services_of, s_services_of, try_services_of, services_capability_of}
use Rattle.buffer_calls.specs.Buffers.{StreamAnswer, reqbufs_of, querybuf_of}
use Rattle.queue_calls.specs.Queues.{qbuf_of}
use Rattle.dequeue_calls.specs.Dequeues.{dqbuf_of}
use Rattle.run_calls.specs.Runs.{streamon_of, streamoff_of}

-- what the device answers when its stream of pictures does, when its stream of captions does, and when its services do
abbrev pub by_video : State → StreamAnswer → Answer
by_video d r = answer r.number (with_video d r.stream) r.argument

abbrev pub by_captions : State → StreamAnswer → Answer
by_captions d r = answer r.number (with_captions d r.stream) r.argument

abbrev pub by_services : State → ServicesAnswer → Answer
by_services d r = answer r.number (with_services d r.lines) r.argument

-- a call on the stream whose type the argument names at a place: pictures, type 1, of the image size in force; captions, type 6, of the io size
abbrev pub stream_call : (Stream → ℕ → ℕ → List ℕ → StreamAnswer) → ℕ → State → List ℕ → Answer
stream_call f at d a = by_type at d a (by_video d (f d.video 1 d.size a)) (by_captions d (f d.captions 6 (io_size d.services) a))

-- what a call answers, given an argument of its length
abbrev pub call_answer : Call → List ℕ → State → List ℕ → Answer
call_answer Unknown s d a = refused UnknownWord d a
call_answer Querycap s d a = querycap_of s d a
call_answer EnumFmt s d a = enum_fmt_of s d a
call_answer GFmt s d a = by_type 0 d a (g_fmt_of d a) (by_services d (g_services_of 6 d.services a))
call_answer SFmt s d a = by_type 0 d a (s_fmt_of s d a) (by_services d (s_services_of 6 d.captions.queues.granted d.services a))
call_answer TryFmt s d a = by_type 0 d a (try_fmt_of s d a) (by_services d (try_services_of 6 d.services a))
call_answer Reqbufs s d a = stream_call reqbufs_of 4 d a
call_answer Querybuf s d a = stream_call querybuf_of 4 d a
call_answer Qbuf s d a = stream_call qbuf_of 4 d a
call_answer Dqbuf s d a = stream_call dqbuf_of 4 d a
call_answer Streamon s d a = stream_call streamon_of 0 d a
call_answer Streamoff s d a = stream_call streamoff_of 0 d a
call_answer GCtrl s d a = g_ctrl_of s d a
call_answer SCtrl s d a = s_ctrl_of s d a
call_answer Queryctrl s d a = queryctrl_of s d a
call_answer Cropcap s d a = cropcap_of s d a
call_answer GCrop s d a = g_crop_of d a
call_answer SCrop s d a = s_crop_of s d a
call_answer GSlicedVbiCap s d a = by_services d (services_capability_of d.services a)

-- what a call answers with any argument: an unknown word (it alone has size 0), an argument that is not of the call's size; then the call
unfoldable pub checked_answer : Call → List ℕ → State → List ℕ → Answer
checked_answer c s d a =
    cond (eqb (argument_size c) 0) (refused UnknownWord d a)
    (cond (not (eqb (length a) (argument_size c))) (refused ArgumentLength d a)
    (call_answer c s d a))

-- a closed device, an unknown word (it alone has size 0), an argument that is not of the word's size; then the call
unfoldable pub request_answer : List ℕ → State → ℕ → List ℕ → Answer
request_answer s d w a =
    cond (eqb d.ready 0) (refused Closed d a)
    (cond (eqb (request_of w).size 0) (refused UnknownWord d a)
    (cond (not (eqb (length a) (request_of w).size)) (refused ArgumentLength d a)
    (call_answer (request_of w).call s d a)))

-- what a call is about, where its word is known: the device with its formats, services and crop; the streams; the controls
abbrev pub topic_of : Call → Option About
topic_of Unknown = None
topic_of Querycap = Some Settings
topic_of EnumFmt = Some Settings
topic_of GFmt = Some Settings
topic_of SFmt = Some Settings
topic_of TryFmt = Some Settings
topic_of Reqbufs = Some Streams
topic_of Querybuf = Some Streams
topic_of Qbuf = Some Streams
topic_of Dqbuf = Some Streams
topic_of Streamon = Some Streams
topic_of Streamoff = Some Streams
topic_of GCtrl = Some Controls
topic_of SCtrl = Some Controls
topic_of Queryctrl = Some Controls
topic_of Cropcap = Some Settings
topic_of GCrop = Some Settings
topic_of SCrop = Some Settings
topic_of GSlicedVbiCap = Some Settings

-- whether what a call is about is this topic
abbrev pub is_about : About → Option About → Bool
is_about Settings (Some Settings) = true
is_about Settings (Some Streams) = false
is_about Settings (Some Controls) = false
is_about Settings None = false
is_about Streams (Some Settings) = false
is_about Streams (Some Streams) = true
is_about Streams (Some Controls) = false
is_about Streams None = false
is_about Controls (Some Settings) = false
is_about Controls (Some Streams) = false
is_about Controls (Some Controls) = true
is_about Controls None = false

-- what the calls about one topic answer with any argument; any other call is unknown there
unfoldable pub on_topic : About → Call → List ℕ → State → List ℕ → Answer
on_topic t c s d a = cond (is_about t (topic_of c)) (checked_answer c s d a) (refused UnknownWord d a)
