-- What each call answers that is accepted: its argument after it, by the sheet, the lengths of the memories, the papers, the desk and the argument before.
use Rattle.std.specs.Prelude.{ℕ, cond, not, List, [], ◌∷◌, map, eqb, length, get_or}
use Rattle.wire_read.specs.Words.{word_at}
use Rattle.ioctl_table.specs.declared.refusals.Refusal.TheVariants.{Closed}
use Rattle.ioctl_table.specs.declared.table.Call.{Call as Asked}
use Rattle.ioctl_table.specs.declared.table.Call.TheVariants.{Unknown, Querycap, EnumFmt, GFmt, SFmt, TryFmt, Reqbufs, Querybuf, Qbuf, Dqbuf, Streamon, Streamoff, GCtrl, SCtrl, Queryctrl, Cropcap, GCrop, SCrop, GSlicedVbiCap}
use Rattle.sheet_geometry.specs.Geometry.{line_alignment}
use Rattle.plane_rules.specs.declared.Place.{Place}
use Rattle.plane_rules.specs.Planes.{no_place, plane_of}
use Rattle.negotiation_rules.specs.Negotiation.{negotiated, asked_format}
use Rattle.control_place_rules.specs.Find.{place_of, queried_place}
use Rattle.stream_words.specs.declared.Filled.{Filled}
use Rattle.stream_words.specs.Stream.{Queues}
use Rattle.stream_words.specs.Moves.{no_frame, standing_of}
use Rattle.stream_run.specs.Stream.{reduced}
use Rattle.stream_run.specs.Switches.{grant_of}
use Rattle.stream_maps.specs.Maps.{is_mapped}
use Rattle.stream_status.specs.declared.Status.{Status}
use Rattle.stream_status.specs.Buffer.{flags_of, frame_for, described_of, returned_of}
use Rattle.format_replies.specs.Replies.{capability_reply, description_reply}
use Rattle.buffer_replies.specs.Replies.{buffers_reply, buffer_reply}
use Rattle.control_replies.specs.Replies.{control_reply, value_reply}
use Rattle.crop_replies.specs.Replies.{crop_reply, crop_capability_reply}
use Rattle.negotiation_calls.specs.Negotiations.{told_format}
use Rattle.service_replies.specs.Services.{asked_services, services_reply, services_capability_reply}
use Rattle.stream_history.specs.Paper.{Pair, Paper, step}
use Rattle.stream_history.specs.Paper.Event.{put}
use Rattle.claims.specs.Calls.{Kind}
use Rattle.claims.specs.Table.{named, kind_of, paper_at}
use Rattle.claims.specs.Desk.{Desk, value_on}

-- a filled buffer of the paper: its index, and the number, length and time of the arrival that it holds; the number is its place in the run, reduced
abbrev pub filled_on : Pair → Filled
filled_on x = record { index = x.index; number = reduced x.frame.place; used = length x.frame.bytes; time = x.frame.time }

-- the queues of the paper
abbrev pub queues_on : Paper → Queues
queues_on p = record { granted = p.granted; incoming = p.incoming; outgoing = map filled_on p.outgoing }

-- buffer k as it stands on the paper, mapped or not
abbrev pub status_on : Paper → ℕ → Status
status_on p k = described_of k (flags_of (is_mapped p.maps k) (standing_of (queues_on p) k)) (frame_for (standing_of (queues_on p) k)) p.size

-- the first outgoing buffer
abbrev pub first_on : List Pair → Filled
first_on [] = no_frame
first_on (x ∷ o) = filled_on x

-- n are the lengths of the memories, P the papers of the streams; a call on a stream answers with the type that its argument names
abbrev pub answer_on : List ℕ → (Kind → ℕ) → (Kind → Paper) → Desk → Asked → List ℕ → List ℕ
answer_on s n P q Unknown a = a
answer_on s n P q Querycap a = capability_reply s
answer_on s n P q EnumFmt a = description_reply s (word_at a 0)
-- a format of pictures, or the services of captions
answer_on s n P q GFmt a = cond (eqb (word_at a 0) 6) (services_reply 6 q.services) (told_format s q.format)
answer_on s n P q SFmt a = cond (eqb (word_at a 0) 6) (services_reply 6 (asked_services a)) (told_format s (negotiated s (asked_format a)))
answer_on s n P q TryFmt a = cond (eqb (word_at a 0) 6) (services_reply 6 (asked_services a)) (told_format s (negotiated s (asked_format a)))
answer_on s n P q Reqbufs a = buffers_reply (word_at a 4) (grant_of (n (kind_of (word_at a 4))) (word_at a 0) (paper_at P a 4).size)
answer_on s n P q Querybuf a = buffer_reply (word_at a 4) (status_on (paper_at P a 4) (word_at a 0))
-- the buffer as it is then: incoming
answer_on s n P q Qbuf a = buffer_reply (word_at a 4) (status_on (step (paper_at P a 4) (put (word_at a 0))) (word_at a 0))
answer_on s n P q Dqbuf a = buffer_reply (word_at a 4) (returned_of (paper_at P a 4).maps (first_on (paper_at P a 4).outgoing) (paper_at P a 4).size)
answer_on s n P q Streamon a = a
answer_on s n P q Streamoff a = a
answer_on s n P q GCtrl a = value_reply (word_at a 0) (get_or q.values (place_of s (word_at a 0)) 0)
-- the value that is kept; a button leaves the argument
answer_on s n P q SCtrl a = cond (eqb (named s a).kind 4) a (value_reply (word_at a 0) (value_on s a))
answer_on s n P q Queryctrl a = control_reply s (queried_place s (word_at a 0))
answer_on s n P q Cropcap a = crop_capability_reply s
answer_on s n P q GCrop a = crop_reply q.crop
answer_on s n P q SCrop a = a
-- all that the device offers
answer_on s n P q GSlicedVbiCap a = services_capability_reply 6

-- where plane k of a frame of n bytes lies, the opening having given this number
abbrev pub plane_on : ℕ → List ℕ → Desk → ℕ → ℕ → Place
plane_on opening s q n k = cond (not (eqb opening 0)) (no_place Closed) (plane_of q.format (line_alignment s) n k)
