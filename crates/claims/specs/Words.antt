-- The paper of a stream: what a list of calls tells it, by the calls, their arguments and what is given back.
use Rattle.std.specs.Prelude.{ℕ, cond, List, [], eqb}
use Rattle.wire_read.specs.Words.{word_at}
use Rattle.ioctl_table.specs.Table.{request_of}
use Rattle.ioctl_table.specs.declared.table.Call.{Call as Asked}
use Rattle.ioctl_table.specs.declared.table.Call.TheVariants.{Unknown, Querycap, EnumFmt, GFmt, SFmt, TryFmt, Reqbufs, Querybuf, Qbuf, Dqbuf, Streamon, Streamoff, GCtrl, SCtrl, Queryctrl, Cropcap, GCrop, SCrop, GSlicedVbiCap}
use Rattle.sheet_geometry.specs.Geometry.{line_alignment}
use Rattle.format_rules.specs.Size.{image_size}
use Rattle.negotiation_rules.specs.Negotiation.{opening_format}
use Rattle.stream_slots.specs.Slot.{buffer_at}
use Rattle.stream_maps.specs.declared.Change.{Change}
use Rattle.stream_history.specs.Paper.{Paper, Event, blank, noted, handed_over, refused_arrival, tells}
use Rattle.stream_history.specs.Paper.Event.{put, whole, damaged, handed, begun, ended, sized, changed, idle}
use Rattle.claims.specs.Calls.{Kind, type_of, Call, Reply, arrival_time}
use Rattle.claims.specs.Calls.Call.{request, arrival, change}
use Rattle.claims.specs.Calls.Reply.{answered, taken, numbered}
use Rattle.claims.specs.Machine.{Session, more, reply_in}
use Rattle.claims.specs.Table.{whole_on}
use Rattle.claims.specs.Desk.{desk_in}

-- where the argument of a call on a stream names its type
abbrev pub type_at : Asked → ℕ
type_at Unknown = 0
type_at Querycap = 0
type_at EnumFmt = 4
type_at GFmt = 0
type_at SFmt = 0
type_at TryFmt = 0
type_at Reqbufs = 4
type_at Querybuf = 4
type_at Qbuf = 4
type_at Dqbuf = 4
type_at Streamon = 0
type_at Streamoff = 0
type_at GCtrl = 0
type_at SCtrl = 0
type_at Queryctrl = 0
type_at Cropcap = 0
type_at GCrop = 0
type_at SCrop = 0
type_at GSlicedVbiCap = 100

-- the frame size that S_FMT answered: the image size, or the io size
abbrev pub answered_size : Kind → List ℕ → ℕ
answered_size Kind.pictures b = word_at b 24
answered_size Kind.captions b = word_at b 104

-- what an accepted request that names the stream means for it, by its argument before and after
abbrev pub request_told : Kind → Paper → Asked → List ℕ → List ℕ → Event
request_told k p Unknown a b = idle
request_told k p Querycap a b = idle
request_told k p EnumFmt a b = idle
request_told k p GFmt a b = idle
request_told k p SFmt a b = sized (answered_size k b)
request_told k p TryFmt a b = idle
-- a buffer request: so many buffers were granted
request_told k p Reqbufs a b = ended (word_at b 0)
request_told k p Querybuf a b = idle
-- its index goes last into the incoming queue
request_told k p Qbuf a b = put (word_at a 0)
-- a successful dequeue
request_told k p Dqbuf a b = handed
-- a run begins, outside a run
request_told k p Streamon a b = cond p.running idle begun
-- a stop
request_told k p Streamoff a b = ended p.granted
request_told k p GCtrl a b = idle
request_told k p SCtrl a b = idle
request_told k p Queryctrl a b = idle
request_told k p Cropcap a b = idle
request_told k p GCrop a b = idle
request_told k p SCrop a b = idle
request_told k p GSlicedVbiCap a b = idle

-- one that names another stream, or none, tells nothing
abbrev pub told_by : Kind → Paper → Asked → List ℕ → List ℕ → Event
told_by k p call a b = cond (eqb (word_at a (type_at call)) (type_of k)) (request_told k p call a b) idle

-- an accepted arrival is whole, or damaged
abbrev pub arrival_told : Kind → Paper → List ℕ → List ℕ → ℕ → ℕ → Event
arrival_told k p services f x y = cond (whole_on k p.size services f (arrival_time x y)) (whole f (arrival_time x y)) damaged

-- an accepted map or unmap that names the stream is one of the buffer that has its offset
abbrev pub change_told : Kind → Paper → Change → ℕ → ℕ → Event
change_told k p c t o = cond (eqb t (type_of k)) (changed c (buffer_at p.size o)) idle

-- what a call tells a stream, by what is given back and the services in force before it: a request, a map and an unmap are accepted if they are
-- answered 0, an arrival if it is of the stream's type, made in a run and not refused
abbrev pub told : Kind → Paper → Call → Reply × List ℕ → Event
told k p (request w a) (answered n b, l) = cond (eqb n 0) (told_by k p (request_of w).call a b) idle
told k p (request w a) (taken x, l) = idle
told k p (request w a) (numbered n, l) = idle
told k p (arrival t f x y other) (answered n b, l) = idle
told k p (arrival t f x y other) (taken r, l) = cond (eqb t (type_of k)) (cond (refused_arrival r) idle (cond p.running (arrival_told k p l f x y) idle)) idle
told k p (arrival t f x y other) (numbered n, l) = idle
told k p (change c t o z) (answered n b, l) = idle
told k p (change c t o z) (taken r, l) = idle
told k p (change c t o z) (numbered n, l) = cond (eqb n 0) (change_told k p c t o) idle

-- what a call gives back, with the services in force before it
abbrev pub seen_in : List ℕ → Session → List Call → Call → Reply × List ℕ
seen_in s S h c = (reply_in S h c, (desk_in s S h).services)

-- the events that calls tell a stream, after those of h and with this paper
abbrev pub events_in : List ℕ → Session → Kind → List Call → Paper → List Call → List Event
events_in s S k h p cs = tells (seen_in s S) more (told k) h p cs

-- the frame size that opening set: the image size of the first format and the greatest size; no services, so an io size of 0
abbrev pub opening_size : List ℕ → Kind → ℕ
opening_size s Kind.pictures = image_size (opening_format s) (line_alignment s)
opening_size s Kind.captions = 0

-- all that calls from an opening with sheet s tell a stream
abbrev pub history_in : List ℕ → Session → Kind → List Call → List Event
history_in s S k cs = events_in s S k [] (blank (opening_size s k)) cs

-- the two queues of a stream, its counts and its maps on paper, after them
abbrev pub paper_in : List ℕ → Session → Kind → List Call → Paper
paper_in s S k cs = noted (blank (opening_size s k)) (history_in s S k cs)

-- the papers of both
abbrev pub papers_in : List ℕ → Session → List Call → Kind → Paper
papers_in s S cs k = paper_in s S k cs

-- the places in the run of the arrivals handed over in the last one: full counts, not numbers
abbrev pub handed_in : List ℕ → Session → Kind → List Call → List ℕ
handed_in s S k cs = handed_over (blank (opening_size s k)) [] (history_in s S k cs)
