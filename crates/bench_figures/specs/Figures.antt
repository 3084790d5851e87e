-- The figures of the bench: one table, each row computed from a bench sheet by the definitions that the contracts cite.
use Rattle.std.specs.Prelude.{ℕ, ◌-◌, true, List, [], ◌∷◌, ℤ, pos, neg_ℤ, length, replicate}
use Rattle.wire_signed.specs.Signed.{bits, signed_at}
use Rattle.sheet_geometry.specs.Geometry.{widths_of, heights_of, line_alignment, crop_bounds, crop_default}
use Rattle.sheet_geometry.specs.declared.Rect.{Rect}
use Rattle.format_rules.specs.declared.Format.{Format}
use Rattle.format_rules.specs.Code.{YUYV, YU12}
use Rattle.format_rules.specs.Size.{bytes_per_line, image_size}
use Rattle.stream_slots.specs.Slot.{slot_size}
use Rattle.stream_run.specs.Switches.{grant_of}
use Rattle.stream_run.specs.Stream.{reduced}
use Rattle.stream_words.specs.Stream.{Stream}
use Rattle.stream_maps.specs.declared.Change.{Change}
use Rattle.stream_maps.specs.declared.Change.TheVariants.{Map, Unmap}
use Rattle.stream_maps.specs.Maps.{no_maps}
use Rattle.stream_arrival.specs.Arrivals.{arrival_of}
use Rattle.arrival_replies.specs.Answer.{told_of}
use Rattle.wire_read.specs.Words.{word_at, bytes_of}
use Rattle.sheet_copy.specs.Copy.{kept_of}
use Rattle.stream_verdict.specs.Film.{verdict_of, verdict_number}
use Rattle.device_state.specs.State.{State}
use Rattle.device_state.specs.Answers.{Answer}
use Rattle.request_topics.specs.Request.{request_answer}
use Rattle.device_opening.specs.Opening.{opened_of}
use Rattle.service_rules.specs.Services.{capability_lines}
use Rattle.service_rules.specs.Negotiation.{negotiated_lines, union_of, carrying, io_size}
use Rattle.device_film.specs.Film.{device_verdict}
use Rattle.device_maps.specs.Mapping.{mapped_of}
use Rattle.plane_rules.specs.Planes.{plane_start}
use Rattle.grid_rules.specs.Grid.{sizes_of, walk_sizes}
use Rattle.crop_rules.specs.Crop.{clamped}
use Rattle.control_calls.specs.Controls.{s_ctrl_of}
use Rattle.bench_sheet.specs.Bench.{bench_sheet, odd_sheet, bench_memory}

-- what the definitions compute, and what the device is to say
pub record Figure : Type 0 where
  pub got : ℤ
  pub expected : ℤ

infix 70 ◌gives◌
abbrev ◌gives◌ : ℤ → ℤ → Figure
g gives e = record { got = g; expected = e }

abbrev minus : ℕ → ℤ
minus n = neg_ℤ (pos n)

-- ---- formats

abbrev picture : ℕ → ℕ → ℕ → Format
picture code width height = record { width = width; height = height; code = code }

abbrev line : Format → ℤ
line f = pos (bytes_per_line f (line_alignment bench_sheet))

abbrev size : Format → ℕ
size f = image_size f (line_alignment bench_sheet)

-- where plane k starts
abbrev plane : Format → ℕ → ℤ
plane f k = pos (plane_start f (line_alignment bench_sheet) k)

-- how many buffers are granted of those asked for, in the bench's memory
abbrev pub granted : ℕ → Format → ℤ
granted asked f = pos (grant_of bench_memory asked (size f))

-- ---- crop

-- the rectangle that is taken where this one is asked
abbrev taken : Rect → Rect
taken asked = clamped (crop_bounds bench_sheet) asked

-- the default rectangle with another left and width
abbrev across : ℤ → ℤ → Rect
across left width = record { left = left; top = (crop_default bench_sheet).top; width = width; height = (crop_default bench_sheet).height }

-- ---- captions

-- the bytes of the caption memory
abbrev pub caption_memory : ℕ
caption_memory = 8192

-- the io size of a set of services
abbrev io : ℕ → ℕ
io set = io_size (negotiated_lines set [])

-- ---- the device

-- the bench's device, opened
unfoldable pub opened : State
opened = (opened_of bench_sheet bench_memory caption_memory).device.state

-- the one of the sheet with odd tops
unfoldable pub odd_opened : State
odd_opened = (opened_of odd_sheet bench_memory caption_memory).device.state

-- ---- tops

-- the number at a place of what CROPCAP answers
abbrev limit_at : List ℕ → State → ℕ → ℤ
limit_at s d at = signed_at (request_answer (kept_of s) d 0xC02C563A (bytes_of (1 ∷ replicate 10 0))).argument at

-- the top that G_CROP answers
abbrev told_top : List ℕ → State → ℤ
told_top s d = signed_at (request_answer (kept_of s) d 0xC014563B (bytes_of (1 ∷ replicate 4 0))).argument 8

-- the same after an S_CROP of 640x300 at left -8 and this top
abbrev top_after : List ℕ → State → ℤ → ℤ
top_after s d top = told_top s (request_answer (kept_of s) d 0x4014563C (bytes_of (1 ∷ bits (minus 8) ∷ bits top ∷ 640 ∷ 300 ∷ []))).state

-- ---- sizes

-- the word at a place of what a request for a format of this width and height answers
abbrev answered_at : ℕ → State → ℕ → ℕ → ℕ → ℤ
answered_at at d word width height = pos (word_at (request_answer (kept_of bench_sheet) d word (bytes_of (1 ∷ width ∷ height ∷ YUYV ∷ replicate 47 0))).argument at)

-- the width that TRY_FMT answers where this one is asked, and the height
abbrev tried_width : State → ℕ → ℤ
tried_width d asked = answered_at 4 d 0xC0CC5640 asked 224

abbrev tried_height : State → ℕ → ℤ
tried_height d asked = answered_at 8 d 0xC0CC5640 304 asked

-- those that S_FMT answers
abbrev set_width : State → ℕ → ℤ
set_width d asked = answered_at 4 d 0xC0CC5605 asked 224

abbrev set_height : State → ℕ → ℤ
set_height d asked = answered_at 8 d 0xC0CC5605 304 asked

-- the width that a walk of all widths gives
abbrev walked_width : ℕ → ℤ
walked_width asked = pos (walk_sizes (widths_of bench_sheet) asked)

-- ---- controls

-- what S_CTRL of a device in this state answers where the contrast is set to a value
abbrev set : State → ℤ → Answer
set d value = s_ctrl_of bench_sheet d (bytes_of (0x00980901 ∷ bits value ∷ []))

-- the value that it shows: the second word of the answered argument
abbrev contrast : State → ℤ → ℤ
contrast d value = signed_at (set d value).argument 4

-- ---- a run

-- the state after a request of these words
abbrev asked : State → ℕ → List ℕ → State
asked d w ws = (request_answer (kept_of bench_sheet) d w (bytes_of ws)).state

-- how many caption buffers a device has that is asked for so many; first it negotiates a set of services
abbrev captions_granted : State → ℕ → ℤ
captions_granted d n = pos (asked d 0xC0145608 (n ∷ 6 ∷ 1 ∷ 0 ∷ 0 ∷ [])).captions.queues.granted

abbrev serving : State → ℕ → State
serving d set = asked d 0xC0CC5605 (6 ∷ set ∷ replicate 49 0)

-- ten buffers asked for, a run without arrivals, a stop
abbrev ran_empty : State → State
ran_empty d =
    asked (asked (asked d 0xC0145608 (10 ∷ 1 ∷ 1 ∷ 0 ∷ 0 ∷ [])) 0x40045612 (1 ∷ [])) 0x40045613 (1 ∷ [])

-- ---- long runs

-- a stream in a run, or after it: of n arrivals so many were handed over, and buffer 0 waits
abbrev aged : ℕ → ℕ → ℕ → Stream
aged on n over = record {
  length = bench_memory;
  streaming = on;
  run = record { ran = 1; accepted = n; handed = over; damaged = n - over; dropped = 0; discarded = 0 };
  number = reduced n;
  queues = record { granted = 1; incoming = 0 ∷ []; outgoing = [] };
  maps = no_maps;
}

-- the number in the answer to a whole frame behind n arrivals: its own, or that of a refusal
abbrev number_behind : ℕ → ℤ
number_behind n = pos (told_of (arrival_of (aged 1 n n) bench_memory 64 true 64 (record { seconds = pos 0; microseconds = pos 0 })).arrival).number

-- the verdict on a film of n arrivals, so many handed over
abbrev film_of : ℕ → ℕ → ℤ
film_of n over = pos (verdict_number (verdict_of (aged 0 n over)))

-- ---- maps

-- ten buffers asked for, one granted, its slot all of 614,400 bytes; then it is mapped
abbrev with_buffer : State → State
with_buffer d = asked d 0xC0145608 (10 ∷ 1 ∷ 1 ∷ 0 ∷ 0 ∷ [])

abbrev holding : State → State
holding d = (mapped_of Map (with_buffer d) 1 0 614400).state

-- the number that a map or an unmap gives back
abbrev change_number : Change → State → ℕ → ℕ → ℤ
change_number c d o l = pos (mapped_of c d 1 o l).number

-- the number that a request for no buffers gives back, and the flags that QUERYBUF tells of buffer 0
abbrev free_number : State → ℤ
free_number d = pos (request_answer (kept_of bench_sheet) d 0xC0145608 (bytes_of (0 ∷ 1 ∷ 1 ∷ 0 ∷ 0 ∷ []))).number

abbrev told_flags : State → ℤ
told_flags d = pos (word_at (request_answer (kept_of bench_sheet) d 0xC0445609 (bytes_of (0 ∷ 1 ∷ replicate 15 0))).argument 12)

-- ---- the table

-- by the state of the opened device, and that of the one with odd tops
unfoldable pub figures_of : State → State → List Figure
figures_of d o =
    -- widths 160, 176, .. 640: one between two, half way and one more, at the first two, in the middle and at the last two
    tried_width d 300 gives pos 304
    ∷ tried_width d 168 gives pos 160
    ∷ tried_width d 169 gives pos 176
    ∷ tried_width d 296 gives pos 288
    ∷ tried_width d 297 gives pos 304
    ∷ tried_width d 632 gives pos 624
    ∷ tried_width d 633 gives pos 640
    -- both ends: the least that can be asked for, around the least width, around the greatest, the greatest that can be asked for
    ∷ tried_width d 0 gives pos 160
    ∷ tried_width d 159 gives pos 160
    ∷ tried_width d 160 gives pos 160
    ∷ tried_width d 640 gives pos 640
    ∷ tried_width d 641 gives pos 640
    ∷ tried_width d 4294967295 gives pos 640
    -- heights 120, 122, .. 480: the first and the last half way, and both ends
    ∷ tried_height d 121 gives pos 120
    ∷ tried_height d 479 gives pos 478
    ∷ tried_height d 0 gives pos 120
    ∷ tried_height d 4294967295 gives pos 480
    -- the same of S_FMT
    ∷ set_width d 296 gives pos 288
    ∷ set_width d 0 gives pos 160
    ∷ set_width d 4294967295 gives pos 640
    ∷ set_height d 121 gives pos 120
    ∷ set_height d 4294967295 gives pos 480
    -- a walk: how many widths and heights there are, half way, and both ends
    ∷ pos (length (sizes_of (widths_of bench_sheet))) gives pos 31
    ∷ pos (length (sizes_of (heights_of bench_sheet))) gives pos 181
    ∷ walked_width 296 gives pos 288
    ∷ walked_width 0 gives pos 160
    ∷ walked_width 4294967295 gives pos 640
    -- YUYV 304x224: bytes per line, image size, slot, buffers granted of ten
    ∷ line (picture YUYV 304 224) gives pos 640
    ∷ pos (size (picture YUYV 304 224)) gives pos 143360
    ∷ pos (slot_size (size (picture YUYV 304 224))) gives pos 143360
    ∷ granted 10 (picture YUYV 304 224) gives pos 7
    -- YU12 304x224: bytes per line, image size, its three planes, slot, buffers granted of ten
    ∷ line (picture YU12 304 224) gives pos 320
    ∷ pos (size (picture YU12 304 224)) gives pos 107520
    ∷ plane (picture YU12 304 224) 0 gives pos 0
    ∷ plane (picture YU12 304 224) 1 gives pos 71680
    ∷ plane (picture YU12 304 224) 2 gives pos 89600
    ∷ pos (slot_size (size (picture YU12 304 224))) gives pos 110592
    ∷ granted 10 (picture YU12 304 224) gives pos 9
    -- crop: a left too far right, one too far left, no width
    ∷ (taken (across (pos 100) (pos 608))).left gives pos 24
    ∷ (taken (across (minus 2147483648) (pos 608))).left gives minus 8
    ∷ (taken (across (crop_default bench_sheet).left (pos 0))).width gives pos 1
    -- tops 0, 1 and 31 lines below the bounds' top, 0
    ∷ top_after bench_sheet d (pos 0) gives pos 0
    ∷ top_after bench_sheet d (pos 1) gives pos 0
    ∷ top_after bench_sheet d (pos 31) gives pos 30
    -- the bounds' top -7 and the default's -6: CROPCAP tells both, and after opening G_CROP tells the default with its top rounded
    ∷ limit_at odd_sheet o 8 gives minus 7
    ∷ limit_at odd_sheet o 24 gives minus 6
    ∷ told_top odd_sheet o gives minus 7
    -- 0, 1, 2 and 31 lines below -7, and far above it
    ∷ top_after odd_sheet o (minus 7) gives minus 7
    ∷ top_after odd_sheet o (minus 6) gives minus 7
    ∷ top_after odd_sheet o (minus 5) gives minus 5
    ∷ top_after odd_sheet o (pos 24) gives pos 23
    ∷ top_after odd_sheet o (minus 32768) gives minus 7
    -- contrast: the nearest value, the one nearer the minimum of two that are as near
    ∷ contrast d (minus 8) gives minus 10
    ∷ contrast d (pos 0) gives minus 2
    -- a value above the greatest is refused with 34
    ∷ pos (set d (pos 11)).number gives pos 34
    -- a run of no arrivals, stopped: there was a run, and the film is BLANK
    ∷ pos (ran_empty d).video.run.ran gives pos 1
    ∷ pos (verdict_number (device_verdict (ran_empty d) 1)) gives pos 1
    -- captions: the lines that carry something, the services on them
    ∷ pos (carrying capability_lines) gives pos 33
    ∷ pos (union_of capability_lines) gives pos 0x5401
    -- Caption 525: io size, slot, buffers granted of ten
    ∷ pos (io 0x1000) gives pos 128
    ∷ pos (slot_size (io 0x1000)) gives pos 4096
    ∷ captions_granted (serving d 0x1000) 10 gives pos 2
    -- all services: io size, slot, buffers granted of ten
    ∷ pos (io 0x5401) gives pos 2112
    ∷ pos (slot_size (io 0x5401)) gives pos 4096
    ∷ captions_granted (serving d 0x5401) 10 gives pos 2
    -- a set that nothing fits: io size, buffers granted of ten; and those with no services, as at opening
    ∷ pos (io 0x0200) gives pos 0
    ∷ captions_granted (serving d 0x0200) 10 gives pos 0
    ∷ captions_granted d 10 gives pos 0
    -- numbers: the last but one, the last, 0 again; the last frame that a run takes, and 75 behind it
    ∷ number_behind 4294967294 gives pos 4294967294
    ∷ number_behind 4294967295 gives pos 4294967295
    ∷ number_behind 4294967296 gives pos 0
    ∷ number_behind 9223372036854775806 gives pos 4294967294
    ∷ number_behind 9223372036854775807 gives pos 75
    -- films of 2 ^ 32 + 5 frames: all handed over, COMPLETE; all but one, and only five: GAPS
    ∷ film_of 4294967301 4294967301 gives pos 3
    ∷ film_of 4294967301 4294967300 gives pos 2
    ∷ film_of 4294967301 5 gives pos 2
    -- maps: of a buffer, beside it, of another length, of the one behind the last; an unmap before any
    ∷ change_number Map (with_buffer d) 0 614400 gives pos 0
    ∷ change_number Map (with_buffer d) 4096 614400 gives pos 22
    ∷ change_number Map (with_buffer d) 0 614399 gives pos 22
    ∷ change_number Map (with_buffer d) 614400 614400 gives pos 22
    ∷ change_number Unmap (with_buffer d) 0 614400 gives pos 22
    -- while it is mapped: its flag, a request for no buffers, and its unmap
    ∷ told_flags (with_buffer d) gives pos 0
    ∷ told_flags (holding d) gives pos 1
    ∷ free_number (holding d) gives pos 16
    ∷ change_number Unmap (holding d) 0 614400 gives pos 0
    ∷ []

unfoldable pub figures : List Figure
figures = figures_of opened odd_opened
