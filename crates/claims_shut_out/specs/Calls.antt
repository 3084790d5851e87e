-- A few calls on the bench sheet, of pictures and of captions, and the memories for them.
use Rattle.std.specs.Prelude.{ℕ, List, [], ◌∷◌, ◌++◌, replicate}
use Rattle.wire_read.specs.Words.{bytes_of}
use Rattle.claims.specs.Calls.{Kind, type_of, Call}
use Rattle.claims.specs.Calls.Call.{request, arrival}

-- ---- the memories

-- n bytes that are all v; its clause stays shut, so that nothing counts through them
unfoldable pub plain : ℕ → ℕ → List ℕ
plain n v = replicate n v

-- memories of zeros, each with room for four slots
abbrev pub room : Kind → ℕ
room Kind.pictures = 2457600
room Kind.captions = 16384

abbrev pub dark : Kind → List ℕ
dark k = plain (room k) 0

-- ---- of either stream

-- ten buffers
abbrev pub ten_of : Kind → List ℕ
ten_of k = bytes_of (10 ∷ type_of k ∷ 1 ∷ 0 ∷ 0 ∷ [])

-- a buffer: its index, its type, memory 1 at byte 48
abbrev pub buffer_of : Kind → ℕ → List ℕ
buffer_of k i = bytes_of (i ∷ type_of k ∷ 0 ∷ 0 ∷ 0 ∷ 0 ∷ 0 ∷ 0 ∷ 0 ∷ 0 ∷ 0 ∷ 0 ∷ 1 ∷ 0 ∷ 0 ∷ 0 ∷ 0 ∷ [])

-- the type alone
abbrev pub run_of : Kind → List ℕ
run_of k = bytes_of (type_of k ∷ [])

-- ---- pictures

abbrev pub ten_buffers : List ℕ
ten_buffers = ten_of Kind.pictures

abbrev pub buffer : ℕ → List ℕ
buffer i = buffer_of Kind.pictures i

abbrev pub video : List ℕ
video = run_of Kind.pictures

abbrev pub reqbufs : Call
reqbufs = request 0xC0145608 ten_buffers

abbrev pub qbuf : ℕ → Call
qbuf i = request 0xC044560F (buffer i)

abbrev pub streamon : Call
streamon = request 0x40045612 video

abbrev pub dqbuf : Call
dqbuf = request 0xC0445611 (buffer 0)

abbrev pub streamoff : Call
streamoff = request 0x40045613 video

-- a format of this width, and a height of 224
abbrev pub wide : ℕ → List ℕ
wide n = bytes_of (1 ∷ n ∷ 224 ∷ 0 ∷ []) ++ replicate 188 0

-- a white frame of the image size at opening
abbrev pub white : List ℕ
white = plain 614400 1

abbrev pub comes : Call
comes = arrival 1 white 0 0 (dark Kind.pictures)

-- ---- captions

-- Caption 525 wherever it is offered
abbrev pub services : List ℕ
services = bytes_of (6 ∷ 0x1000 ∷ []) ++ replicate 196 0

abbrev pub caption_buffers : List ℕ
caption_buffers = ten_of Kind.captions

abbrev pub caption_buffer : ℕ → List ℕ
caption_buffer i = buffer_of Kind.captions i

abbrev pub caption_type : List ℕ
caption_type = run_of Kind.captions

abbrev pub sets : Call
sets = request 0xC0CC5605 services

abbrev pub asks : Call
asks = request 0xC0145608 caption_buffers

abbrev pub hands : Call
hands = request 0xC044560F (caption_buffer 0)

abbrev pub begins : Call
begins = request 0x40045612 caption_type

-- a record of Caption 525, on line 21 of the first field
abbrev pub line21 : List ℕ
line21 = bytes_of (0x1000 ∷ 0 ∷ 21 ∷ 0 ∷ []) ++ replicate 48 0
