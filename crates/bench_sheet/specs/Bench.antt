-- The bench: a small device sheet, the same with odd tops, and the length of a picture memory, on which the figures of every layer are worked
-- out.
use Rattle.std.specs.Prelude.{List, [], ◌∷◌, ◌++◌, ℕ, ◌-◌, length, replicate}
use Prim.Native.Char.{code}
use Prim.Native.String.{String, [] as none, ◌∷◌ as ◌then◌}
use Rattle.wire_read.specs.Words.{bytes_of}

-- the bytes of a text
abbrev letters : String → List ℕ
letters none = []
letters (a then t) = code a ∷ letters t

-- a text field of n bytes: the letters, then zeros
abbrev text : ℕ → String → List ℕ
text n t = letters t ++ replicate (n - length (letters t)) 0

-- the word of -n, in two's complement
abbrev minus : ℕ → ℕ
minus n = 0x1_0000_0000 - n

-- one identity, two formats, one geometry and one control: where each starts, and how many there are
abbrev contents : List ℕ
contents = bytes_of (32 ∷ 1 ∷ 116 ∷ 2 ∷ 188 ∷ 1 ∷ 256 ∷ 1 ∷ [])

-- driver, card, bus and version
abbrev identity : List ℕ
identity = text 16 "tollgutter" ++ text 32 "bench camera" ++ text 32 "bench:0" ++ bytes_of (0x00010000 ∷ [])

-- code and description of each format
abbrev formats : List ℕ
formats = letters "YUYV" ++ text 32 "YUYV 4:2:2" ++ letters "YU12" ++ text 32 "YUV 4:2:0 planar"

-- width 160..640 by 16, height 120..480 by 2, lines of a multiple of 64 bytes; left, top, width and height of the bounds and of the default;
-- square pixels
abbrev geometry : List ℕ → List ℕ → List ℕ
geometry bounds default = bytes_of (160 ∷ 640 ∷ 16 ∷ 120 ∷ 480 ∷ 2 ∷ 64 ∷ []) ++ bytes_of bounds ++ bytes_of default ++ bytes_of (1 ∷ 1 ∷ [])

-- V4L2_CID_CONTRAST, an integer: -10..10 by 4, default -2, no flags, the reserved words 0
abbrev contrast : List ℕ
contrast =
    bytes_of (0x00980901 ∷ 1 ∷ []) ++ text 32 "Contrast" ++ bytes_of (minus 10 ∷ 10 ∷ 4 ∷ minus 2 ∷ 0 ∷ 0 ∷ 0 ∷ [])

-- a sheet of 324 bytes
abbrev sheet_with : List ℕ → List ℕ → List ℕ
sheet_with bounds default = contents ++ identity ++ formats ++ geometry bounds default ++ contrast

-- the bench sheet: its default is its bounds
unfoldable pub bench_sheet : List ℕ
bench_sheet = sheet_with (minus 8 ∷ 0 ∷ 640 ∷ 400 ∷ []) (minus 8 ∷ 0 ∷ 640 ∷ 400 ∷ [])

-- the same with odd tops: the bounds from -7, and the default a line further down
unfoldable pub odd_sheet : List ℕ
odd_sheet = sheet_with (minus 8 ∷ minus 7 ∷ 640 ∷ 400 ∷ []) (minus 8 ∷ minus 6 ∷ 640 ∷ 399 ∷ [])

-- the length of the picture memory, in bytes
abbrev pub bench_memory : ℕ
bench_memory = 1048576
