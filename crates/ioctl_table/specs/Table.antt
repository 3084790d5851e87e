-- The eighteen known request words, and what each asks for.
use Rattle.std.specs.Prelude.{cond, List, [], ◌∷◌, ℕ, eqb, get_or}
use Rattle.ioctl_table.specs.declared.table.Call.{Call}
use Rattle.ioctl_table.specs.declared.table.Call.TheVariants.{Unknown, Querycap, EnumFmt, GFmt, SFmt, TryFmt, Reqbufs, Querybuf, Qbuf, Dqbuf, Streamon, Streamoff, GCtrl, SCtrl, Queryctrl, Cropcap, GCrop, SCrop, GSlicedVbiCap}
use Rattle.ioctl_table.specs.declared.table.Request.{Request}

-- how many bytes the argument of a call has
abbrev pub argument_size : Call → ℕ
argument_size Unknown = 0
argument_size Querycap = 104
argument_size EnumFmt = 64
argument_size GFmt = 204
argument_size SFmt = 204
argument_size TryFmt = 204
argument_size Reqbufs = 20
argument_size Querybuf = 68
argument_size Qbuf = 68
argument_size Dqbuf = 68
argument_size Streamon = 4
argument_size Streamoff = 4
argument_size GCtrl = 8
argument_size SCtrl = 8
argument_size Queryctrl = 68
argument_size Cropcap = 44
argument_size GCrop = 20
argument_size SCrop = 20
argument_size GSlicedVbiCap = 116

-- one row of the table: a word, its direction, and the call that it stands for
pub record Known : Type 0 where
  pub word : ℕ
  pub direction : ℕ
  pub call : Call

-- a row of its three entries
abbrev pub row : ℕ → ℕ → Call → Known
row w d c = record { word = w; direction = d; call = c }

-- every word that the device knows
unfoldable pub known_words : List Known
known_words =
    row 0x80685600 2 Querycap
    ∷ row 0xC0405602 3 EnumFmt
    ∷ row 0xC0CC5604 3 GFmt
    ∷ row 0xC0CC5605 3 SFmt
    ∷ row 0xC0CC5640 3 TryFmt
    ∷ row 0xC0145608 3 Reqbufs
    ∷ row 0xC0445609 3 Querybuf
    ∷ row 0xC044560F 3 Qbuf
    ∷ row 0xC0445611 3 Dqbuf
    ∷ row 0x40045612 1 Streamon
    ∷ row 0x40045613 1 Streamoff
    ∷ row 0xC008561B 3 GCtrl
    ∷ row 0xC008561C 3 SCtrl
    ∷ row 0xC0445624 3 Queryctrl
    ∷ row 0xC02C563A 3 Cropcap
    ∷ row 0xC014563B 3 GCrop
    ∷ row 0x4014563C 1 SCrop
    ∷ row 0xC0745645 3 GSlicedVbiCap
    ∷ []

-- what stands past the end of the table
abbrev pub nothing : Known
nothing = row 0 0 Unknown

-- the row at a place, counted from 0
abbrev pub row_at : ℕ → Known
row_at k = get_or known_words k nothing

-- the call of the first row that has the word
abbrev pub call_among : ℕ → List Known → Call
call_among w [] = Unknown
call_among w (r ∷ rows) = cond (eqb r.word w) r.call (call_among w rows)

-- the call that a word stands for
unfoldable pub call_of : ℕ → Call
call_of w = call_among w known_words

-- what a word asks for: its call, and the length that the argument has to have
unfoldable pub request_of : ℕ → Request
request_of w = record { call = call_of w; size = argument_size (call_of w) }
