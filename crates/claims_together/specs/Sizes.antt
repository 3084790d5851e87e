-- The sizes of pictures: TRY_FMT and S_FMT answer what a walk of the whole grid gives. Told from the calls and their answers; neither the
-- table nor the paper is used here, nor the arithmetic by which our device does it.
use Rattle.std.specs.Prelude.{ℕ, ◌≡◌, ◌⊎◌, List, length}
use Rattle.wire_read.specs.Words.{word_at}
use Rattle.ioctl_table.specs.Table.{request_of}
use Rattle.ioctl_table.specs.declared.table.Call.{Call as Asked}
use Rattle.ioctl_table.specs.declared.table.Call.TheVariants.{SFmt, TryFmt}
use Rattle.sheet_geometry.specs.Geometry.{widths_of, heights_of}
use Rattle.grid_rules.specs.Grid.{walk_sizes}
use Rattle.claims.specs.Calls.{Kind, type_of, Call}
use Rattle.claims.specs.Machine.{Session}
use Rattle.claims_together.specs.Waiting.{BuffersExist}

-- a format is tried or set
abbrev pub Negotiates : Asked → Type 0
Negotiates c = (c ≡ TryFmt) ⊎ (c ≡ SFmt)

pub record NearestSizes (s : List ℕ) (S : Session) : Type 0 where
  -- a device that was opened answers every TRY_FMT of pictures, whatever sizes it asks for
  pub tried : (cs : List Call) (w : ℕ) (a : List ℕ) → S.opening ≡ 0 → (request_of w).call ≡ TryFmt → length a ≡ 204 → word_at a 0 ≡ type_of Kind.pictures → (S.request cs w a).number ≡ 0
  -- and every S_FMT of pictures while they have no buffers
  pub set : (cs : List Call) (w : ℕ) (a : List ℕ) → S.opening ≡ 0 → (request_of w).call ≡ SFmt → length a ≡ 204 → word_at a 0 ≡ type_of Kind.pictures → (BuffersExist S Kind.pictures cs → ⊥)
      → (S.request cs w a).number ≡ 0
  -- the width that either answers is what a walk of the sheet's widths gives
  pub widths : (cs : List Call) (w : ℕ) (a : List ℕ) → Negotiates (request_of w).call → word_at a 0 ≡ type_of Kind.pictures → (S.request cs w a).number ≡ 0
      → word_at (S.request cs w a).argument 4 ≡ walk_sizes (widths_of s) (word_at a 4)
  -- and the height what a walk of its heights gives
  pub heights : (cs : List Call) (w : ℕ) (a : List ℕ) → Negotiates (request_of w).call → word_at a 0 ≡ type_of Kind.pictures → (S.request cs w a).number ≡ 0
      → word_at (S.request cs w a).argument 8 ≡ walk_sizes (heights_of s) (word_at a 8)
