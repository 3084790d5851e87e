-- Figures: frames where Caption 525 was negotiated, on line 21 of both fields. Assumes nothing.
use mathlib.Core.Path.{◌≡◌, refl}
use mathlib.Core.Bool.{Bool, true, false}
use mathlib.Core.List.{List, [], ◌∷◌, ◌++◌}
use Prim.Native.Nat.{ℕ}
use lib.IntN.{pos}
use lib.ListN.{replicate, take}
use Rattle.wire_read.specs.Words.{word_at, le32, bytes_of}
use Rattle.wire_read.specs.Lists.{tab, any}
use Rattle.sheet_rules.specs.Folds.{all_below, any_below}
use Rattle.service_rules.specs.Services.{has, set_of, offered_at}
use Rattle.service_rules.specs.Negotiation.{common, fitting_at, negotiated_lines}
use Rattle.caption_rules.specs.Caption.{negotiated_at, seen_before, good_records, whole_caption}

-- a record
abbrev one : ℕ → ℕ → ℕ → List ℕ
one id field line = bytes_of (id ∷ field ∷ line ∷ 0 ∷ []) ++ replicate 48 0

abbrev whole : List ℕ → Bool
whole f = whole_caption (negotiated_lines 0x1000 []) f (record { seconds = pos 0; microseconds = pos 0 })

-- no record; one; then the same line twice, no service, two bits, a service that is offered there and was not asked for, no such field, another line, a byte short
pub figures : (whole [] ≡ true) × (whole (one 0x1000 0 21) ≡ true)
    × (whole (one 0x1000 0 21 ++ one 0x1000 0 21) ≡ false) × (whole (one 0 0 21) ≡ false) × (whole (one 0x1001 0 21) ≡ false)
    × (whole (one 0x0001 0 21) ≡ false) × (whole (one 0x1000 2 21) ≡ false) × (whole (one 0x1000 0 22) ≡ false) × (whole (take 63 (one 0x1000 0 21)) ≡ false)
unfolding whole_caption good_records seen_before negotiated_at negotiated_lines fitting_at common offered_at set_of has all_below any_below tab any word_at le32 bytes_of
figures = (refl, refl, refl, refl, refl, refl, refl, refl, refl)
