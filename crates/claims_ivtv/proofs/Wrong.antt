-- A machine for each fault. Assumes nothing.
use mathlib.Core.Path.{◌≡◌, refl}
use mathlib.Core.Logic.{inl}
use mathlib.Core.List.{List, [], ◌∷◌, ◌++◌}
use Prim.Native.Nat.{ℕ, ◌<◌}
use native.Mathlib.Omega.{arith}
use lib.ListN.{length, drop, replicate}
use lib.Seq.{take_all}
use Rattle.wire_read.specs.Words.{word_at}
use Rattle.service_rules.specs.Services.{has}
use Rattle.service_rules.specs.Negotiation.{count_below}
use Rattle.ivtv_rules.specs.Services.{payload_of}
use Rattle.ivtv_rules.specs.Lines.{line_of}
use Rattle.ivtv_rules.specs.Block.{itv0}
use Rattle.ivtv_rules.specs.Writing.{record64}
use Rattle.ivtv_rules.specs.Reading.{same, mask_in, start_in}
use Rattle.ivtv_rules.proofs.Stored.{length_line}
use Rattle.claims_ivtv.specs.Flaws.{lines_named, line_start}
use Rattle.claims_ivtv.specs.Wrong.{Beyond, GivenOrder, first_first, WrongPackers}

-- a block of one caption line, on line 6 of the first field, whose third byte is not zero; and a byte behind it
spoilt : List ℕ
spoilt = itv0 ++ 1 ∷ 0 ∷ 0 ∷ 0 ∷ 0 ∷ 0 ∷ 0 ∷ 0 ∷ 4 ∷ 1 ∷ 2 ∷ 3 ∷ []

beyond : Beyond spoilt
unfolding spoilt same mask_in start_in count_below has word_at payload_of
beyond = (0, 2, omega arith, omega arith, omega arith, λ e. omega (arith, e))

-- a block that names no line, with a byte behind it
filled : List ℕ
filled = itv0 ++ 0 ∷ 0 ∷ 0 ∷ 0 ∷ 0 ∷ 0 ∷ 0 ∷ 0 ∷ 9 ∷ []

too_long : line_start filled (lines_named filled) < length filled
unfolding filled same mask_in start_in count_below has word_at
too_long = omega arith

-- all 36 bits behind itv0
all_small : List ℕ
all_small = itv0 ++ 255 ∷ 255 ∷ 255 ∷ 255 ∷ 15 ∷ 0 ∷ 0 ∷ 0 ∷ []

first_first_law : GivenOrder first_first
first_first_law s o n e =
    take_all 43 (drop 12 (replicate 12 0 ++ line_of (record64 s 0))) (omega (arith, length_line (record64 s 0)))

pub wrong_packers : WrongPackers
unfolding all_small word_at
wrong_packers = record {
  never_packs = λ s o e. omega (arith, e);
  never_unpacks = λ s o e. omega (arith, e);
  given_order = first_first_law;
  keeps_beyond = ([], spoilt, refl, beyond);
  takes_twice = (replicate 128 0, [], 0, 1, omega arith, omega arith, refl, refl, refl);
  spoils_output = ([], 0 ∷ [], inl (λ e. omega (arith, e), λ e. let z : ◌≡◌ {A = ℕ} 0 1 = cc in omega arith));
  takes_fill = (filled, [], too_long, refl);
  takes_all_small = (all_small, [], refl, refl, refl);
  overlooks_beyond = (spoilt, [], beyond, refl);
}
