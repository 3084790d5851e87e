-- Machines that the claims leave no room for. Assumes nothing.
use mathlib.Core.Path.{◌≡◌, refl, sym, ap, ◌∙◌}
use mathlib.Core.Logic.{⊎_elim}
use mathlib.Core.Bool.{true}
use mathlib.Core.List.{List, [], ◌∷◌, ◌++◌}
use Prim.Native.Nat.{ℕ, ◌/◌}
use native.Mathlib.Omega.{arith}
use lib.ListN.{length, get_or, replicate, length-replicate}
use Rattle.wire_read.specs.Words.{word_at, le32, bytes_of}
use Rattle.wire_read.proofs.Parts.{part_at_law}
use Rattle.sheet_rules.specs.Folds.{all_below}
use Rattle.service_rules.specs.Services.{has}
use Rattle.service_rules.specs.Negotiation.{count_below}
use Rattle.ivtv_rules.specs.Services.{identifier_of, payload_of}
use Rattle.ivtv_rules.specs.Lines.{bit_of, record_bit, zeroed, line_of}
use Rattle.ivtv_rules.specs.Block.{itv0, joined, mask_below, opening_of, block_of, block_length}
use Rattle.ivtv_rules.specs.Writing.{record64, naming, good_lines, packable, lines_of}
use Rattle.ivtv_rules.specs.Reading.{same, mask_in, start_in, good_opening, good_body, readable}
use Rattle.claims_ivtv.specs.Flaws.LinesFlaw.{twice}
use Rattle.claims_ivtv.specs.Flaws.BlockFlaw.{not_zeroed, all_bits, other_length}
use Rattle.claims_ivtv.specs.Packer.{Packer}
use Rattle.claims_ivtv.specs.Meets.{Meets}
use Rattle.claims_ivtv.specs.Wrong.{Beyond, NeverPacks, NeverUnpacks, GivenOrder, KeepsBeyond, TakesTwice, SpoilsOutput, TakesFill, TakesAllSmall, OverlooksBeyond, Out, ShutOut}
use Rattle.claims_ivtv.proofs.Writer.{lines_sound}
use Rattle.claims_ivtv.proofs.Reader.{block_sound}
use Rattle.claims_ivtv.proofs.Meets.{refusal}

-- no records go into 12 bytes, and a block of no lines into none
no_records : packable [] 12 ≡ true
unfolding packable good_lines all_below block_length
no_records = refl

empty_block : List ℕ
empty_block = itv0 ++ replicate 8 0

no_lines : readable empty_block 0 ≡ true
unfolding readable empty_block same mask_in start_in good_opening good_body count_below has word_at all_below
no_lines = refl

-- so something must be taken
never_packs : Out NeverPacks
never_packs P n m = n [] (replicate 12 0) (m.writer_exact.accepts [] (replicate 12 0) (lines_sound [] 12 no_records))

never_unpacks : Out NeverUnpacks
never_unpacks P n m = n empty_block [] (m.reader_exact.accepts empty_block [] (block_sound empty_block 0 no_lines))

-- two records of the first field: line 8, and then line 7
abbrev line_with : ℕ → ℕ → List ℕ
line_with l x = bytes_of (1 ∷ 0 ∷ l ∷ 0 ∷ []) ++ x ∷ replicate 47 0

falling : List ℕ
falling = line_with 8 1 ++ line_with 7 2

falling_two : length falling / 64 ≡ 2
unfolding falling bytes_of le32
falling_two = refl

falling_packed : packable falling 98 ≡ true
unfolding packable good_lines all_below block_length falling bytes_of le32 naming record_bit bit_of word_at identifier_of
falling_packed = refl

-- in their block line 7 comes first, and not the first record
first_written : get_or (block_of (lines_of falling)) 13 0 ≡ 2
unfolding block_of opening_of joined mask_below count_below falling bytes_of le32 naming record_bit bit_of word_at identifier_of payload_of line_of zeroed
first_written = refl

first_given : get_or (line_of (record64 falling 0)) 1 0 ≡ 1
unfolding falling bytes_of le32 word_at identifier_of payload_of line_of zeroed
first_given = refl

given_order : Out GivenOrder
given_order P g m =
    let o : List ℕ = replicate 98 0 in
    let z = m.writer_exact.accepts falling o (lines_sound falling 98 falling_packed) in
    let b = (P.pack falling o).output in
    let e = sym (part_at_law 43 b 12 1 (omega arith)) ∙ ap (λ (l : List ℕ). get_or l 1 0) (g falling o falling_two z) ∙ first_given in
    omega (arith, e, ap (λ (l : List ℕ). get_or l 13 0) (m.writer_exact.writes falling o z) ∙ first_written)

-- a reader that meets the claims refuses a byte beyond the payload
beyond_refused : (P : Packer) → Meets P → (b o : List ℕ) → Beyond b → (P.unpack b o).number ≡ 22
beyond_refused P m b o y = (m.reader_exact.refuses b o (not_zeroed y.0 y.1 y.2 y.3 y.4 y.5)).0

-- so no block has one that it reads back
keeps_beyond : Out KeepsBeyond
keeps_beyond P k m =
    let q : List ℕ = replicate (length k.0) 0 in
    let z = (m.read_back k.0 k.1 q k.2 (length-replicate (length k.0) 0)).0 in
    omega (arith, z, beyond_refused P m (P.pack k.0 k.1).output q k.3)

-- the others take what has a flaw of the lists, or do more than to refuse
takes_twice : Out TakesTwice
takes_twice P k m = omega (arith, k.8, (m.writer_exact.refuses k.0 k.1 (twice k.2 k.3 k.4 k.5 k.6 k.7)).0)

spoils_output : Out SpoilsOutput
spoils_output P k m =
    ⊎_elim (λ d. d.1 (refusal (P.pack k.0 k.1) k.1 (λ n. d.0 (m.writer_exact.accepts k.0 k.1 (λ f. n (m.writer_exact.refuses k.0 k.1 f))))).1)
    (λ d. d.1 (refusal (P.unpack k.0 k.1) k.1 (λ n. d.0 (m.reader_exact.accepts k.0 k.1 (λ f. n (m.reader_exact.refuses k.0 k.1 f))))).1) k.2

takes_fill : Out TakesFill
takes_fill P k m = omega (arith, k.3, (m.reader_exact.refuses k.0 k.1 (other_length (λ e. omega (arith, k.2, e)))).0)

takes_all_small : Out TakesAllSmall
takes_all_small P k m = omega (arith, k.4, (m.reader_exact.refuses k.0 k.1 (all_bits k.2 k.3)).0)

overlooks_beyond : Out OverlooksBeyond
overlooks_beyond P k m = omega (arith, k.3, beyond_refused P m k.0 k.1 k.2)

pub shut_out : ShutOut
shut_out = record {
  never_packs = never_packs;
  never_unpacks = never_unpacks;
  given_order = given_order;
  keeps_beyond = keeps_beyond;
  takes_twice = takes_twice;
  spoils_output = spoils_output;
  takes_fill = takes_fill;
  takes_all_small = takes_all_small;
  overlooks_beyond = overlooks_beyond;
}
