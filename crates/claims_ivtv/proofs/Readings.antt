-- Blocks that a reader takes: the lines found, and the block of those. Assumes nothing.
use mathlib.Core.Path.{◌≡◌, refl, sym, ap, ap₂, ◌∙◌}
use mathlib.Core.Bool.{Bool, true, false, cond}
use mathlib.Core.List.{List, [], ◌∷◌, ◌++◌}
use Prim.Native.Nat.{ℕ, ◌*◌, ◌-◌, ◌/◌, ◌%◌, ◌^◌, ◌≤◌, ◌<◌}
use native.Mathlib.Nat.{mod-eq_of_lt}
use native.Mathlib.Omega.{arith}
use borrow.Author.Tests.{eq-eqb, ne_eqb}
use lib.ListN.{length, take, drop, replicate, length-drop, take-append-drop}
use lib.Seq.{take_all, take-add, length-take-le}
use Rattle.wire_read.specs.Words.{word_at, bytes_of}
use Rattle.wire_read.proofs.Stores.{sets_all}
use Rattle.wire_read.proofs.Words.{word_fits, words_part}
use Rattle.sheet_rules.proofs.Truth.{all_at}
use Rattle.service_rules.proofs.Ranks.{count_rises}
use Rattle.ivtv_rules.specs.Lines.{good_line}
use Rattle.ivtv_rules.specs.Block.{joined, mask_below, opening_of, line_count, line_mask, block_of, block_length}
use Rattle.ivtv_rules.specs.Reading.{mask_in, start_in, bit_on, count_in, line_at, lines_in, good_body}
use Rattle.ivtv_rules.proofs.Masks.{mask_back, mask_same, mask_full, full_mask}
use Rattle.ivtv_rules.proofs.Pieces.{joined_pieces}
use Rattle.ivtv_rules.proofs.Openings.{Start, start_of_law, mask_most}
use Rattle.ivtv_rules.proofs.Openings.Start.{all, fewer}
use Rattle.ivtv_rules.proofs.Taken.{there, block_long, Readable, line_long, found_there, found_count}
use Rattle.claims_ivtv.specs.Told.{Bytes}
use Rattle.claims_ivtv.proofs.Blocks.{Good}

-- ---- the opening

-- the mask of its bits is the mask
mask_whole : (b : List ℕ) → Start b → mask_below 36 (bit_on (mask_in b)) ≡ mask_in b
mask_whole b s = mask_back 36 (mask_in b) ∙ mod-eq_of_lt (mask_most b s)

count_full : (b : List ℕ) → Start b → mask_in b ≡ 2 ^ 36 - 1 → count_in (mask_in b) 36 ≡ 36
count_full b s e = full_mask 36 (bit_on (mask_in b)) (mask_whole b s ∙ e)

count_fewer : (b : List ℕ) → Start b → mask_in b < 2 ^ 36 - 1 → count_in (mask_in b) 36 ≡ 36 → ⊥
count_fewer b s h e = omega (arith, sym (mask_whole b s) ∙ mask_full 36 (bit_on (mask_in b)) e)

-- the bytes of the two words behind the opening are those that stand there
words_back : (b : List ℕ) → Bytes b → 12 ≤ length b → bytes_of (word_at b 4 ∷ word_at b 8 ∷ []) ≡ take 8 (drop 4 b)
words_back b y h =
    let w : length (take 8 (drop 4 b)) ≡ 8 = length-take-le 8 (drop 4 b) (omega (arith, length-drop 4 b)) in
    words_part b y 4 2 ∙ sets_all (take 8 (drop 4 b)) (replicate 8 0) (sym w)

-- the opening that a writer makes of the mask is the block's
opening_back : (b : List ℕ) → Bytes b → Start b → start_in b ≤ length b → opening_of (count_in (mask_in b) 36) (mask_in b) ≡ take (start_in b) b
unfolding opening_of
opening_back b y (all s m l) h = rw (eq-eqb (count_in (mask_in b) 36) 36 (count_full b (all s m l) m), s) (sym l)
opening_back b y (fewer s m k l) h =
    let u : mask_in b % 4294967296 ≡ word_at b 4 = omega (arith, word_fits b 4 y) in
    let v : mask_in b / 4294967296 ≡ word_at b 8 = omega (arith, word_fits b 4 y) in
    rw (ne_eqb (count_in (mask_in b) 36) 36 (count_fewer b (fewer s m k l) k), u, v, s)
    (ap₂ ◌++◌ (sym l) (words_back b y (omega arith)) ∙ sym (take-add 4 8 b))

-- ---- the lines that are found

module _ (b : List ℕ) (m : ℕ) (t : Readable b m) where
  begun : Start b
  begun = start_of_law b t.opening

  found_mask : line_mask (lines_in b) ≡ mask_in b
  found_mask = mask_same 36 (there (lines_in b)) (bit_on (mask_in b)) (found_there b m t) ∙ mask_whole b begun

  -- they can be packed
  pub found_good : Good (lines_in b)
  unfolding good_body
  found_good = record {
    sized = λ k h. rw (found_there b m t k h) (by k h (bit_on (mask_in b) k) refl);
    sound = λ k h e.
        let f : bit_on (mask_in b) k ≡ true = sym (found_there b m t k h) ∙ e in
        rw f
        (all_at (count_in (mask_in b) 36) (λ j. good_line (line_at b (start_in b) j)) t.body (count_in (mask_in b) k) (count_rises (bit_on (mask_in b)) k 36 h f));
  }
    where
      by : (k : ℕ) → k < 36 → (a : Bool) → bit_on (mask_in b) k ≡ a → length (cond a (line_at b (start_in b) (count_in (mask_in b) k)) []) ≡ 43 * cond a 1 0
      by k h true e = line_long b m t k h e
      by k h false e = refl

  -- the block of the lines found is the block
  pub block_back : Bytes b → block_of (lines_in b) ≡ b
  unfolding block_of
  block_back y =
      let n = count_in (mask_in b) 36 in
      let a = start_in b in
      let j : joined (lines_in b) 36 ≡ drop a b =
      joined_pieces 43 a (bit_on (mask_in b)) b 36 ∙ take_all (43 * n) (drop a b) (omega (arith, t.long, length-drop a b)) in
      rw (found_count b m t, found_mask, j, opening_back b y begun (omega (arith, t.long))) (take-append-drop a b)

  -- so it has the length that a writer asks for
  pub found_length : Bytes b → length b ≡ block_length (line_count (lines_in b))
  found_length y = ap length (sym (block_back y)) ∙ block_long (lines_in b) found_good.sized
