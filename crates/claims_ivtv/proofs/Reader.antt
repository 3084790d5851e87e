-- The reader takes exactly the blocks that have no flaw. Assumes nothing.
use mathlib.Core.Path.{◌≡◌, refl, sym, ap, ◌∙◌}
use mathlib.Core.Bool.{Bool, true, false, ◌&&◌, ◌||◌, false≢true}
use mathlib.Core.List.{List}
use Prim.Native.Nat.{ℕ, ◌+◌, ◌*◌, ◌-◌, ◌^◌, ◌≤◌, ◌<◌}
use native.Mathlib.Nat.{add-zero}
use native.Mathlib.Omega.{arith}
use borrow.Author.Tests.{lt-ltb}
use lib.Dec.{ltb}
use lib.ListN.{length, get_or, take}
use Rattle.wire_read.proofs.Parts.{part_at_law}
use Rattle.sheet_rules.proofs.Truth.{all_at, all_of}
use Rattle.ivtv_rules.specs.Lines.{good_line}
use Rattle.ivtv_rules.specs.Block.{itv0, ITV0, records_of}
use Rattle.ivtv_rules.specs.Reading.{opens, mask_in, start_in, good_opening, line_at, lines_in, good_body, readable, unpack_number, unpacked}
use Rattle.ivtv_rules.proofs.OneLine.{good_parts, good_by}
use Rattle.ivtv_rules.proofs.Openings.{same_equal, opens_with, small_mask, start_of_law, start_letters, start_below}
use Rattle.ivtv_rules.proofs.Taken.{Readable, readable_parts, readable_by}
use Rattle.claims_ivtv.specs.Flaws.{mask_words, lines_named, line_start, identifier_at, BlockFlaw}
use Rattle.claims_ivtv.specs.Flaws.BlockFlaw.{not_zeroed, other_opening, other_identifier, high_bit, all_bits, other_length, other_room}
use Rattle.claims_ivtv.specs.Packer.{our_packer}
use Rattle.claims_ivtv.specs.Meets.{Refused, ReaderExact}
use Rattle.claims_ivtv.proofs.Tests.{passes, fails, equals}

-- ---- lines

module _ (b : List ℕ) (j : ℕ) where
  -- the identifier of a line stands where the line begins, and the 42 bytes behind it
  first_byte : get_or (line_at b (start_in b) j) 0 0 ≡ identifier_at b j
  first_byte = part_at_law 43 b (line_start b j) 0 (omega arith) ∙ ap (λ (k : ℕ). get_or b k 0) (add-zero (line_start b j))

  later_byte : (x : ℕ) → x < 42 → get_or (line_at b (start_in b) j) (1 + x) 0 ≡ get_or b (line_start b j + 1 + x) 0
  later_byte x h = part_at_law 43 b (line_start b j) (1 + x) (omega arith) ∙ ap (λ (k : ℕ). get_or b k 0) (omega arith)

-- ---- the reader

module _ (b : List ℕ) (m : ℕ) where
  module _ (t : Readable b m) where
    -- each line that is taken
    line_taken : (j : ℕ) → j < lines_named b → good_line (line_at b (start_in b) j) ≡ true
    unfolding good_body
    line_taken = all_at (lines_named b) (λ j. good_line (line_at b (start_in b) j)) t.body

    -- the words behind itv0
    words_taken : take 4 b ≡ itv0 → mask_words b < 2 ^ 36 - 1
    words_taken e = rw (← small_mask b e) (start_below b (start_of_law b t.opening) e)

    -- and so it has no flaw
    no_flaw : BlockFlaw b m → ⊥
    no_flaw (not_zeroed j x h p l e) =
        e (sym (later_byte b j x l) ∙ (good_parts (line_at b (start_in b) j) (line_taken j h)).1 x (rw (first_byte b j) p) l)
    no_flaw (other_opening p q) = start_letters b (start_of_law b t.opening) p q
    no_flaw (other_identifier j h e) = (good_parts (line_at b (start_in b) j) (line_taken j h)).0 (rw (first_byte b j) e)
    no_flaw (high_bit e h) = omega (arith, words_taken e)
    no_flaw (all_bits e h) = omega (arith, words_taken e)
    no_flaw (other_length e) = e t.long
    no_flaw (other_room e) = e t.room

  pub block_sound : readable b m ≡ true → BlockFlaw b m → ⊥
  block_sound t = no_flaw (readable_parts b m t)

  module _ (none : BlockFlaw b m → ⊥) where
    -- without a flaw the mask behind itv0 is below that of all lines
    below_all : take 4 b ≡ itv0 → mask_words b < 2 ^ 36 - 1
    below_all e =
        let d : mask_words b ≡ 2 ^ 36 - 1 → ⊥ = λ q. none (all_bits e q) in
        let h : 2 ^ 36 ≤ mask_words b → ⊥ = λ q. none (high_bit e q) in
        omega arith

    -- the opening is good
    has_opening : good_opening b ≡ true
    unfolding good_opening
    has_opening = by (opens ITV0 b) refl
      where
        by : (x : Bool) → opens ITV0 b ≡ x → (x || opens itv0 b && ltb (mask_in b) (2 ^ 36 - 1)) ≡ true
        by true e = refl
        by false e =
            let u = passes (opens itv0 b) (λ f. none (other_opening (λ q. false≢true (sym f ∙ opens_with b itv0 q)) (λ q. false≢true (sym e ∙ opens_with b ITV0 q)))) in
            let q = same_equal itv0 (take 4 b) u in
            let v : ltb (mask_in b) (2 ^ 36 - 1) ≡ true = lt-ltb (mask_in b) (2 ^ 36 - 1) (rw (small_mask b q) (below_all q)) in
            rw (u, v)

    -- each line is
    has_line : (j : ℕ) → j < lines_named b → good_line (line_at b (start_in b) j) ≡ true
    has_line j h =
        good_by (line_at b (start_in b) j) (λ e. none (other_identifier j h (rw (first_byte b j) at e)))
        (λ x p l. later_byte b j x l ∙ equals (get_or b (line_start b j + 1 + x) 0) 0 (λ f. none (not_zeroed j x h (rw (first_byte b j) at p) l f)))

    -- so the block is taken
    pub block_complete : readable b m ≡ true
    unfolding good_body
    block_complete =
        readable_by b m record {
          opening = has_opening;
          long = equals (length b) (line_start b (lines_named b)) (λ e. none (other_length e));
          room = equals m (64 * lines_named b) (λ e. none (other_room e));
          body = all_of (lines_named b) (λ j. good_line (line_at b (start_in b) j)) has_line;
        }

-- what is given back where it is taken, and where not
pub unpack_taken : (b o : List ℕ) → readable b (length o) ≡ true → (unpack_number b (length o) ≡ 0) × (unpacked b o ≡ records_of (lines_in b))
unfolding unpack_number unpacked
unpack_taken b o t = (rw t, rw t)

pub unpack_refused : (b o : List ℕ) → readable b (length o) ≡ false → Refused (our_packer.unpack b o) o
unfolding unpack_number unpacked
unpack_refused b o t = (rw t, rw t)

pub reader_exact : ReaderExact our_packer
reader_exact = record {
  refuses = λ b o w. unpack_refused b o (fails (readable b (length o)) (λ t. block_sound b (length o) t w));
  accepts = λ b o n. (unpack_taken b o (block_complete b (length o) n)).0;
  writes = λ b o z. (unpack_taken b o (passes (readable b (length o)) (λ f. omega (arith, z, (unpack_refused b o f).0)))).1;
}
