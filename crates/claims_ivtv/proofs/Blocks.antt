-- Blocks: what a reader finds in the block of given lines. Assumes nothing.
use mathlib.Core.Path.{◌≡◌, refl, sym, ap, ◌∙◌}
use mathlib.Core.Bool.{Bool, true, false, cond, false≢true}
use mathlib.Core.List.{List, [], ◌∷◌, ◌++◌}
use Prim.Native.Nat.{ℕ, ◌+◌, ◌*◌, ◌-◌, ◌/◌, ◌%◌, ◌^◌, ◌≤◌, ◌<◌}
use native.Mathlib.Omega.{arith}
use borrow.Author.Tests.{eqb-true, eqb-false, lt-ltb}
use lib.Dec.{eqb}
use lib.ListN.{length}
use Rattle.wire_read.specs.Words.{word_at, bytes_of}
use Rattle.wire_read.proofs.Words.{length_bytes_of, word_drop, word_head}
use Rattle.sheet_rules.proofs.Truth.{all_of}
use Rattle.service_rules.specs.Negotiation.{count_below}
use Rattle.service_rules.proofs.Counts.{count_same}
use Rattle.service_rules.proofs.Ranks.{ranked}
use Rattle.ivtv_rules.specs.Lines.{good_line}
use Rattle.ivtv_rules.specs.Block.{Lines, some, joined, itv0, opening_of, line_count, line_mask, block_of}
use Rattle.ivtv_rules.specs.Reading.{same, mask_in, start_in, good_opening, bit_on, count_in, line_at, lines_in, good_body, readable}
use Rattle.ivtv_rules.proofs.Joined.{joined_same}
use Rattle.ivtv_rules.proofs.Masks.{mask_fits, mask_has, mask_same, mask_full, full_mask}
use Rattle.ivtv_rules.proofs.Pieces.{Wide, piece}
use Rattle.ivtv_rules.proofs.Taken.{there, block_split, readable_by}

-- Lines that can be packed: each that is there has 43 bytes and is good.
pub record Good (f : Lines) : Type 0 where
  pub sized : Wide 43 (there f) f 36
  pub sound : (k : ℕ) → k < 36 → there f k ≡ true → good_line (f k) ≡ true

-- nothing stands there
pub nothing : (l : List ℕ) → some l ≡ false → l ≡ []
nothing [] e = refl
nothing (x ∷ l) e = absurd (false≢true (sym e))

-- the block of lines that agree
pub block_same : (f g : Lines) → ((k : ℕ) → k < 36 → f k ≡ g k) → block_of f ≡ block_of g
unfolding block_of
block_same f g h =
    rw (
      count_same 36 (there f) (there g) (λ k l. ap some (h k l)),
      mask_same 36 (there f) (there g) (λ k l. ap some (h k l)),
      joined_same f g 36 h,
    )

-- ---- the opening

-- what a reader finds in a block that opens as the mask m of n lines makes it
record Opened (n m : ℕ) (b : List ℕ) : Type 0 where
  mask : mask_in b ≡ m
  start : start_in b ≡ length (opening_of n m)
  opening : good_opening b ≡ true

-- the two words behind itv0
abbrev words : ℕ → List ℕ
words m = m % 4294967296 ∷ m / 4294967296 ∷ []

-- a block that opens with them
abbrev masked : ℕ → List ℕ → List ℕ
masked m x = itv0 ++ (bytes_of (words m) ++ x)

masked_low : (m : ℕ) (x : List ℕ) → m < 2 ^ 36 → word_at (masked m x) 4 ≡ m % 4294967296
masked_low m x h = sym (word_drop (masked m x) 4 0) ∙ word_head (words m) x 0 (omega arith) (omega arith)

masked_high : (m : ℕ) (x : List ℕ) → m < 2 ^ 36 → word_at (masked m x) 8 ≡ m / 4294967296
masked_high m x h = sym (word_drop (masked m x) 4 4) ∙ word_head (words m) x 1 (omega arith) (omega arith)

masked_mask : (m : ℕ) (x : List ℕ) → m < 2 ^ 36 → word_at (masked m x) 4 + 4294967296 * word_at (masked m x) 8 ≡ m
masked_mask m x h = omega (arith, masked_low m x h, masked_high m x h)

opened : (n m : ℕ) (x : List ℕ) → m < 2 ^ 36 → (n ≡ 36 → m ≡ 2 ^ 36 - 1) → (m ≡ 2 ^ 36 - 1 → n ≡ 36) → Opened n m (opening_of n m ++ x)
unfolding opening_of mask_in start_in good_opening same
opened n m x h f g = by (eqb n 36) refl
  where
    by : (b : Bool) → eqb n 36 ≡ b → Opened n m (opening_of n m ++ x)
    by true e = record { mask = rw e (sym (f (eqb-true n 36 e))); start = rw e; opening = rw e }
    by false e =
        let d : m ≡ 68719476735 → ⊥ = λ q. eqb-false n 36 e (g q) in
        record {
          mask = rw e (masked_mask m x h);
          start = rw (e, length_bytes_of (words m));
          opening = rw (e, masked_mask m x h) (lt-ltb m 68719476735 (omega arith));
        }

-- ---- the block of given lines

module _ (f : Lines) where
  block_opened : Opened (line_count f) (line_mask f) (block_of f)
  unfolding block_of
  block_opened = opened (line_count f) (line_mask f) (joined f 36) (mask_fits 36 (there f)) (mask_full 36 (there f)) (full_mask 36 (there f))

  -- its mask has the bits of the lines that are there
  block_bit : (k : ℕ) → k < 36 → bit_on (mask_in (block_of f)) k ≡ there f k
  block_bit k h = rw block_opened.mask (mask_has 36 (there f) k h)

  -- so it names as many
  block_count : (n : ℕ) → n ≤ 36 → count_in (mask_in (block_of f)) n ≡ count_below n (there f)
  block_count n h = count_same n (bit_on (mask_in (block_of f))) (there f) (λ k l. block_bit k (omega arith))

  -- the next line is the line of the next bit
  block_line : Wide 43 (there f) f 36 → (k : ℕ) → k < 36 → there f k ≡ true → line_at (block_of f) (start_in (block_of f)) (count_below k (there f)) ≡ f k
  unfolding block_of
  block_line s k h e = piece 43 (there f) f 36 s (opening_of (line_count f) (line_mask f)) (start_in (block_of f)) (sym block_opened.start) k h e

  -- the lines found are those that were given
  pub block_lines : Good f → (k : ℕ) → k < 36 → lines_in (block_of f) k ≡ f k
  block_lines g k h = rw (block_bit k h, block_count k (omega arith)) (by (there f k) refl)
    where
      by : (b : Bool) → there f k ≡ b → cond b (line_at (block_of f) (start_in (block_of f)) (count_below k (there f))) [] ≡ f k
      by true e = block_line g.sized k h e
      by false e = sym (nothing (f k) e)

  -- each line is good
  block_body : Good f → good_body (block_of f) (start_in (block_of f)) (line_count f) ≡ true
  unfolding good_body
  block_body g =
      all_of (line_count f) (λ j. good_line (line_at (block_of f) (start_in (block_of f)) j))
      (λ j h. let r = ranked 36 (there f) j h in
      rw (← r.3, block_line g.sized r.0 r.1 r.2) (g.sound r.0 r.1 r.2))

  -- a reader takes the block
  pub block_readable : Good f → (m : ℕ) → m ≡ 64 * line_count f → readable (block_of f) m ≡ true
  block_readable g m e =
      let n = block_count 36 (omega arith) in
      readable_by (block_of f) m record {
        opening = block_opened.opening;
        long = rw (n, block_opened.start) (block_split f g.sized);
        room = rw n e;
        body = rw n (block_body g);
      }
