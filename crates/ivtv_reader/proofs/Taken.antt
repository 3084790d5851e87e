-- Which blocks are taken, and the records that are stored. Assumes nothing.
use mathlib.Core.Path.{◌≡◌, refl, sym, ap, ◌∙◌}
use mathlib.Core.Bool.{Bool, true, false, cond}
use mathlib.Core.List.{List, [], ◌++◌}
use Prim.Native.Nat.{ℕ, ◌+◌, ◌*◌, ◌-◌, ◌%◌, ◌≤◌, ◌<◌}
use native.Mathlib.Omega.{arith}
use borrow.Author.Tests.{eq-eqb, ne_eqb}
use lib.ListN.{length, take, drop, length-drop, length-append}
use lib.Seq.{drop-drop, take_at, drop_at}
use Rattle.ivtv_rules.specs.Lines.{record_of}
use Rattle.ivtv_rules.specs.Block.{joined}
use Rattle.ivtv_rules.specs.Reading.{mask_in, start_in, good_opening, bit_on, count_in, line_at, good_body, readable}
use Rattle.ivtv_rules.proofs.Stored.{length_record}
use Rattle.service_rules.proofs.Counts.{count_same}
use Rattle.service_rules.proofs.Ranks.{count_rises}
use Rattle.ivtv_rules.proofs.Joined.{joined_length}
use Rattle.ivtv_rules.proofs.Bits.{bit_low}
use Rattle.ivtv_reader.specs.Stored.{record_in}

-- line j, as it is cut out
pub cut : (b : List ℕ) (start j : ℕ) → take (start + 43 * j + 43 - (start + 43 * j)) (drop (start + 43 * j) b) ≡ line_at b start j
cut b start j = let e : start + 43 * j + 43 - (start + 43 * j) ≡ 43 = omega arith in rw e

-- where the next 43 bytes are taken from those that are left, they are the next line
pub next_cut : (b r t : List ℕ) (start j : ℕ) → drop (start + 43 * j) b ≡ r ++ t → length r ≡ 43
    → (r ≡ line_at b start j) × (drop (start + 43 * (j + 1)) b ≡ t) × (start + 43 * (j + 1) ≤ length b)
next_cut b r t start j e l =
    let z : start + 43 * (j + 1) ≡ start + 43 * j + 43 = omega arith in (
      sym (ap (take 43) e ∙ take_at r t 43 l),
      ap (λ (n : ℕ). drop n b) z ∙ sym (drop-drop 43 (start + 43 * j) b) ∙ ap (drop 43) e ∙ drop_at r t 43 l,
      omega (arith, length-drop (start + 43 * j) b, ap length e, length-append r t, l),
    )

wide : (t : Bool) (k : ℕ) (l : List ℕ) → length (cond t (record_of k l) []) ≡ 64 * cond t 1 0
wide true k l = length_record k l
wide false k l = refl

-- the first n of them take 64 bytes for each bit that is set
pub records_length : (b : List ℕ) (start mask n : ℕ) → length (joined (record_in b start mask) n) ≡ 64 * count_in mask n
records_length b start mask n =
    joined_length 64 (bit_on mask) (record_in b start mask) n (λ k h. wide (bit_on mask k) k (line_at b start (count_in mask k)))

-- where the mask has no bit nothing is stored
pub none_in_law : (b : List ℕ) (start mask i : ℕ) → bit_on mask i ≡ false → record_in b start mask i ≡ []
none_in_law b start mask i e = rw e

-- of a mask only the 36 lowest bits count
pub counted_low : (mask n : ℕ) → n ≤ 36 → count_in (mask % 68719476736) n ≡ count_in mask n
counted_low mask n h = count_same n (bit_on (mask % 68719476736)) (bit_on mask) (λ k l. bit_low mask 36 k (omega arith))

-- a bit that is set has a line, behind as many as are set before it
pub next_line : (mask n j : ℕ) → n < 36 → bit_on mask n ≡ true → count_in mask n ≡ j → j < count_in mask 36
next_line mask n j h e q = rw (← q) (count_rises (bit_on mask) n 36 h e)

-- ---- what can be read

module _ (b : List ℕ) (m : ℕ) where
  pub bad_opening : good_opening b ≡ false → readable b m ≡ false
  unfolding readable
  bad_opening e = rw e

  pub other_length : good_opening b ≡ true → (length b ≡ start_in b + 43 * count_in (mask_in b) 36 → ⊥) → readable b m ≡ false
  unfolding readable
  other_length e d = rw (e, ne_eqb (length b) (start_in b + 43 * count_in (mask_in b) 36) d)

  pub other_room : good_opening b ≡ true → length b ≡ start_in b + 43 * count_in (mask_in b) 36 → (m ≡ 64 * count_in (mask_in b) 36 → ⊥) → readable b m ≡ false
  unfolding readable
  other_room e f d = rw (e, eq-eqb (length b) (start_in b + 43 * count_in (mask_in b) 36) f, ne_eqb m (64 * count_in (mask_in b) 36) d)

  pub by_lines : good_opening b ≡ true → length b ≡ start_in b + 43 * count_in (mask_in b) 36 → m ≡ 64 * count_in (mask_in b) 36
      → good_body b (start_in b) (count_in (mask_in b) 36) ≡ readable b m
  unfolding readable
  by_lines e f g = rw (e, eq-eqb (length b) (start_in b + 43 * count_in (mask_in b) 36) f, eq-eqb m (64 * count_in (mask_in b) 36) g)
