-- What is stored is the whole block. Assumes nothing.
use mathlib.Core.Path.{◌≡◌, refl, sym, ap, ap₂, ◌∙◌}
use mathlib.Core.Bool.{Bool, true, false, cond, not, false≢true}
use mathlib.Core.List.{List, [], ◌∷◌, ◌++◌}
use Prim.Native.Nat.{ℕ, ◌+◌, ◌*◌, ◌/◌, ◌%◌, ◌≤◌, ◌<◌}
use native.Mathlib.Omega.{arith}
use borrow.Author.Tests.{ltb-true, ltb-false}
use lib.Dec.{eqb, ltb}
use lib.ListN.{length, get_or, length-append}
use lib.Seq.{sets}
use Rattle.wire_read.proofs.Lists.{past_end}
use Rattle.wire_read.proofs.Stores.{sets_all}
use Rattle.wire_read.proofs.Tabs.{tab_get, tab_length}
use Rattle.ivtv_rules.specs.Block.{some, joined, opening_of, block_of, block_length}
use Rattle.ivtv_rules.specs.Writing.{naming, lines_of, packable}
use Rattle.ivtv_rules.specs.Reading.{bit_on}
use Rattle.ivtv_rules.proofs.Joined.{joined_same}
use Rattle.ivtv_rules.proofs.Masks.{mask_fits, mask_has, mask_same}
use Rattle.ivtv_rules.proofs.Bits.{bit_below}
use Rattle.ivtv_rules.proofs.Named.{named, naming_most}
use Rattle.ivtv_rules.proofs.Taken.{there, Packable, packable_parts, some_for, sized_for, lines_count, opening_long, block_long}
use Rattle.ivtv_writer.specs.Sorting.{SortedBy, kept_line, Room}

-- records that can be packed, sorted by their bits
module _ (s o places : List ℕ) (mask : ℕ) (t : packable s (length o) ≡ true) (b : SortedBy s (length s / 64) mask places) where
  kept : (k : ℕ) → k < 36 → get_or places k 0 ≡ naming s (length s / 64) k
  kept k h = rw b.placed (tab_get (naming s (length s / 64)) 36 k 0 h)

  -- the mask has the bits of the lines that are there
  bit_there : (k : ℕ) → k < 36 → bit_on mask k ≡ there (lines_of s) k
  bit_there k h = rw b.masked (mask_has 36 (named s (length s / 64)) k h) ∙ sym (some_for s (naming s (length s / 64) k))

  line_kept : (k : ℕ) → k < 36 → kept_line s mask places k ≡ lines_of s k
  line_kept k h = rw (kept k h, bit_there k h) (by (lines_of s k))
    where
      by : (l : List ℕ) → cond (some l) l [] ≡ l
      by [] = refl
      by (x ∷ l) = refl

  stored : opening_of (length s / 64) mask ++ joined (kept_line s mask places) 36 ≡ block_of (lines_of s)
  unfolding block_of
  stored =
      ap₂ ◌++◌
      (ap₂ opening_of (sym (lines_count s (packable_parts s (length o) t).good))
      (b.masked ∙ mask_same 36 (named s (length s / 64)) (there (lines_of s)) (λ k h. sym (some_for s (naming s (length s / 64) k)))))
      (joined_same (kept_line s mask places) (lines_of s) 36 line_kept)

  -- the output has their length
  filled : Packable s (length o) → length o ≡ length (block_of (lines_of s))
  filled p = p.room ∙ ap block_length (sym (lines_count s p.good)) ∙ sym (block_long (lines_of s) (λ k h. sized_for s (naming s (length s / 64) k)))

  -- what storing them asks for
  pub room_for : (x : List ℕ) → length x ≡ length o → Room x (cond (eqb (length s / 64) 36) 4 12) s places mask
  room_for x l =
      let n = length s / 64 in
      let p = packable_parts s (length o) t in
      let h : length (opening_of n mask) + length (joined (kept_line s mask places) 36) ≡ length o =
      sym (length-append (opening_of n mask) (joined (kept_line s mask places) 36)) ∙ ap length stored ∙ sym (filled p) in
      record {
        fits = omega (arith, l, h, opening_long n mask);
        bits = rw b.masked (mask_fits 36 (named s n));
        named = λ k e. place_named k (bit_below mask 36 k (rw b.masked (mask_fits 36 (named s n))) e) e;
        there = λ k. place_there k (ltb k 36) refl p.whole;
      }
    where
      place_named : (k : ℕ) → k < 36 → bit_on mask k ≡ true → 0 < get_or places k 0
      place_named k h e =
          let u : named s (length s / 64) k ≡ true = sym (some_for s (naming s (length s / 64) k)) ∙ sym (bit_there k h) ∙ e in
          let z : get_or places k 0 ≡ 0 → ⊥ = λ q. false≢true (sym (ap (λ (x : ℕ). not (eqb x 0)) (sym (kept k h) ∙ q)) ∙ u) in
          omega (arith, z)

      place_there : (k : ℕ) (c : Bool) → ltb k 36 ≡ c → length s % 64 ≡ 0 → 64 * get_or places k 0 ≤ length s
      place_there k true e w = omega (arith, kept k (ltb-true k 36 e), naming_most s (length s / 64) k)
      place_there k false e w = omega (arith, past_end places k (omega (arith, ltb-false k 36 e, ap length b.placed ∙ tab_length (naming s (length s / 64)) 36)))

  -- they fill the output
  pub whole_block : sets o 0 (opening_of (length s / 64) mask ++ joined (kept_line s mask places) 36) ≡ block_of (lines_of s)
  whole_block = ap (sets o 0) stored ∙ sets_all (block_of (lines_of s)) o (filled (packable_parts s (length o) t))
