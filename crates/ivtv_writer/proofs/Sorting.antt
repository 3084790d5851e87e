-- Records sorted by their bits, one after the other. Assumes nothing.
use mathlib.Core.Path.{◌≡◌, refl, sym, ap, ◌∙◌}
use mathlib.Core.Bool.{Bool, true, false, ◌&&◌}
use mathlib.Core.List.{List}
use Prim.Native.Nat.{ℕ, ◌+◌, ◌*◌, ◌-◌, ◌/◌, ◌%◌, ◌^◌, ◌≤◌, ◌<◌}
use native.Mathlib.Omega.{arith}
use native.Mathlib.Nat.{one-mul}
use lib.Pow.{shl_exact, pow_mono}
use borrow.Author.Tests.{eqb-true, eqb-false, eq-eqb, ne_eqb, lt-ltb, le-ltb}
use lib.Dec.{eqb}
use lib.ListN.{length, get_or, take, drop, set, replicate, length-set, length-replicate, get_or-replicate}
use lib.Seq.{get_or-set_same, get_or-set_other}
use Rattle.wire_read.specs.Lists.{tab}
use Rattle.wire_read.proofs.Tabs.{tab_length, tab_get, tab_is}
use Rattle.ivtv_rules.specs.Block.{block_length, mask_below}
use Rattle.ivtv_rules.specs.Writing.{record64, naming, good_lines, packable}
use Rattle.ivtv_rules.proofs.Named.{bit_at, named, naming_more, good_more, good_not, good_most}
use Rattle.ivtv_rules.proofs.Bits.{mask_joined}

-- the 64 bytes of record i, as they are cut out
pub cut : (s : List ℕ) (i : ℕ) → take (64 * i + 64 - 64 * i) (drop (64 * i) s) ≡ record64 s i
cut s i = let e : 64 * i + 64 - 64 * i ≡ 64 = omega arith in rw e

-- a bit below 36 is not lost
pub one_shifted : (k : ℕ) → k < 36 → (1 * 2 ^ k % 18446744073709551616 ≡ 2 ^ k) × (2 ^ k ≤ 68719476736)
one_shifted k h = (shl_exact 1 k 64 (omega arith) (omega arith) ∙ one-mul (2 ^ k), pow_mono {i = k} {j = 36} (omega arith))

-- no record yet
pub none_sorted : (s : List ℕ) → replicate 36 0 ≡ tab (naming s 0) 36
unfolding naming
none_sorted s = tab_is (replicate 36 0) 0 (naming s 0) 36 (length-replicate {A = ℕ} 36 0) (λ i h. get_or-replicate {A = ℕ} 36 i 0 0 h)

pub none_masked : (s : List ℕ) → 0 ≡ mask_below 36 (named s 0)
unfolding naming mask_below
none_masked s = refl

module _ (s places : List ℕ) (i k : ℕ) (e : places ≡ tab (naming s i) 36) (b : k ≡ bit_at s i) where
  -- what is kept at its bit
  pub kept_at : k < 36 → get_or places k 0 ≡ naming s i (bit_at s i)
  kept_at h = rw (e, tab_get (naming s i) 36 k 0 h, b)

  -- one record more
  pub one_sorted : k < 36 → set places k (i + 1) ≡ tab (naming s (i + 1)) 36
  one_sorted h =
      let l : length places ≡ 36 = ap length e ∙ tab_length (naming s i) 36 in
      tab_is (set places k (i + 1)) 0 (naming s (i + 1)) 36 (length-set places k (i + 1) ∙ l)
      (λ j m. naming_at j m l (eqb k j) refl)
    where
      naming_at : (j : ℕ) → j < 36 → length places ≡ 36 → (t : Bool) → eqb k j ≡ t → get_or (set places k (i + 1)) j 0 ≡ naming s (i + 1) j
      naming_at j m l true q =
          let r : k ≡ j = eqb-true k j q in
          rw (naming_more s i j, ← b, q, ← r) (get_or-set_same places k (i + 1) 0 (omega (arith, l)))
      naming_at j m l false q =
          rw (naming_more s i j, ← b, q)
          (get_or-set_other places k j (i + 1) 0 (λ r. eqb-false k j q (sym r)) ∙ rw (e, tab_get (naming s i) 36 j 0 m))

  -- its bit in the mask
  pub one_masked : (m : ℕ) → k < 36 → get_or places k 0 ≡ 0 → m ≡ mask_below 36 (named s i) → m + 2 ^ k ≡ mask_below 36 (named s (i + 1))
  one_masked m h z f =
      let u : named s i k ≡ false = rw (ap (naming s i) b ∙ sym (kept_at h) ∙ z) in
      let v : named s (i + 1) k ≡ true = rw (naming_more s i k, ← b, eq-eqb k k refl, ne_eqb (i + 1) 0 (λ q. omega arith)) in
      ap (λ (x : ℕ). x + 2 ^ k) f
      ∙ sym (mask_joined 36 (named s i) (named s (i + 1)) k h u v (λ j l d. rw (naming_more s i j, ← b, ne_eqb k j (λ q. d (sym q)))))

  -- a record without a line, or with one that another named, is not good; any other is
  pub no_line : 36 ≤ k → (n : ℕ) → i < n → good_lines s n ≡ false
  no_line h n l = good_not s n i l (rw (← b, le-ltb k 36 h))

  pub named_before : k < 36 → (get_or places k 0 ≡ 0 → ⊥) → (n : ℕ) → i < n → good_lines s n ≡ false
  named_before h d n l =
      let z : eqb (naming s i (bit_at s i)) 0 ≡ false = ne_eqb (naming s i (bit_at s i)) 0 (λ q. d (kept_at h ∙ q)) in
      good_not s n i l (rw (z, ← b, lt-ltb k 36 h))

  pub new_line : k < 36 → get_or places k 0 ≡ 0 → good_lines s i ≡ true → good_lines s (i + 1) ≡ true
  new_line h d g =
      let z : eqb (naming s i (bit_at s i)) 0 ≡ true = eq-eqb (naming s i (bit_at s i)) 0 (sym (kept_at h) ∙ d) in
      rw (good_more s i, g, z, ← b, lt-ltb k 36 h)

-- ---- what can be packed

second_fails : (a b c : Bool) → b ≡ false → (a && b && c) ≡ false
second_fails true b c e = rw e
second_fails false b c e = refl

third_fails : (a b c : Bool) → c ≡ false → (a && b && c) ≡ false
third_fails true true c e = e
third_fails true false c e = refl
third_fails false b c e = refl

module _ (s : List ℕ) (m : ℕ) where
  pub part_left : (length s % 64 ≡ 0 → ⊥) → packable s m ≡ false
  unfolding packable
  part_left d = rw (ne_eqb (length s % 64) 0 d)

  pub too_many : 36 < length s / 64 → packable s m ≡ false
  unfolding packable
  too_many h = second_fails (eqb (length s % 64) 0) (good_lines s (length s / 64)) (eqb m (block_length (length s / 64))) (by (good_lines s (length s / 64)) refl)
    where
      by : (t : Bool) → good_lines s (length s / 64) ≡ t → good_lines s (length s / 64) ≡ false
      by true g = absurd (omega (arith, good_most s (length s / 64) g))
      by false g = g

  pub other_length : (m ≡ block_length (length s / 64) → ⊥) → packable s m ≡ false
  unfolding packable
  other_length d = third_fails (eqb (length s % 64) 0) (good_lines s (length s / 64)) (eqb m (block_length (length s / 64))) (ne_eqb m (block_length (length s / 64)) d)

  pub by_records : length s % 64 ≡ 0 → m ≡ block_length (length s / 64) → good_lines s (length s / 64) ≡ packable s m
  unfolding packable
  by_records e f = rw (eq-eqb (length s % 64) 0 e, eq-eqb m (block_length (length s / 64)) f) (and_true (good_lines s (length s / 64)))
    where
      and_true : (t : Bool) → t ≡ (t && true)
      and_true true = refl
      and_true false = refl
