-- The records of a frame, one after the other, and the marks of the lines seen so far. Assumes nothing.
use mathlib.Core.Path.{◌≡◌, refl, sym, ap, ap₂, ◌∙◌}
use mathlib.Core.Bool.{Bool, true, false, not, ◌&&◌, ◌||◌}
use mathlib.Core.List.{List, ◌++◌}
use Prim.Native.Nat.{ℕ, ◌+◌, ◌*◌, ◌≤◌, ◌<◌}
use native.Mathlib.Omega.{arith}
use borrow.Author.Tests.{eqb-true, eqb-false, lt-ltb}
use lib.Dec.{eqb}
use lib.ListN.{length, get_or, take, drop, set, replicate, get_or-replicate}
use lib.ListN.{length-drop, length-append}
use lib.Seq.{drop-drop, take_at, drop_at, get_or-set_same, get_or-set_other}
use Rattle.wire_read.specs.Words.{word_at}
use Rattle.wire_read.proofs.Words.{word_part}
use Rattle.sheet_rules.specs.Folds.{any_below}
use Rattle.sheet_rules.proofs.Truth.{all_not}
use Rattle.sheet_rules.proofs.Folding.{all_more, any_more}
use Rattle.service_rules.specs.Services.{has}
use Rattle.caption_rules.specs.Caption.{is_service, id_at, place_of, place_at, negotiated_at, seen_before, good_records}

-- record i is negotiated, and its line new
abbrev good_at : List ℕ → List ℕ → ℕ → Bool
good_at lines f i = negotiated_at lines f i && not (seen_before f i (place_at f i))

-- the marks say which lines were seen
abbrev pub Marks : List ℕ → ℕ → List Bool → Type 0
Marks f i seen = (k : ℕ) → k < 48 → get_or seen k false ≡ seen_before f i k

-- the 64 bytes of record i
abbrev record_at : List ℕ → ℕ → List ℕ
record_at f i = take 64 (drop (64 * i) f)

-- where the next 64 bytes are taken from those that are left, they are the next record
pub next_record : (f r t : List ℕ) (i : ℕ) → drop (64 * i) f ≡ r ++ t → length r ≡ 64 → (r ≡ record_at f i) × (drop (64 * (i + 1)) f ≡ t) × (64 * (i + 1) ≤ length f)
next_record f r t i e l =
    let z : 64 * (i + 1) ≡ 64 * i + 64 = omega arith in (
      sym (ap (take 64) e ∙ take_at r t 64 l),
      ap (λ (n : ℕ). drop n f) z ∙ sym (drop-drop 64 (64 * i) f) ∙ ap (drop 64) e ∙ drop_at r t 64 l,
      omega (arith, length-drop (64 * i) f, ap length e, length-append r t, l),
    )

-- a word read in them alone
in_record : (f : List ℕ) (i k : ℕ) → k + 4 ≤ 64 → word_at (record_at f i) k ≡ word_at f (64 * i + k)
in_record f i k h = word_part f (64 * i) 64 k h

-- its place, and its service
pub place_read : (f : List ℕ) (i : ℕ) {r : List ℕ} {x y : ℕ} → r ≡ record_at f i → x ≡ word_at r 4 → y ≡ word_at r 8 → place_of x y ≡ place_at f i
place_read f i e x y =
    ap₂ place_of (x ∙ ap (λ (q : List ℕ). word_at q 4) e ∙ in_record f i 4 (omega arith)) (y ∙ ap (λ (q : List ℕ). word_at q 8) e ∙ in_record f i 8 (omega arith))

pub service_read : (f : List ℕ) (i : ℕ) {r : List ℕ} {x : ℕ} → r ≡ record_at f i → x ≡ word_at r 0 → x ≡ id_at f i
service_read f i e x =
    let z : 64 * i + 0 ≡ 64 * i = omega arith in
    x ∙ ap (λ (q : List ℕ). word_at q 0) e ∙ in_record f i 0 (omega arith) ∙ ap (word_at f) z

or_true : (x : Bool) → (x || true) ≡ true
or_true true = refl
or_true false = refl

pub or_false : (x : Bool) → (x || false) ≡ x
or_false true = refl
or_false false = refl

module _ (lines f : List ℕ) where
  -- one record more
  good_more : (i : ℕ) → good_records lines f i ≡ true → good_at lines f i ≡ true → good_records lines f (i + 1) ≡ true
  unfolding good_records
  good_more i g e = all_more i (good_at lines f) ∙ rw (g, e)

  -- a bad record
  bad_one : (n i : ℕ) → i < n → good_at lines f i ≡ false → good_records lines f n ≡ false
  unfolding good_records
  bad_one n i h e = all_not n (good_at lines f) i h e

-- what the code tests of a record is what the rule asks of it
module _ (lines f : List ℕ) (seen : List Bool) (i p id : ℕ) (b : Bool) (ep : p ≡ place_at f i) (ei : id ≡ id_at f i) (m : Marks f i seen)
    (h : p < 48) (eb : b ≡ (is_service id && has (get_or lines p 0) id)) where
  told : good_at lines f i ≡ not (get_or seen p false || not b)
  unfolding negotiated_at
  told = rw (← ep, ← ei, lt-ltb p 48 h, ← eb, ← m p h) (by b (get_or seen p false))
    where
      by : (x y : Bool) → (x && not y) ≡ not (y || not x)
      by true true = refl
      by true false = refl
      by false true = refl
      by false false = refl

  pub refused : (get_or seen p false || not b) ≡ true → (n : ℕ) → i < n → false ≡ good_records lines f n
  refused t n l = sym (bad_one lines f n i l (rw t at told))

  pub taken : (get_or seen p false || not b) ≡ false → good_records lines f i ≡ true → good_records lines f (i + 1) ≡ true
  taken t g = good_more lines f i g (rw t at told)

-- a record that has no place is bad
pub unplaced : (lines f : List ℕ) (i : ℕ) → place_at f i ≡ 48 → (n : ℕ) → i < n → false ≡ good_records lines f n
unfolding negotiated_at
unplaced lines f i e n l = sym (bad_one lines f n i l (rw e))

-- no line is seen before the first record
pub none_marked : (f : List ℕ) → Marks f 0 (replicate 48 false)
unfolding seen_before any_below
none_marked f k h = get_or-replicate 48 k false false h

-- the line of record i is marked
pub one_marked : (f : List ℕ) (seen : List Bool) (i p : ℕ) → p ≡ place_at f i → p < length seen → Marks f i seen → Marks f (i + 1) (set seen p true)
unfolding seen_before
one_marked f seen i p e h m k l = rw (any_more, ← e) (by (eqb p k) refl)
  where
    by : (b : Bool) → eqb p k ≡ b → get_or (set seen p true) k false ≡ (any_below i (λ j. eqb (place_at f j) k) || b)
    by true t =
        let q : p ≡ k = eqb-true p k t in
        rw (← q, get_or-set_same seen p true false h) (sym (or_true (any_below i (λ j. eqb (place_at f j) p))))
    by false t = rw (get_or-set_other seen p k true false (λ q. eqb-false p k t (sym q)), or_false) (m k l)
