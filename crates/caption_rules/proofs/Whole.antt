-- A frame is whole exactly if each of its records is as the rule says. Assumes nothing.
use mathlib.Core.Path.{◌≡◌, refl, sym, ◌∙◌}
use mathlib.Core.Bool.{Bool, true, false, cond, not, ◌&&◌, false≢true}
use mathlib.Core.List.{List}
use Prim.Native.Nat.{ℕ, ◌/◌, ◌%◌, ◌<◌}
use borrow.Author.Tests.{eqb-true, eq-eqb}
use lib.Dec.{eqb}
use lib.ListN.{length}
use Rattle.stream_words.specs.declared.Time.{Time}
use Rattle.sheet_rules.proofs.Truth.{both, denied, all_at, all_of, any_at, any_of_law}
use Rattle.picture_rules.specs.Picture.{in_second}
use Rattle.caption_rules.specs.Caption.{place_at, negotiated_at, seen_before, good_records, whole_caption, Whole}

three : (a b c : Bool) → cond a (cond b c false) false ≡ true → (a ≡ true) × (b ≡ true) × (c ≡ true)
three true true c e = (refl, refl, e)
three true false c e = absurd (false≢true e)
three false b c e = absurd (false≢true e)

-- the three tests
pub tests : (lines f : List ℕ) (t : Time) → whole_caption lines f t ≡ true
    → (in_second t.microseconds ≡ true) × (eqb (length f % 64) 0 ≡ true) × (good_records lines f (length f / 64) ≡ true)
unfolding whole_caption
tests lines f t w = three (in_second t.microseconds) (eqb (length f % 64) 0) (good_records lines f (length f / 64)) w

-- each record of a good row is negotiated, and its line new
pub good_at_law : (lines f : List ℕ) (n : ℕ) → good_records lines f n ≡ true → (i : ℕ) → i < n → (negotiated_at lines f i ≡ true) × (seen_before f i (place_at f i) ≡ false)
unfolding good_records
good_at_law lines f n g i h =
    let e = both (negotiated_at lines f i) (not (seen_before f i (place_at f i))) (all_at n (λ k. negotiated_at lines f k && not (seen_before f k (place_at f k))) g i h) in
    (e.0, denied (seen_before f i (place_at f i)) e.1)

module _ (f : List ℕ) where
  -- a line that was not seen before is no earlier record's, and the other way round
  new_place : (i j : ℕ) → i < j → seen_before f j (place_at f j) ≡ false → place_at f i ≡ place_at f j → ⊥
  unfolding seen_before
  new_place i j h s e = false≢true (sym s ∙ any_of_law j (λ k. eqb (place_at f k) (place_at f j)) i h (eq-eqb (place_at f i) (place_at f j) e))

  place_new : (j : ℕ) → ((i : ℕ) → i < j → place_at f i ≡ place_at f j → ⊥) → seen_before f j (place_at f j) ≡ false
  unfolding seen_before
  place_new j d = by (seen_before f j (place_at f j)) refl
    where
      by : (b : Bool) → seen_before f j (place_at f j) ≡ b → seen_before f j (place_at f j) ≡ false
      by true s =
          let r = any_at j (λ k. eqb (place_at f k) (place_at f j)) s in
          absurd (d r.0 r.1 (eqb-true (place_at f r.0) (place_at f j) r.2))
      by false s = s

pub whole_means : (lines f : List ℕ) (t : Time) → whole_caption lines f t ≡ true → Whole lines f t
whole_means lines f t w =
    let e = tests lines f t w in
    record {
      timely = e.0;
      even = eqb-true (length f % 64) 0 e.1;
      negotiated = λ i h. (good_at_law lines f (length f / 64) e.2 i h).0;
      distinct = λ i j h k. new_place f i j h (good_at_law lines f (length f / 64) e.2 j k).1;
    }

pub means_whole : (lines f : List ℕ) (t : Time) → Whole lines f t → whole_caption lines f t ≡ true
unfolding whole_caption good_records
means_whole lines f t w =
    let e : eqb (length f % 64) 0 ≡ true = eq-eqb (length f % 64) 0 w.even in
    let g : good_records lines f (length f / 64) ≡ true =
    all_of (length f / 64) (λ i. negotiated_at lines f i && not (seen_before f i (place_at f i)))
    (λ i h. rw (w.negotiated i h, place_new f i (λ k l. w.distinct k i l h))) in
    rw (w.timely, e, g)
