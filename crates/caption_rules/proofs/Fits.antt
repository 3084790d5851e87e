-- A whole frame is never longer than the io size. Assumes nothing.
use mathlib.Core.Path.{◌≡◌, refl, sym}
use mathlib.Core.Bool.{Bool, true, false, not, ◌&&◌, false≢true}
use mathlib.Core.List.{List}
use Prim.Native.Nat.{ℕ, zero, suc, ◌/◌, ◌%◌, ◌≤◌, ◌<◌}
use native.Mathlib.Omega.{arith}
use native.Mathlib.Nat.{zero-div}
use borrow.Author.Tests.{eqb-true, eq-eqb, ne_eqb, ltb-true, le-leb}
use lib.Dec.{eqb, leb, ltb}
use lib.ListN.{length, get_or}
use Rattle.stream_words.specs.declared.Time.{Time}
use Rattle.sheet_rules.specs.Folds.{all_below, any_below}
use Rattle.sheet_rules.proofs.Truth.{both, any_at, any_of_law}
use Rattle.service_rules.specs.Services.{has}
use Rattle.service_rules.specs.Negotiation.{count_below, io_size}
use Rattle.service_rules.proofs.Counts.{count_none, count_joined, count_weaker}
use Rattle.caption_rules.specs.Caption.{is_service, id_at, place_at, negotiated_at, seen_before, good_records, whole_caption}
use Rattle.caption_rules.proofs.Records.{or_false}
use Rattle.caption_rules.proofs.Whole.{tests, good_at_law}

-- an empty set has no service
has_some : (set id : ℕ) → has set id ≡ true → not (eqb set 0) ≡ true
unfolding has
has_some set id h = by (eqb set 0) refl
  where
    by : (b : Bool) → eqb set 0 ≡ b → not (eqb set 0) ≡ true
    by true e = absurd (false≢true (rw (eqb-true set 0 e, zero-div) at h))
    by false e = rw e

module _ (lines f : List ℕ) where
  -- what a negotiated record says of its place
  placed : (i : ℕ) → negotiated_at lines f i ≡ true → (place_at f i < 48) × (not (eqb (get_or lines (place_at f i) 0) 0) ≡ true)
  unfolding negotiated_at
  placed i h =
      let e = both (ltb (place_at f i) 48) (is_service (id_at f i) && has (get_or lines (place_at f i) 0) (id_at f i)) h in
      (ltb-true (place_at f i) 48 e.0, has_some (get_or lines (place_at f i) 0) (id_at f i) (both (is_service (id_at f i)) (has (get_or lines (place_at f i) 0) (id_at f i)) e.1).1)

  -- n good records have n lines
  as_many : (n : ℕ) → good_records lines f n ≡ true → count_below 48 (seen_before f n) ≡ n
  unfolding good_records all_below seen_before any_below
  as_many zero g = count_none 48 (λ k. false) (λ k h. refl)
  as_many (suc n) g =
      let e = good_at_law lines f (suc n) g n (omega arith) in
      let i = as_many n (both (good_records lines f n) (negotiated_at lines f n && not (seen_before f n (place_at f n))) g).0 in
      let j = count_joined 48 (seen_before f n) (seen_before f (suc n)) (place_at f n) (placed n e.0).0 e.1
      (any_of_law (suc n) (λ k. eqb (place_at f k) (place_at f n)) n (omega arith) (eq-eqb (place_at f n) (place_at f n) refl))
      (λ k h d. rw (ne_eqb (place_at f n) k (λ q. d (sym q)), or_false)) in
      omega (arith, i, j)

  -- the line of a good record carries something
  seen_carries : (n : ℕ) → good_records lines f n ≡ true → (k : ℕ) → seen_before f n k ≡ true → not (eqb (get_or lines k 0) 0) ≡ true
  unfolding seen_before
  seen_carries n g k s =
      let r = any_at n (λ j. eqb (place_at f j) k) s in
      let q : place_at f r.0 ≡ k = eqb-true (place_at f r.0) k r.2 in
      rw q at (placed r.0 (good_at_law lines f n g r.0 r.1).0).1

pub caption_fits : (lines f : List ℕ) (t : Time) → whole_caption lines f t ≡ true → length f ≤ io_size lines
unfolding io_size
caption_fits lines f t w =
    let e = tests lines f t w in
    let n = length f / 64 in
    omega (
      arith,
      eqb-true (length f % 64) 0 e.1,
      as_many lines f n e.2,
      count_weaker 48 (seen_before f n) (λ k. not (eqb (get_or lines k 0) 0)) (λ k h s. seen_carries lines f n e.2 k s),
    )

-- so a test of the length adds nothing
pub caption_short : (lines f : List ℕ) (t : Time) → (whole_caption lines f t && leb (length f) (io_size lines)) ≡ whole_caption lines f t
caption_short lines f t = by (whole_caption lines f t) refl
  where
    by : (b : Bool) → whole_caption lines f t ≡ b → (whole_caption lines f t && leb (length f) (io_size lines)) ≡ whole_caption lines f t
    by true w = rw (w, le-leb (length f) (io_size lines) (caption_fits lines f t w))
    by false w = rw w
