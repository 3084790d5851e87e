-- The same lines, told from the bytes of records, and records in order. Assumes nothing.
use mathlib.Core.Path.{◌≡◌, refl, sym, ap, ◌∙◌}
use mathlib.Core.Bool.{Bool, true, false, false≢true}
use mathlib.Core.List.{List}
use Prim.Native.Nat.{ℕ, ◌+◌, ◌<◌}
use native.Mathlib.Omega.{arith}
use borrow.Author.Tests.{ltb-true, ltb-false}
use lib.Dec.{ltb}
use lib.ListN.{get_or}
use Rattle.wire_read.specs.Words.{word_at}
use Rattle.service_rules.specs.Negotiation.{count_below}
use Rattle.service_rules.proofs.Ranks.{count_later}
use Rattle.ivtv_rules.specs.Services.{identifier_of}
use Rattle.ivtv_rules.specs.Lines.{bit_of, line_of}
use Rattle.ivtv_rules.specs.Block.{Lines, some, records_of}
use Rattle.ivtv_rules.specs.Writing.{record64, good_lines, lines_of}
use Rattle.ivtv_rules.proofs.Named.{bit_at, good_at_law}
use Rattle.ivtv_rules.proofs.Services.{payload_most}
use Rattle.ivtv_rules.proofs.OneLine.{record_reserved, record_zeroed, Alike, alike_bit, alike_line, alike_by}
use Rattle.ivtv_rules.proofs.Taken.{there, some_line}
use Rattle.claims_ivtv.specs.Told.{record_count, service_at, field_at, line_number_at, SameLine, SameLines, Tidy}
use Rattle.claims_ivtv.proofs.Told.{service_at_law, field_at_law, line_at_law, reserved_at_law, data_at_law}
use Rattle.claims_ivtv.proofs.Writer.{bit_known, bit_good}
use Rattle.claims_ivtv.proofs.Blocks.{Good, nothing}
use Rattle.claims_ivtv.proofs.Records.{line_named, line_found, records_count, Ranked, record_ranked}

-- the line of a record is that of its bit
line_bit : (s : List ℕ) (i k : ℕ) → k < 36 → bit_at s i ≡ k → bit_of (field_at s i) (line_number_at s i) ≡ k
line_bit s i k h e = sym (bit_known s i (bit_good s i (rw e h)).0) ∙ e

-- ---- the same line

alike_sym : (r t : List ℕ) → Alike r t → Alike t r
alike_sym r t a = record {
  service = sym a.service;
  field = sym a.field;
  line = sym a.line;
  payload = λ x h. sym (a.payload x (rw (← a.service) at h));
}

module _ (s : List ℕ) (i : ℕ) (t : List ℕ) (j : ℕ) where
  alike_same : Alike (record64 s i) (record64 t j) → SameLine s i t j
  alike_same a = record {
    service = sym (service_at_law s i) ∙ a.service ∙ service_at_law t j;
    field = sym (field_at_law s i) ∙ a.field ∙ field_at_law t j;
    line = sym (line_at_law s i) ∙ a.line ∙ line_at_law t j;
    payload = λ x h.
        let l : x < 48 = omega (arith, payload_most (identifier_of (service_at s i))) in
        sym (data_at_law s i x l) ∙ a.payload x (rw (service_at_law s i) h) ∙ data_at_law t j x l;
  }

  same_alike : SameLine s i t j → Alike (record64 s i) (record64 t j)
  same_alike a = record {
    service = service_at_law s i ∙ a.service ∙ sym (service_at_law t j);
    field = field_at_law s i ∙ a.field ∙ sym (field_at_law t j);
    line = line_at_law s i ∙ a.line ∙ sym (line_at_law t j);
    payload = λ x h.
        let l : x < 48 = omega (arith, payload_most (identifier_of (word_at (record64 s i) 0))) in
        data_at_law s i x l ∙ a.payload x (rw (service_at_law s i) at h) ∙ sym (data_at_law t j x l);
  }

-- ---- the same lines

-- the line of a record of s is that of a record of t
partner : (s t : List ℕ) → good_lines s (record_count s) ≡ true → good_lines t (record_count t) ≡ true → ((k : ℕ) → k < 36 → lines_of s k ≡ lines_of t k)
    → (i : ℕ) → i < record_count s → (j : ℕ) × (j < record_count t) × Alike (record64 s i) (record64 t j)
partner s t g d e i l =
    let k = bit_at s i in
    let h : k < 36 = (good_at_law s (record_count s) g i l).0 in
    let n : lines_of s k ≡ line_of (record64 s i) = line_named s g i l in
    let r = line_found t d k (ap some (sym (e k h) ∙ n) ∙ some_line (record64 s i)) in
    (r.0, r.1, alike_by (record64 s i) (record64 t r.0) k h refl r.2 (sym n ∙ e k h ∙ ap (lines_of t) (sym r.2) ∙ line_named t d r.0 r.1))

module _ (s t : List ℕ) (g : good_lines s (record_count s) ≡ true) (d : good_lines t (record_count t) ≡ true) where
  -- rows of the same lines, by their bits, have the same lines
  pub same_lines : ((k : ℕ) → k < 36 → lines_of s k ≡ lines_of t k) → SameLines s t
  same_lines e = record {
    there = λ i l. let r = partner s t g d e i l in (r.0, r.1, alike_same s i t r.0 r.2);
    back = λ j l.
        let r = partner t s d g (λ k h. sym (e k h)) j l in
        (r.0, r.1, alike_same s r.0 t j (alike_sym (record64 t j) (record64 s r.0) r.2));
  }

  -- and the other way round
  pub lines_same : SameLines s t → (k : ℕ) → k < 36 → lines_of s k ≡ lines_of t k
  lines_same m k h = by (there (lines_of s) k) refl (there (lines_of t) k) refl
    where
      by : (a : Bool) → there (lines_of s) k ≡ a → (b : Bool) → there (lines_of t) k ≡ b → lines_of s k ≡ lines_of t k
      by true e b f =
          let r = line_found s g k e in
          let w = m.there r.0 r.1 in
          let a = same_alike s r.0 t w.0 w.2 in
          let q : bit_at t w.0 ≡ k = sym (alike_bit (record64 s r.0) (record64 t w.0) a) ∙ r.2 in
          ap (lines_of s) (sym r.2) ∙ line_named s g r.0 r.1 ∙ alike_line (record64 s r.0) (record64 t w.0) a
          ∙ sym (line_named t d w.0 w.1) ∙ ap (lines_of t) q
      by false e true f =
          let r = line_found t d k f in
          let w = m.back r.0 r.1 in
          let q : bit_at s w.0 ≡ k = alike_bit (record64 s w.0) (record64 t r.0) (same_alike s w.0 t r.0 w.2) ∙ r.2 in
          absurd (false≢true (sym e ∙ ap (there (lines_of s)) (sym q) ∙ ap some (line_named s g w.0 w.1) ∙ some_line (record64 s w.0)))
      by false e false f = nothing (lines_of s k) e ∙ sym (nothing (lines_of t k) f)

-- ---- records in order

module _ (f : Lines) (g : Good f) where
  rank_of : (i : ℕ) → i < record_count (records_of f) → Ranked f i
  rank_of i h = record_ranked f g i (omega (arith, records_count f))

  -- the records of good lines stand in the order of their bits, zeroed
  pub records_tidy : Tidy (records_of f)
  records_tidy = record {
    rising = λ i j h l.
        let r = rank_of i (omega arith) in
        let t = rank_of j l in
        rw (line_bit (records_of f) i r.bit r.below r.names, line_bit (records_of f) j t.bit t.below t.names)
        (by r.bit t.bit (omega (arith, r.rank, t.rank)) (ltb r.bit t.bit) refl);
    reserved = λ i h.
        let r = rank_of i h in
        sym (reserved_at_law (records_of f) i) ∙ ap (λ (l : List ℕ). word_at l 12) r.stands ∙ record_reserved r.bit (f r.bit);
    zeroed = λ i x h p l.
        let r = rank_of i h in
        sym (data_at_law (records_of f) i x l) ∙ ap (λ (l : List ℕ). get_or l (16 + x) 0) r.stands
        ∙ record_zeroed r.bit (f r.bit) (g.sound r.bit r.below r.present) x (rw (← (service_at_law (records_of f) i), r.stands) at p);
  }
    where
      by : (k m : ℕ) → count_below k (there f) < count_below m (there f) → (b : Bool) → ltb k m ≡ b → k < m
      by k m h true e = ltb-true k m e
      by k m h false e = absurd (omega (arith, count_later (there f) m k (ltb-false k m e)))
