-- One line, as a record and as a line of a block. Assumes nothing.
use mathlib.Core.Path.{◌≡◌, refl, sym, ap, ◌∙◌}
use mathlib.Core.Bool.{Bool, true, false, cond, not, ◌&&◌}
use mathlib.Core.List.{List}
use Prim.Native.Nat.{ℕ, zero, suc, ◌+◌, ◌*◌, ◌-◌, ◌/◌, ◌%◌, ◌≤◌, ◌<◌}
use native.Mathlib.Numerals.{one-add}
use native.Mathlib.Omega.{arith}
use borrow.Author.Tests.{eqb-true, eqb-false, eq-eqb, ne_eqb, ltb-true, ltb-false, lt-ltb, leb-true, le-leb}
use lib.Dec.{eqb, leb, ltb}
use lib.ListN.{length, get_or, take, drop, length-take}
use lib.Seq.{ext_get_or, get_or-take, get_or-drop, get_or-append-add}
use Rattle.wire_read.specs.Words.{word_at, bytes_of}
use Rattle.wire_read.proofs.Lists.{past_end}
use Rattle.wire_read.proofs.Stores.{byte_over_zeros}
use Rattle.wire_read.proofs.Words.{length_bytes_of, word_head}
use Rattle.sheet_rules.specs.Folds.{all_below}
use Rattle.sheet_rules.proofs.Truth.{both, denied, all_at, all_of}
use Rattle.ivtv_rules.specs.Services.{identifier_of, service_of, payload_of}
use Rattle.ivtv_rules.specs.Lines.{bit_of, record_bit, zeroed, line_of, record_of, good_line}
use Rattle.ivtv_rules.proofs.Services.{payload_most}
use Rattle.ivtv_rules.proofs.Stored.{head_of, length_line}
use Rattle.ivtv_rules.proofs.Identifiers.{service_back, identifier_back, identified, served, service_fits}

-- ---- bytes with zeros behind them

zeroed_at : (n p : ℕ) (l : List ℕ) (j : ℕ) → p ≤ n → get_or (zeroed n p l) j 0 ≡ get_or (take p l) j 0
unfolding zeroed
zeroed_at n p l j h = byte_over_zeros (take p l) n (omega (arith, length-take p l)) j

zeroed_in : (n p : ℕ) (l : List ℕ) (j : ℕ) → p ≤ n → j < p → get_or (zeroed n p l) j 0 ≡ get_or l j 0
zeroed_in n p l j h k = zeroed_at n p l j h ∙ get_or-take p l j 0 k

zeroed_out : (n p : ℕ) (l : List ℕ) (j : ℕ) → p ≤ n → p ≤ j → get_or (zeroed n p l) j 0 ≡ 0
zeroed_out n p l j h k = zeroed_at n p l j h ∙ past_end (take p l) j (omega (arith, length-take p l))

-- ---- the bit of a line

-- of a line that can be packed
pub bit_inside : (f l : ℕ) → f < 2 → 6 ≤ l → l ≤ 23 → bit_of f l ≡ 18 * f + l - 6
unfolding bit_of
bit_inside f l a b c = rw (lt-ltb f 2 a, le-leb 6 l b, le-leb l 23 c)

-- bit k is that of its field and its line
bit_of_law : (k : ℕ) → k < 36 → bit_of (k / 18) (6 + k % 18) ≡ k
bit_of_law k h = bit_inside (k / 18) (6 + k % 18) (omega arith) (omega arith) (omega arith) ∙ omega arith

-- and of no others
pub bit_parts : (f l k : ℕ) → bit_of f l ≡ k → k < 36 → (f ≡ k / 18) × (l ≡ 6 + k % 18)
unfolding bit_of
bit_parts f l k e h = by (ltb f 2) (leb 6 l) (leb l 23) refl refl refl e
  where
    by : (a b c : Bool) → ltb f 2 ≡ a → leb 6 l ≡ b → leb l 23 ≡ c → cond (a && (b && c)) (18 * f + l - 6) 36 ≡ k → (f ≡ k / 18) × (l ≡ 6 + k % 18)
    by true true true ea eb ec q =
        let u = ltb-true f 2 ea in
        let v = leb-true 6 l eb in
        let w = leb-true l 23 ec in
        (omega arith, omega arith)
    by true true false ea eb ec q = absurd (omega arith)
    by true false c ea eb ec q = absurd (omega arith)
    by false b c ea eb ec q = absurd (omega arith)

-- a record that names a bit has a service, and that bit's field and line
pub named_parts : (r : List ℕ) (k : ℕ) → record_bit r ≡ k → k < 36 → (identifier_of (word_at r 0) ≡ 0 → ⊥) × (word_at r 4 ≡ k / 18) × (word_at r 8 ≡ 6 + k % 18)
unfolding record_bit
named_parts r k e h = by (eqb (identifier_of (word_at r 0)) 0) refl e
  where
    by : (b : Bool) → eqb (identifier_of (word_at r 0)) 0 ≡ b → cond b 36 (bit_of (word_at r 4) (word_at r 8)) ≡ k
        → (identifier_of (word_at r 0) ≡ 0 → ⊥) × (word_at r 4 ≡ k / 18) × (word_at r 8 ≡ 6 + k % 18)
    by true q f = absurd (omega arith)
    by false q f = let p = bit_parts (word_at r 4) (word_at r 8) k f h in (eqb-false (identifier_of (word_at r 0)) 0 q, p.0, p.1)

-- ---- a record that was made of a line

module _ (k : ℕ) (l : List ℕ) where
  record_service : word_at (record_of k l) 0 ≡ service_of (get_or l 0 0)
  unfolding record_of
  record_service = word_head (head_of k l) (zeroed 48 42 (drop 1 l)) 0 (omega arith) (service_fits (get_or l 0 0))

  record_field : k < 36 → word_at (record_of k l) 4 ≡ k / 18
  unfolding record_of
  record_field h = word_head (head_of k l) (zeroed 48 42 (drop 1 l)) 1 (omega arith) (omega arith)

  record_line : word_at (record_of k l) 8 ≡ 6 + k % 18
  unfolding record_of
  record_line = word_head (head_of k l) (zeroed 48 42 (drop 1 l)) 2 (omega arith) (omega arith)

  pub record_reserved : word_at (record_of k l) 12 ≡ 0
  unfolding record_of
  record_reserved = word_head (head_of k l) (zeroed 48 42 (drop 1 l)) 3 (omega arith) (omega arith)

  record_byte : (x : ℕ) → get_or (record_of k l) (16 + x) 0 ≡ get_or (zeroed 48 42 (drop 1 l)) x 0
  unfolding record_of
  record_byte x =
      let n : length (bytes_of (head_of k l)) ≡ 16 = length_bytes_of (head_of k l) in
      rw (← n) (get_or-append-add (bytes_of (head_of k l)) (zeroed 48 42 (drop 1 l)) x 0)

  record_data : (x : ℕ) → x < 42 → get_or (record_of k l) (16 + x) 0 ≡ get_or l (1 + x) 0
  record_data x h = record_byte x ∙ zeroed_in 48 42 (drop 1 l) x (omega arith) h ∙ get_or-drop 1 l x 0

  record_rest : (x : ℕ) → 42 ≤ x → get_or (record_of k l) (16 + x) 0 ≡ 0
  record_rest x h = record_byte x ∙ zeroed_out 48 42 (drop 1 l) x (omega arith) h

  -- it names its bit
  pub record_bit_law : k < 36 → (service_of (get_or l 0 0) ≡ 0 → ⊥) → record_bit (record_of k l) ≡ k
  unfolding record_bit
  record_bit_law h s =
      rw (record_service, record_field h, record_line, ne_eqb (identifier_of (service_of (get_or l 0 0))) 0 (served (get_or l 0 0) s)) (bit_of_law k h)

-- ---- good lines

-- what a good line is: a known identifier, and zeros beyond the payload
pub good_parts : (l : List ℕ) → good_line l ≡ true → (service_of (get_or l 0 0) ≡ 0 → ⊥) × ((x : ℕ) → payload_of (get_or l 0 0) ≤ x → x < 42 → get_or l (1 + x) 0 ≡ 0)
unfolding good_line
good_parts l g =
    let i = get_or l 0 0 in
    let p = payload_of i in
    let e = both (not (eqb (service_of i) 0)) (all_below (42 - p) (λ j. eqb (get_or l (1 + p + j) 0) 0)) g in (
      eqb-false (service_of i) 0 (denied (eqb (service_of i) 0) e.0),
      λ x h m.
          let q : 1 + p + (x - p) ≡ 1 + x = omega arith in
          rw q at (eqb-true (get_or l (1 + p + (x - p)) 0) 0 (all_at (42 - p) (λ j. eqb (get_or l (1 + p + j) 0) 0) e.1 (x - p) (omega arith))),
    )

-- and these two make it good
pub good_by : (l : List ℕ) → (service_of (get_or l 0 0) ≡ 0 → ⊥) → ((x : ℕ) → payload_of (get_or l 0 0) ≤ x → x < 42 → get_or l (1 + x) 0 ≡ 0) → good_line l ≡ true
unfolding good_line
good_by l f g =
    let p = payload_of (get_or l 0 0) in
    rw (ne_eqb (service_of (get_or l 0 0)) 0 f)
    (all_of (42 - p) (λ j. eqb (get_or l (1 + p + j) 0) 0)
    (λ j h. let e : 1 + p + j ≡ 1 + (p + j) = omega arith in rw e (eq-eqb (get_or l (1 + (p + j)) 0) 0 (g (p + j) (omega arith) (omega arith)))))

-- the record of a good line has zeros beyond the payload
pub record_zeroed : (k : ℕ) (l : List ℕ) → good_line l ≡ true → (x : ℕ) → payload_of (identifier_of (word_at (record_of k l) 0)) ≤ x → get_or (record_of k l) (16 + x) 0 ≡ 0
record_zeroed k l g x h = by (ltb x 42) refl
  where
    by : (b : Bool) → ltb x 42 ≡ b → get_or (record_of k l) (16 + x) 0 ≡ 0
    by true e =
        let q = good_parts l g in
        let m = ltb-true x 42 e in
        record_data k l x m ∙ q.1 x (rw (record_service k l, identifier_back (get_or l 0 0) q.0) at h) m
    by false e = record_rest k l x (ltb-false x 42 e)

-- ---- a line that was made of a record

module _ (r : List ℕ) where
  line_first : get_or (line_of r) 0 0 ≡ identifier_of (word_at r 0)
  unfolding line_of
  line_first = refl

  line_byte : (x : ℕ) → get_or (line_of r) (1 + x) 0 ≡ get_or (zeroed 42 (payload_of (identifier_of (word_at r 0))) (drop 16 r)) x 0
  unfolding line_of
  line_byte x = rw one-add

  line_data : (x : ℕ) → x < payload_of (identifier_of (word_at r 0)) → get_or (line_of r) (1 + x) 0 ≡ get_or r (16 + x) 0
  line_data x h =
      let p = payload_of (identifier_of (word_at r 0)) in
      line_byte x ∙ zeroed_in 42 p (drop 16 r) x (payload_most (identifier_of (word_at r 0))) h ∙ get_or-drop 16 r x 0

  line_rest : (x : ℕ) → payload_of (identifier_of (word_at r 0)) ≤ x → get_or (line_of r) (1 + x) 0 ≡ 0
  line_rest x h =
      let p = payload_of (identifier_of (word_at r 0)) in
      line_byte x ∙ zeroed_out 42 p (drop 16 r) x (payload_most (identifier_of (word_at r 0))) h

  -- it is good
  pub line_good : (identifier_of (word_at r 0) ≡ 0 → ⊥) → good_line (line_of r) ≡ true
  line_good h = good_by (line_of r) (rw line_first (identified (word_at r 0) h)) (λ x p m. line_rest x (rw line_first at p))

-- ---- there and back

-- bytes by the first and the others
by_bytes : (a b : List ℕ) (n : ℕ) → length a ≡ suc n → length b ≡ suc n → get_or a 0 0 ≡ get_or b 0 0
    → ((x : ℕ) → x < n → get_or a (1 + x) 0 ≡ get_or b (1 + x) 0) → a ≡ b
by_bytes a b n e f h t = ext_get_or 0 a b (e ∙ sym f) each
  where
    each : (i : ℕ) → i < length a → get_or a i 0 ≡ get_or b i 0
    each zero l = h
    each (suc i) l = rw one-add at (t i (omega arith))

-- a good line is the line of its record
pub line_back : (k : ℕ) (l : List ℕ) → good_line l ≡ true → length l ≡ 43 → line_of (record_of k l) ≡ l
line_back k l g e =
    let r = record_of k l in
    let q = good_parts l g in
    let i : identifier_of (word_at r 0) ≡ get_or l 0 0 = ap identifier_of (record_service k l) ∙ identifier_back (get_or l 0 0) q.0 in
    by_bytes (line_of r) l 42 (length_line r) e (line_first r ∙ i) (λ x h. by x h i q.1 (ltb x (payload_of (get_or l 0 0))) refl)
  where
    by : (x : ℕ) → x < 42 → identifier_of (word_at (record_of k l) 0) ≡ get_or l 0 0 → ((y : ℕ) → payload_of (get_or l 0 0) ≤ y → y < 42 → get_or l (1 + y) 0 ≡ 0)
        → (b : Bool) → ltb x (payload_of (get_or l 0 0)) ≡ b → get_or (line_of (record_of k l)) (1 + x) 0 ≡ get_or l (1 + x) 0
    by x h i z true t = line_data (record_of k l) x (rw i (ltb-true x (payload_of (get_or l 0 0)) t)) ∙ record_data k l x h
    by x h i z false t =
        let m = ltb-false x (payload_of (get_or l 0 0)) t in
        line_rest (record_of k l) x (rw i m) ∙ sym (z x m h)

-- two records that say the same
pub record Alike (r t : List ℕ) : Type 0 where
  pub service : word_at r 0 ≡ word_at t 0
  pub field : word_at r 4 ≡ word_at t 4
  pub line : word_at r 8 ≡ word_at t 8
  pub payload : (x : ℕ) → x < payload_of (identifier_of (word_at r 0)) → get_or r (16 + x) 0 ≡ get_or t (16 + x) 0

module _ (r t : List ℕ) where
  -- they name the same bit, and their lines are the same
  pub alike_bit : Alike r t → record_bit r ≡ record_bit t
  unfolding record_bit
  alike_bit a = rw (a.service, a.field, a.line)

  pub alike_line : Alike r t → line_of r ≡ line_of t
  alike_line a =
      by_bytes (line_of r) (line_of t) 42 (length_line r) (length_line t) (line_first r ∙ ap identifier_of a.service ∙ sym (line_first t))
      (λ x h. by x (ltb x (payload_of (identifier_of (word_at r 0)))) refl)
    where
      by : (x : ℕ) (b : Bool) → ltb x (payload_of (identifier_of (word_at r 0))) ≡ b → get_or (line_of r) (1 + x) 0 ≡ get_or (line_of t) (1 + x) 0
      by x true e =
          let h = ltb-true x (payload_of (identifier_of (word_at r 0))) e in
          line_data r x h ∙ a.payload x h ∙ sym (line_data t x (rw a.service at h))
      by x false e =
          let h = ltb-false x (payload_of (identifier_of (word_at r 0))) e in
          line_rest r x h ∙ sym (line_rest t x (rw a.service at h))

  -- and the other way round
  pub alike_by : (k : ℕ) → k < 36 → record_bit r ≡ k → record_bit t ≡ k → line_of r ≡ line_of t → Alike r t
  alike_by k h e f l =
      let p = named_parts r k e h in
      let q = named_parts t k f h in
      let i : identifier_of (word_at r 0) ≡ identifier_of (word_at t 0) = sym (line_first r) ∙ ap (λ (m : List ℕ). get_or m 0 0) l ∙ line_first t in
      record {
        service = sym (service_back (word_at r 0) p.0) ∙ ap service_of i ∙ service_back (word_at t 0) q.0;
        field = p.1 ∙ sym q.1;
        line = p.2 ∙ sym q.2;
        payload = λ x m. sym (line_data r x m) ∙ ap (λ (n : List ℕ). get_or n (1 + x) 0) l ∙ line_data t x (rw i at m);
      }
