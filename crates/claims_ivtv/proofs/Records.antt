-- Records: the lines of good records, and the records of good lines. Assumes nothing.
use mathlib.Core.Path.{◌≡◌, refl, sym, ap, ◌∙◌}
use mathlib.Core.Bool.{Bool, true, false, cond, false≢true}
use mathlib.Core.List.{List, []}
use Prim.Native.Nat.{ℕ, zero, suc, ◌*◌, ◌-◌, ◌<◌}
use native.Mathlib.Nat.{zero-add}
use native.Mathlib.Omega.{arith}
use borrow.Author.Tests.{eq-eqb, ne_eqb, ltb-true, ltb-false}
use lib.Dec.{eqb, ltb}
use lib.ListN.{length}
use Rattle.service_rules.specs.Negotiation.{count_below}
use Rattle.service_rules.proofs.Ranks.{count_rises, rank_apart, ranked}
use Rattle.ivtv_rules.specs.Lines.{record_bit, line_of, record_of}
use Rattle.ivtv_rules.specs.Block.{Lines, line_count, record_at, records_of}
use Rattle.ivtv_rules.specs.Writing.{record64, naming, good_lines, lines_of}
use Rattle.ivtv_rules.proofs.Joined.{joined_length}
use Rattle.ivtv_rules.proofs.Named.{bit_at, naming_most, naming_names, naming_none, good_at_law, good_of}
use Rattle.ivtv_rules.proofs.Stored.{length_record}
use Rattle.ivtv_rules.proofs.Pieces.{Wide, piece}
use Rattle.ivtv_rules.proofs.OneLine.{named_parts, record_bit_law, good_parts, line_good, line_back}
use Rattle.ivtv_rules.proofs.Taken.{there, some_for, sized_for}
use Rattle.claims_ivtv.specs.Told.{record_count}
use Rattle.claims_ivtv.proofs.Blocks.{Good, nothing}

-- ---- which record names a line

-- none does where none has its bit
unnamed : (s : List ℕ) (n k : ℕ) → ((j : ℕ) → j < n → bit_at s j ≡ k → ⊥) → naming s n k ≡ 0
unfolding naming
unnamed s zero k h = refl
unnamed s (suc n) k h = rw (ne_eqb (bit_at s n) k (h n (omega arith))) (unnamed s n k (λ j l. h j (omega arith)))

-- where no two have the same bit, each is found by its own
naming_is : (s : List ℕ) (n : ℕ) → ((i j : ℕ) → i < j → j < n → bit_at s i ≡ bit_at s j → ⊥) → (i : ℕ) → i < n → naming s n (bit_at s i) ≡ suc i
unfolding naming
naming_is s zero d i h = absurd (omega arith)
naming_is s (suc n) d i h = by (ltb i n) refl (naming_is s n (λ j k l m. d j k l (omega arith)) i)
  where
    by : (b : Bool) → ltb i n ≡ b → (i < n → naming s n (bit_at s i) ≡ suc i) → cond (eqb (bit_at s n) (bit_at s i)) (suc n) (naming s n (bit_at s i)) ≡ suc i
    by true l f =
        let m = ltb-true i n l in
        rw (ne_eqb (bit_at s n) (bit_at s i) (λ e. d i n m (omega arith) (sym e))) (f m)
    by false l f =
        let q : i ≡ n = omega (arith, ltb-false i n l) in
        rw (q, eq-eqb (bit_at s n) (bit_at s n) refl)

-- ---- the lines of good records

module _ (s : List ℕ) (g : good_lines s (record_count s) ≡ true) where
  -- no two of them name the same line
  distinct : (i j : ℕ) → i < j → j < record_count s → bit_at s i ≡ bit_at s j → ⊥
  distinct i j h l = naming_none s j (bit_at s j) i (good_at_law s (record_count s) g j l).1 h

  -- the line that a record names is its line
  pub line_named : (i : ℕ) → i < record_count s → lines_of s (bit_at s i) ≡ line_of (record64 s i)
  line_named i h =
      let z : suc i - 1 ≡ i = omega arith in
      rw (naming_is s (record_count s) distinct i h, ne_eqb (suc i) 0 (λ e. omega arith), z)

  -- a line that is there is that of a record
  pub line_found : (k : ℕ) → there (lines_of s) k ≡ true → (i : ℕ) × (i < record_count s) × (bit_at s i ≡ k)
  line_found k e =
      let n : naming s (record_count s) k ≡ 0 → ⊥ = λ z. false≢true (sym (some_for s (naming s (record_count s) k) ∙ rw z) ∙ e) in
      (naming s (record_count s) k - 1, omega (arith, n, naming_most s (record_count s) k), naming_names s (record_count s) k (omega (arith, n)))

  -- they can be packed
  pub lines_good : Good (lines_of s)
  lines_good = record {
    sized = λ k h. sized_for s (naming s (record_count s) k);
    sound = λ k h e.
        let r = line_found k e in
        let p = named_parts (record64 s r.0) k r.2 h in
        rw (← r.2, line_named r.0 r.1) (line_good (record64 s r.0) p.0);
  }

-- ---- the records of good lines

records_wide : (f : Lines) → Wide 64 (there f) (record_at f) 36
records_wide f k h = by (there f k)
  where
    by : (b : Bool) → length (cond b (record_of k (f k)) []) ≡ 64 * cond b 1 0
    by true = length_record k (f k)
    by false = refl

pub records_length : (f : Lines) → length (records_of f) ≡ 64 * line_count f
unfolding records_of
records_length f = joined_length 64 (there f) (record_at f) 36 (records_wide f)

pub records_count : (f : Lines) → record_count (records_of f) ≡ line_count f
records_count f = omega (arith, records_length f)

-- the record of a line stands behind those of the lines before it
record_there : (f : Lines) (k : ℕ) → k < 36 → there f k ≡ true → record64 (records_of f) (count_below k (there f)) ≡ record_of k (f k)
unfolding records_of
record_there f k h e =
    let a : record_at f k ≡ record_of k (f k) = rw e in
    rw zero-add at (piece 64 (there f) (record_at f) 36 (records_wide f) [] 0 refl k h e) ∙ a

-- Record j of them is that of a line: its bit, and what stands there.
pub record Ranked (f : Lines) (j : ℕ) : Type 0 where
  pub bit : ℕ
  pub below : bit < 36
  pub present : there f bit ≡ true
  pub rank : count_below bit (there f) ≡ j
  pub stands : record64 (records_of f) j ≡ record_of bit (f bit)
  pub names : bit_at (records_of f) j ≡ bit

module _ (f : Lines) (g : Good f) where
  pub record_ranked : (j : ℕ) → j < line_count f → Ranked f j
  record_ranked j h =
      let r = ranked 36 (there f) j h in
      let s : record64 (records_of f) j ≡ record_of r.0 (f r.0) = ap (record64 (records_of f)) (sym r.3) ∙ record_there f r.0 r.1 r.2 in
      record {
        bit = r.0;
        below = r.1;
        present = r.2;
        rank = r.3;
        stands = s;
        names = ap record_bit s ∙ record_bit_law r.0 (f r.0) r.1 (good_parts (f r.0) (g.sound r.0 r.1 r.2)).0;
      }

  -- no two of them have the same bit
  bit_new : (i j : ℕ) → i < j → j < line_count f → bit_at (records_of f) i ≡ bit_at (records_of f) j → ⊥
  bit_new i j h l e =
      let r = record_ranked i (omega arith) in
      let t = record_ranked j l in
      let c : count_below r.bit (there f) ≡ count_below t.bit (there f) = ap (λ (k : ℕ). count_below k (there f)) (sym r.names ∙ e ∙ t.names) in
      omega (arith, r.rank, t.rank, c)

  -- a writer takes them
  pub records_good : good_lines (records_of f) (record_count (records_of f)) ≡ true
  records_good =
      good_of (records_of f) (record_count (records_of f))
      (λ i h. let l : i < line_count f = omega (arith, records_count f) in
      let r = record_ranked i l in
      (rw r.names r.below, unnamed (records_of f) i (bit_at (records_of f) i) (λ j m. bit_new j i m l)))

  -- their lines are those that they were made of
  pub records_lines : (k : ℕ) → k < 36 → lines_of (records_of f) k ≡ f k
  records_lines k h = by (there f k) refl
    where
      by : (b : Bool) → there f k ≡ b → lines_of (records_of f) k ≡ f k
      by true e =
          let i = count_below k (there f) in
          let l : i < line_count f = count_rises (there f) k 36 h e in
          let r = record_ranked i l in
          let q : r.bit ≡ k = rank_apart (there f) r.bit k r.present e r.rank in
          let m : length (f k) ≡ 43 = g.sized k h ∙ rw e in
          ap (lines_of (records_of f)) (sym (r.names ∙ q)) ∙ line_named (records_of f) records_good i (omega (arith, records_count f))
          ∙ ap line_of (record_there f k h e) ∙ line_back k (f k) (g.sound k h e) m
      by false e =
          let z : naming (records_of f) (record_count (records_of f)) k ≡ 0 =
          unnamed (records_of f) (record_count (records_of f)) k
          (λ j l q. let r = record_ranked j (omega (arith, records_count f)) in
          false≢true (sym e ∙ ap (there f) (sym q ∙ r.names) ∙ r.present)) in
          rw z (sym (nothing (f k) e))
