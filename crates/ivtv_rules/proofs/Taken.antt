-- What is taken, test by test: records by the writer, and a block by the reader. Assumes nothing.
use mathlib.Core.Path.{◌≡◌, refl, ◌∙◌}
use mathlib.Core.Bool.{Bool, true, false, cond, not, ◌&&◌}
use mathlib.Core.List.{List, [], ◌∷◌}
use Prim.Native.Nat.{ℕ, ◌+◌, ◌*◌, ◌-◌, ◌/◌, ◌%◌, ◌≤◌, ◌<◌}
use native.Mathlib.Omega.{arith}
use borrow.Author.Tests.{eqb-true, eqb-false, eq-eqb, ltb-true, ltb-false}
use lib.Dec.{eqb, ltb}
use lib.ListN.{length, drop, length-drop, length-append}
use lib.Seq.{length-take-le}
use Rattle.wire_read.specs.Words.{bytes_of}
use Rattle.wire_read.proofs.Words.{length_bytes_of}
use Rattle.sheet_rules.proofs.Truth.{both}
use Rattle.service_rules.proofs.Counts.{count_same, count_most}
use Rattle.service_rules.proofs.Ranks.{count_rises}
use Rattle.ivtv_rules.specs.Lines.{line_of}
use Rattle.ivtv_rules.specs.Block.{Lines, some, joined, opening_of, line_count, line_mask, block_of, block_length}
use Rattle.ivtv_rules.specs.Writing.{record64, naming, good_lines, line_for, lines_of, packable}
use Rattle.ivtv_rules.specs.Reading.{mask_in, start_in, good_opening, bit_on, count_in, line_at, lines_in, good_body, readable}
use Rattle.ivtv_rules.proofs.Stored.{length_line}
use Rattle.ivtv_rules.proofs.Joined.{joined_length}
use Rattle.ivtv_rules.proofs.Pieces.{Wide}
use Rattle.ivtv_rules.proofs.Named.{named, named_many}

-- a line stands at k
abbrev pub there : Lines → ℕ → Bool
there f k = some (f k)

-- ---- records

-- What the writer asks of records and of an output of m bytes.
pub record Packable (s : List ℕ) (m : ℕ) : Type 0 where
  pub whole : length s % 64 ≡ 0
  pub good : good_lines s (length s / 64) ≡ true
  pub room : m ≡ block_length (length s / 64)

pub packable_parts : (s : List ℕ) (m : ℕ) → packable s m ≡ true → Packable s m
unfolding packable
packable_parts s m t =
    let n = length s / 64 in
    let p = both (eqb (length s % 64) 0 && good_lines s n) (eqb m (block_length n)) t in
    let q = both (eqb (length s % 64) 0) (good_lines s n) p.0 in
    record { whole = eqb-true (length s % 64) 0 q.0; good = q.1; room = eqb-true m (block_length n) p.1 }

pub packable_by : (s : List ℕ) (m : ℕ) → Packable s m → packable s m ≡ true
unfolding packable
packable_by s m p = rw (eq-eqb (length s % 64) 0 p.whole, p.good, eq-eqb m (block_length (length s / 64)) p.room)

pub some_line : (r : List ℕ) → some (line_of r) ≡ true
unfolding line_of
some_line r = refl

-- a line stands where a record names it, and has 43 bytes
pub some_for : (s : List ℕ) (p : ℕ) → some (line_for s p) ≡ not (eqb p 0)
some_for s p = by (eqb p 0)
  where
    by : (b : Bool) → some (cond b [] (line_of (record64 s (p - 1)))) ≡ not b
    by true = refl
    by false = some_line (record64 s (p - 1))

pub sized_for : (s : List ℕ) (p : ℕ) → length (line_for s p) ≡ 43 * cond (some (line_for s p)) 1 0
sized_for s p = by (eqb p 0)
  where
    by : (b : Bool) → length (cond b [] (line_of (record64 s (p - 1)))) ≡ 43 * cond (some (cond b [] (line_of (record64 s (p - 1))))) 1 0
    by true = refl
    by false = rw (some_line (record64 s (p - 1))) (length_line (record64 s (p - 1)))

-- good records have as many lines
pub lines_count : (s : List ℕ) → good_lines s (length s / 64) ≡ true → line_count (lines_of s) ≡ length s / 64
lines_count s g =
    let n = length s / 64 in
    count_same 36 (there (lines_of s)) (named s n) (λ k h. some_for s (naming s n k)) ∙ named_many s n g

-- ---- the length of a block

pub opening_long : (n mask : ℕ) → length (opening_of n mask) ≡ cond (eqb n 36) 4 12
unfolding opening_of
opening_long n mask = by (eqb n 36)
  where
    by : (t : Bool) → length (cond t (0x49 ∷ 0x54 ∷ 0x56 ∷ 0x30 ∷ []) (0x69 ∷ 0x74 ∷ 0x76 ∷ 0x30 ∷ bytes_of (mask % 4294967296 ∷ mask / 4294967296 ∷ []))) ≡ cond t 4 12
    by true = refl
    by false = omega (arith, length_bytes_of (mask % 4294967296 ∷ mask / 4294967296 ∷ []))

in_all : (n : ℕ) → n ≤ 36 → cond (eqb n 36) 4 12 + 43 * n ≡ block_length n
unfolding block_length
in_all n h = by (eqb n 36) (ltb n 36) refl refl
  where
    by : (a b : Bool) → eqb n 36 ≡ a → ltb n 36 ≡ b → cond a 4 12 + 43 * n ≡ cond b (12 + 43 * n) (cond a 1552 0)
    by true true e f = absurd (omega (arith, eqb-true n 36 e, ltb-true n 36 f))
    by true false e f = omega (arith, eqb-true n 36 e)
    by false true e f = refl
    by false false e f = absurd (omega (arith, eqb-false n 36 e, ltb-false n 36 f))

module _ (f : Lines) (w : Wide 43 (there f) f 36) where
  -- an opening, and 43 bytes for each line
  pub block_split : length (block_of f) ≡ length (opening_of (line_count f) (line_mask f)) + 43 * line_count f
  unfolding block_of
  block_split = length-append (opening_of (line_count f) (line_mask f)) (joined f 36) ∙ rw (joined_length 43 (there f) f 36 w)

  pub block_long : length (block_of f) ≡ block_length (line_count f)
  block_long = block_split ∙ rw (opening_long (line_count f) (line_mask f)) (in_all (line_count f) (count_most 36 (there f)))

-- ---- blocks

-- What the reader asks of a block and of an output of m bytes.
pub record Readable (b : List ℕ) (m : ℕ) : Type 0 where
  pub opening : good_opening b ≡ true
  pub long : length b ≡ start_in b + 43 * count_in (mask_in b) 36
  pub room : m ≡ 64 * count_in (mask_in b) 36
  pub body : good_body b (start_in b) (count_in (mask_in b) 36) ≡ true

pub readable_parts : (b : List ℕ) (m : ℕ) → readable b m ≡ true → Readable b m
unfolding readable
readable_parts b m e =
    let n = count_in (mask_in b) 36 in
    let p = both (good_opening b) (eqb (length b) (start_in b + 43 * n) && (eqb m (64 * n) && good_body b (start_in b) n)) e in
    let q = both (eqb (length b) (start_in b + 43 * n)) (eqb m (64 * n) && good_body b (start_in b) n) p.1 in
    let r = both (eqb m (64 * n)) (good_body b (start_in b) n) q.1 in
    record {
      opening = p.0;
      long = eqb-true (length b) (start_in b + 43 * n) q.0;
      room = eqb-true m (64 * n) r.0;
      body = r.1;
    }

pub readable_by : (b : List ℕ) (m : ℕ) → Readable b m → readable b m ≡ true
unfolding readable
readable_by b m p =
    let n = count_in (mask_in b) 36 in
    rw (p.opening, eq-eqb (length b) (start_in b + 43 * n) p.long, eq-eqb m (64 * n) p.room, p.body)

some_long : (l : List ℕ) → 0 < length l → some l ≡ true
some_long [] h = absurd (omega arith)
some_long (x ∷ l) h = refl

module _ (b : List ℕ) (m : ℕ) (t : Readable b m) where
  -- a line that the mask names has 43 bytes
  pub line_long : (k : ℕ) → k < 36 → bit_on (mask_in b) k ≡ true → length (line_at b (start_in b) (count_in (mask_in b) k)) ≡ 43
  line_long k h e =
      let j = count_in (mask_in b) k in
      length-take-le 43 (drop (start_in b + 43 * j) b)
      (omega (arith, t.long, length-drop (start_in b + 43 * j) b, count_rises (bit_on (mask_in b)) k 36 h e))

  -- so it is there
  pub found_there : (k : ℕ) → k < 36 → there (lines_in b) k ≡ bit_on (mask_in b) k
  found_there k h = by (bit_on (mask_in b) k) refl
    where
      by : (a : Bool) → bit_on (mask_in b) k ≡ a → some (cond a (line_at b (start_in b) (count_in (mask_in b) k)) []) ≡ a
      by true e = some_long (line_at b (start_in b) (count_in (mask_in b) k)) (omega (arith, line_long k h e))
      by false e = refl

  -- as many as the mask names
  pub found_count : line_count (lines_in b) ≡ count_in (mask_in b) 36
  found_count = count_same 36 (there (lines_in b)) (bit_on (mask_in b)) found_there
