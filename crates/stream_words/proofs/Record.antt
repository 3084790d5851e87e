-- The record of a stream's run, and its map counts, some of their words stored. Assumes nothing.
use mathlib.Core.Path.{◌≡◌, refl, sym, ◌∙◌, ap}
use mathlib.Core.Bool.{Bool, true, false, cond}
use Prim.Native.Nat.{ℕ, suc, ◌+◌, ◌≤◌, ◌<◌}
use native.Mathlib.Omega.{arith}
use borrow.Author.Tests.{eqb-true, eqb-false, eq-eqb, ne_eqb}
use lib.Dec.{eqb}
use mathlib.Core.List.{List, [], ◌∷◌}
use lib.ListN.{length, get_or, set, length-set, get_or-eq_default}
use lib.Seq.{sets, get_or-set_same, get_or-set_other}
use Rattle.wire_read.proofs.Tabs.{tab_length, tab_get, tab_is}
use Rattle.stream_words.specs.Stream.{Stream, with_maps}
use Rattle.stream_words.specs.Words.{low, queues_in, maps_in, stream_in}
use Rattle.stream_words.proofs.Kept.{queues_kept, maps_kept}

-- the stream with x for word k of its record, or for its next number
abbrev pub stored : Stream → ℕ → ℕ → Stream
stored s k x =
    record {
      length = cond (eqb 0 k) x s.length;
      streaming = cond (eqb 1 k) x s.streaming;
      run =
          record {
            ran = cond (eqb 2 k) x s.run.ran;
            accepted = cond (eqb 3 k) x s.run.accepted;
            handed = cond (eqb 4 k) x s.run.handed;
            damaged = cond (eqb 5 k) x s.run.damaged;
            dropped = cond (eqb 6 k) x s.run.dropped;
            discarded = cond (eqb 7 k) x s.run.discarded;
          };
      number = cond (eqb 12 k) (low x) s.number;
      queues = s.queues;
      maps = s.maps;
    }

-- the same for some words in a row
abbrev pub stored_all : Stream → ℕ → List ℕ → Stream
stored_all s k [] = s
stored_all s k (x ∷ xs) = stored_all (stored s k x) (suc k) xs

-- the same number more on both sides
shifted : (j k : ℕ) → eqb j k ≡ eqb (176 + j) (176 + k)
shifted j k = by (eqb j k) refl
  where
    by : (b : Bool) → eqb j k ≡ b → b ≡ eqb (176 + j) (176 + k)
    by true e = sym (eq-eqb (176 + j) (176 + k) (omega (arith, eqb-true j k e)))
    by false e = sym (ne_eqb (176 + j) (176 + k) (λ f. eqb-false j k e (omega arith)))

-- what stands at place j after a store at place k
word_set : (w : List ℕ) (k j x : ℕ) → k < length w → get_or (set w k x) j 0 ≡ cond (eqb j k) x (get_or w j 0)
word_set w k j x h = by (eqb j k) refl
  where
    by : (t : Bool) → eqb j k ≡ t → get_or (set w k x) j 0 ≡ cond t x (get_or w j 0)
    by true e = rw (eqb-true j k e) (get_or-set_same w k x 0 h)
    by false e = get_or-set_other w k j x 0 (eqb-false j k e)

-- and what stands there of 32 bits
low_set : (w : List ℕ) (k j x : ℕ) → k < length w → low (get_or (set w k x) j 0) ≡ cond (eqb j k) (low x) (low (get_or w j 0))
low_set w k j x h = ap low (word_set w k j x h) ∙ by (eqb j k)
  where
    by : (t : Bool) → low (cond t x (get_or w j 0)) ≡ cond t (low x) (low (get_or w j 0))
    by true = refl
    by false = refl

-- a store where no buffer stands
beside : (w : List ℕ) (k x : ℕ) → length w ≡ 208 → k < 13 → ((q : ℕ) → 8 ≤ q → (q ≡ 12 → ⊥) → q ≡ k → ⊥) → stream_in (set w k x) ≡ stored (stream_in w) k x
unfolding stream_in
beside w k x long m apart =
    let l : k < length w = omega arith in
    rw (
      word_set w k 0 x l,
      word_set w k 1 x l,
      word_set w k 2 x l,
      word_set w k 3 x l,
      word_set w k 4 x l,
      word_set w k 5 x l,
      word_set w k 6 x l,
      word_set w k 7 x l,
      low_set w k 12 x l,
      queues_kept (set w k x) w (λ q m u n. get_or-set_other w k q x 0 (apart q m n)),
      maps_kept (set w k x) w (λ q h. get_or-set_other w k q x 0 (λ e. omega arith)),
    )

-- a store in the record
pub stream_set : (w : List ℕ) (k x : ℕ) → length w ≡ 208 → k < 8 → stream_in (set w k x) ≡ stored (stream_in w) k x
stream_set w k x long h = beside w k x long (omega arith) (λ q m n e. omega arith)

-- a store of the next number
pub number_set : (w : List ℕ) (x : ℕ) → length w ≡ 208 → stream_in (set w 12 x) ≡ stored (stream_in w) 12 x
number_set w x long = beside w 12 x long (omega arith) (λ q m n e. n e)

-- the count of buffer k is the word at its place
pub maps_is : (w : List ℕ) (k : ℕ) → k < 32 → get_or (stream_in w).maps k 0 ≡ get_or w (176 + k) 0
unfolding stream_in maps_in
maps_is w k h = tab_get (λ j. get_or w (176 + j) 0) 32 k 0 h

-- beyond the 32 it is 0
pub maps_beyond : (w : List ℕ) (k : ℕ) → 32 ≤ k → get_or (stream_in w).maps k 0 ≡ 0
unfolding stream_in maps_in
maps_beyond w k h = get_or-eq_default (maps_in w) 0 (rw (tab_length (λ j. get_or w (176 + j) 0) 32) h)

-- there are 32 counts
pub maps_long : (w : List ℕ) → length (stream_in w).maps ≡ 32
unfolding stream_in maps_in
maps_long w = tab_length (λ j. get_or w (176 + j) 0) 32

-- a store in the counts
counts_set : (w : List ℕ) (k x : ℕ) → length w ≡ 208 → k < 32 → maps_in (set w (176 + k) x) ≡ set (maps_in w) k x
unfolding maps_in
counts_set w k x long h =
    let f : ℕ → ℕ = λ j. get_or w (176 + j) 0 in
    sym (tab_is (set (maps_in w) k x) 0 (λ j. get_or (set w (176 + k) x) (176 + j) 0) 32 (length-set (maps_in w) k x ∙ tab_length f 32)
    (λ j l. word_set (maps_in w) k j x (rw (tab_length f 32) h) ∙ ap (cond (eqb j k) x) (tab_get f 32 j 0 l) ∙ ap (λ (b : Bool). cond b x (f j)) (shifted j k) ∙ sym (word_set w (176 + k) (176 + j) x (omega arith))))

pub map_set : (w : List ℕ) (k x : ℕ) → length w ≡ 208 → k < 32 → stream_in (set w (176 + k) x) ≡ with_maps (stream_in w) (set (stream_in w).maps k x)
unfolding stream_in
map_set w k x long h =
    let other : (j : ℕ) → j < 176 → get_or (set w (176 + k) x) j 0 ≡ get_or w j 0 = λ j l. get_or-set_other w (176 + k) j x 0 (λ e. omega arith) in
    rw (
      other 0 (omega arith),
      other 1 (omega arith),
      other 2 (omega arith),
      other 3 (omega arith),
      other 4 (omega arith),
      other 5 (omega arith),
      other 6 (omega arith),
      other 7 (omega arith),
      other 12 (omega arith),
      queues_kept (set w (176 + k) x) w (λ q m u n. other q u),
      counts_set w k x long h,
    )

-- stores in a row
pub stream_sets : (xs w : List ℕ) (k : ℕ) → length w ≡ 208 → k + length xs ≤ 8 → stream_in (sets w k xs) ≡ stored_all (stream_in w) k xs
stream_sets [] w k long h = refl
stream_sets (x ∷ xs) w k long h =
    stream_sets xs (set w k x) (suc k) (length-set w k x ∙ long) (omega arith)
    ∙ ap (λ (s : Stream). stored_all s (suc k) xs) (stream_set w k x long (omega arith))

-- two stores
pub stream_set_2 : (w : List ℕ) (k x j y : ℕ) → length w ≡ 208 → k < 8 → j < 8 → stream_in (set (set w k x) j y) ≡ stored (stored (stream_in w) k x) j y
stream_set_2 w k x j y long h l =
    stream_set (set w k x) j y (length-set w k x ∙ long) l ∙ ap (λ (s : Stream). stored s j y) (stream_set w k x long h)

-- fields of the stream, by their words
pub length_is : (w : List ℕ) → (stream_in w).length ≡ get_or w 0 0
unfolding stream_in
length_is w = refl

pub streaming_is : (w : List ℕ) → (stream_in w).streaming ≡ get_or w 1 0
unfolding stream_in
streaming_is w = refl

pub granted_is : (w : List ℕ) → (stream_in w).queues.granted ≡ get_or w 8 0
unfolding stream_in queues_in
granted_is w = refl

pub accepted_is : (w : List ℕ) → (stream_in w).run.accepted ≡ get_or w 3 0
unfolding stream_in
accepted_is w = refl

pub number_is : (w : List ℕ) → (stream_in w).number ≡ low (get_or w 12 0)
unfolding stream_in
number_is w = refl

pub handed_is : (w : List ℕ) → (stream_in w).run.handed ≡ get_or w 4 0
unfolding stream_in
handed_is w = refl

pub damaged_is : (w : List ℕ) → (stream_in w).run.damaged ≡ get_or w 5 0
unfolding stream_in
damaged_is w = refl

pub dropped_is : (w : List ℕ) → (stream_in w).run.dropped ≡ get_or w 6 0
unfolding stream_in
dropped_is w = refl
