-- Words in lists of bytes: what was stored as words is read as those words, wherever it was put. Assumes nothing.
use mathlib.Core.Path.{◌≡◌, refl, ◌∙◌, sym, ap}
use mathlib.Core.List.{List, [], ◌∷◌, ◌++◌, append_assoc}
use Prim.Native.Nat.{ℕ, zero, suc, ◌+◌, ◌*◌, ◌/◌, ◌%◌, ◌≤◌, ◌<◌}
use native.Mathlib.Nat.{add-zero, zero-add, add_assoc, le_of_suc-le-suc, not-suc-le-zero, mod-eq_of_lt}
use native.Mathlib.Numerals.{add-one}
use native.Mathlib.Omega.{arith}
use lib.Pow.{shr-shr, shr_lt, split}
use lib.ListN.{length, get_or, take, drop, replicate, length-replicate, length-take, get_or-append}
use lib.Seq.{sets, length-sets, ext_get_or, drop-cons, get_or-take, get_or-drop}
use Rattle.wire_read.specs.Words.{word_at, four_words, le32, bytes_of}
use Rattle.wire_read.proofs.Lists.{past_end}
use Rattle.wire_read.proofs.Stores.{sets_append, sets_before, sets_behind, sets_at, byte_over_zeros}
use Rattle.wire_read.proofs.Parts.{part_at_law}

-- a word past the end is 0
pub word_past_end : (s : List ℕ) (at : ℕ) → length s ≤ at → word_at s at ≡ 0
unfolding word_at
word_past_end s at h = rw (past_end s at h, past_end s (at + 1) (omega arith), past_end s (at + 2) (omega arith), past_end s (at + 3) (omega arith))

-- a word of bytes is below 2^32
pub word_fits : (s : List ℕ) (at : ℕ) → ((k : ℕ) → get_or s k 0 < 256) → word_at s at < 4294967296
unfolding word_at
word_fits s at h = omega (arith, h at, h (at + 1), h (at + 2), h (at + 3))

-- where four bytes of two lists agree, so do the words
pub word_same : (s t : List ℕ) (i j : ℕ) → ((k : ℕ) → k < 4 → get_or s (i + k) 0 ≡ get_or t (j + k) 0) → word_at s i ≡ word_at t j
unfolding word_at
word_same s t i j h =
    let e = rw (add-zero i, add-zero j) at (h 0 (omega arith)) in
    omega (arith, h 1 (omega arith), h 2 (omega arith), h 3 (omega arith))

-- the word of a list's rest
pub word_drop : (s : List ℕ) (n at : ℕ) → word_at (drop n s) at ≡ word_at s (n + at)
word_drop s n at = word_same (drop n s) s at (n + at) (λ k h. get_or-drop n s (at + k) 0 ∙ rw (add_assoc n at k))

-- the word of a list's start
pub word_take : (s : List ℕ) (n at : ℕ) → at + 4 ≤ n → word_at (take n s) at ≡ word_at s at
word_take s n at f = word_same (take n s) s at at (λ k h. get_or-take n s (at + k) 0 (omega arith))

-- so a word of a part is the word there
pub word_part : (s : List ℕ) (at n k : ℕ) → k + 4 ≤ n → word_at (take n (drop at s)) k ≡ word_at s (at + k)
word_part s at n k h = word_take (drop at s) n k h ∙ word_drop s at k

-- and so are the first four
pub four_part : (s : List ℕ) (at n : ℕ) → 16 ≤ n → four_words (take n (drop at s)) 0 ≡ four_words s at
four_part s at n h =
    rw (
      word_part s at n 0 (omega (arith, h)),
      word_part s at n 4 (omega (arith, h)),
      word_part s at n 8 (omega (arith, h)),
      word_part s at n 12 (omega (arith, h)),
      add-zero at,
    )

-- a word before or behind a run of stores is as it was
pub word_before : (vs l : List ℕ) (at j : ℕ) → j + 4 ≤ at → word_at (sets l at vs) j ≡ word_at l j
word_before vs l at j f = word_same (sets l at vs) l j j (λ k h. sets_before vs l at (j + k) 0 (omega arith))

pub word_behind : (vs l : List ℕ) (at j : ℕ) → at + length vs ≤ j → word_at (sets l at vs) j ≡ word_at l j
word_behind vs l at j f = word_same (sets l at vs) l j j (λ k h. sets_behind vs l at (j + k) 0 (omega arith))

-- a word of a run of stores that fits is the run's
pub word_stored : (vs l : List ℕ) (at k : ℕ) → k + 4 ≤ length vs → at + length vs ≤ length l → word_at (sets l at vs) (at + k) ≡ word_at vs k
word_stored vs l at k f g =
    word_same (sets l at vs) vs (at + k) k (λ i h. rw (add_assoc at k i) (sets_at vs l at (k + i) 0 (omega arith) (omega arith)))

-- ---- words as bytes

-- four digits to the base 256 and the number they are
digits : (w p q s a b c d : ℕ) → p * 256 + a ≡ w → q * 256 + b ≡ p → s * 256 + c ≡ q → d ≡ s → a + 256 * b + 65536 * c + 16777216 * d ≡ w
digits w p q s a b c d e f g h = omega arith

-- the four bytes of a word are read as that word
pub word_of_le32 : (w : ℕ) (vs : List ℕ) → w < 4294967296 → word_at (le32 w ++ vs) 0 ≡ w
unfolding word_at le32
word_of_le32 w vs h =
    digits w (w / 256) (w / 65536) (w / 16777216) (w % 256) (w / 256 % 256) (w / 65536 % 256) (w / 16777216 % 256) (split w 8)
    (rw (← shr-shr w 8 8) (split (w / 256) 8))
    (rw (← shr-shr w 16 8) (split (w / 65536) 8))
    (mod-eq_of_lt (shr_lt 8 24 h))

-- n words are 4 n bytes
pub length_bytes_of : (ws : List ℕ) → length (bytes_of ws) ≡ 4 * length ws
unfolding bytes_of le32
length_bytes_of [] = refl
length_bytes_of (w ∷ ws) = let e = length_bytes_of ws in omega arith

-- two runs of words are one
pub bytes_of_append : (a b : List ℕ) → bytes_of (a ++ b) ≡ bytes_of a ++ bytes_of b
unfolding bytes_of
bytes_of_append [] b = refl
bytes_of_append (w ∷ a) b = rw (bytes_of_append a b, append_assoc (le32 w) (bytes_of a) (bytes_of b))

-- the word k of a run is the one that was stored there
pub word_of_law : (ws : List ℕ) (k : ℕ) → k < length ws → get_or ws k 0 < 4294967296 → word_at (bytes_of ws) (4 * k) ≡ get_or ws k 0
unfolding bytes_of le32
word_of_law [] k h b = absurd (not-suc-le-zero h)
word_of_law (w ∷ ws) zero h b = word_of_le32 w (bytes_of ws) b
word_of_law (w ∷ ws) (suc k) h b =
    let e : 4 * suc k ≡ 4 + 4 * k = omega arith in
    rw (e, ← word_drop (le32 w ++ bytes_of ws) 4 (4 * k)) (word_of_law ws k (le_of_suc-le-suc h) b)

-- the same of a run that stands before other bytes
pub word_head : (ws rest : List ℕ) (k : ℕ) → k < length ws → get_or ws k 0 < 4294967296 → word_at (bytes_of ws ++ rest) (4 * k) ≡ get_or ws k 0
word_head ws rest k h b =
    word_same (bytes_of ws ++ rest) (bytes_of ws) (4 * k) (4 * k)
    (λ i l. get_or-append (bytes_of ws) rest 0 (4 * k + i) (omega (arith, length_bytes_of ws)))
    ∙ word_of_law ws k h b

-- a word stored where it fits is read there
pub word_back : (l : List ℕ) (at w : ℕ) → at + 4 ≤ length l → w < 4294967296 → word_at (sets l at (le32 w)) at ≡ w
unfolding word_at le32
word_back l at w f h =
    word_same (sets l at (le32 w)) (le32 w ++ []) at 0 (λ k g. rw (zero-add k) (sets_at (le32 w) l at k 0 g (omega arith))) ∙ word_of_le32 w [] h

-- one turn of a loop that stores words from a place on
pub words_turn : (l ws : List ℕ) (k i : ℕ) → i < length ws
    → sets l k (bytes_of (drop i ws)) ≡ sets (sets l k (le32 (get_or ws i 0))) (k + 4) (bytes_of (drop (i + 1) ws))
unfolding bytes_of le32
words_turn l ws k i h = rw (add-one i, drop-cons ws i 0 h) (sets_append (le32 (get_or ws i 0)) (bytes_of (drop (suc i) ws)) l k)

-- ---- words read from bytes

-- n bytes from a place on, copied over zeros: past the end there is 0 in both
pub byte_copied : (s : List ℕ) (at n i : ℕ) → i < n → get_or (sets (replicate n 0) 0 (take n (drop at s))) i 0 ≡ get_or s (at + i) 0
byte_copied s at n i h =
    byte_over_zeros (take n (drop at s)) n (omega (arith, length-take n (drop at s))) i ∙ part_at_law n s at i h

-- a word of the copy is the word there
pub word_copied : (s : List ℕ) (at n j : ℕ) → j + 4 ≤ n → word_at (sets (replicate n 0) 0 (take n (drop at s))) j ≡ word_at s (at + j)
word_copied s at n j f =
    word_same (sets (replicate n 0) 0 (take n (drop at s))) s j (at + j)
    (λ k h. byte_copied s at n (j + k) (omega arith) ∙ rw (add_assoc at j k))

-- n words in a row
abbrev pub words_from : List ℕ → ℕ → ℕ → List ℕ
words_from s at zero = []
words_from s at (suc n) = word_at s at ∷ words_from s (at + 4) n

length_words_from : (s : List ℕ) (at n : ℕ) → length (words_from s at n) ≡ n
length_words_from s at zero = refl
length_words_from s at (suc n) = ap suc (length_words_from s (at + 4) n)

-- four of them, and the others
pub words_four : (s : List ℕ) (at n : ℕ) → words_from s at (suc (suc (suc (suc n)))) ≡ four_words s at ++ words_from s (at + 16) n
words_four s at n = rw (add_assoc at 4 4, add_assoc at 8 4, add_assoc at 12 4)

module _ (s : List ℕ) (bytes : (k : ℕ) → get_or s k 0 < 256) where
  -- a byte of the words read is the byte that was there
  byte_of_words : (n at j : ℕ) → j < 4 * n → get_or (bytes_of (words_from s at n)) j 0 ≡ get_or s (at + j) 0
  unfolding bytes_of le32 word_at
  byte_of_words zero at j h = absurd (omega arith)
  byte_of_words (suc n) at zero h = rw (add-zero at) (omega (arith, bytes at))
  byte_of_words (suc n) at (suc zero) h = omega (arith, bytes at, bytes (at + 1))
  byte_of_words (suc n) at (suc (suc zero)) h = omega (arith, bytes at, bytes (at + 1), bytes (at + 2))
  byte_of_words (suc n) at (suc (suc (suc zero))) h = omega (arith, bytes at, bytes (at + 1), bytes (at + 2), bytes (at + 3))
  byte_of_words (suc n) at (suc (suc (suc (suc j)))) h =
      let e : at + 4 + j ≡ at + suc (suc (suc (suc j))) = omega arith in
      byte_of_words n (at + 4) j (omega arith) ∙ rw e

  -- the bytes of n words read are the part there, zeros where it ends early
  pub words_part : (at n : ℕ) → bytes_of (words_from s at n) ≡ sets (replicate (4 * n) 0) 0 (take (4 * n) (drop at s))
  words_part at n =
      let p = take (4 * n) (drop at s) in
      let e : length (bytes_of (words_from s at n)) ≡ 4 * n = length_bytes_of (words_from s at n) ∙ rw (length_words_from s at n) in
      ext_get_or 0 (bytes_of (words_from s at n)) (sets (replicate (4 * n) 0) 0 p) (e ∙ sym (length-sets (replicate (4 * n) 0) 0 p ∙ length-replicate (4 * n) 0))
      (λ j h. let l : j < 4 * n = omega (arith, e) in byte_of_words n at j l ∙ sym (byte_copied s at (4 * n) j l))
