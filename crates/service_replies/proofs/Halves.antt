-- Numbers of 16 bits in lists of bytes: what was stored is read back, wherever it was put. Assumes nothing.
use mathlib.Core.Path.{◌≡◌, refl, ◌∙◌}
use mathlib.Core.List.{List, [], ◌∷◌, ◌++◌}
use Prim.Native.Nat.{ℕ, zero, suc, ◌+◌, ◌*◌, ◌%◌, ◌≤◌, ◌<◌}
use native.Mathlib.Nat.{add-zero, zero-add, add_assoc}
use native.Mathlib.Numerals.{add-one}
use native.Mathlib.Omega.{arith}
use lib.ListN.{length, get_or, drop}
use lib.Seq.{sets, drop-cons, get_or-drop}
use Rattle.wire_read.specs.Words.{word_at}
use Rattle.wire_read.proofs.Stores.{sets_append, sets_before, sets_behind, sets_at}
use Rattle.service_replies.specs.Halves.{half_at, le16, halves_of}

-- the lower half of a word
pub low_half : (s : List ℕ) (at : ℕ) → get_or s at 0 < 256 → get_or s (at + 1) 0 < 256 → word_at s at % 65536 ≡ half_at s at
unfolding word_at half_at
low_half s at h g = omega arith

-- where two bytes of two lists agree, so do the numbers
pub half_same : (s t : List ℕ) (i j : ℕ) → ((k : ℕ) → k < 2 → get_or s (i + k) 0 ≡ get_or t (j + k) 0) → half_at s i ≡ half_at t j
unfolding half_at
half_same s t i j h =
    let e = rw (add-zero i, add-zero j) at (h 0 (omega arith)) in
    omega (arith, h 1 (omega arith))

-- a number before or behind a run of stores is as it was
pub half_before : (vs l : List ℕ) (at j : ℕ) → j + 2 ≤ at → half_at (sets l at vs) j ≡ half_at l j
half_before vs l at j f = half_same (sets l at vs) l j j (λ k h. sets_before vs l at (j + k) 0 (omega arith))

pub half_behind : (vs l : List ℕ) (at j : ℕ) → at + length vs ≤ j → half_at (sets l at vs) j ≡ half_at l j
half_behind vs l at j f = half_same (sets l at vs) l j j (λ k h. sets_behind vs l at (j + k) 0 (omega arith))

-- a number of a run of stores that fits is the run's
pub half_stored : (vs l : List ℕ) (at k : ℕ) → k + 2 ≤ length vs → at + length vs ≤ length l → half_at (sets l at vs) (at + k) ≡ half_at vs k
half_stored vs l at k f g =
    half_same (sets l at vs) vs (at + k) k (λ i h. rw (add_assoc at k i) (sets_at vs l at (k + i) 0 (omega arith) (omega arith)))

-- the number of a list's rest
half_drop : (s : List ℕ) (n at : ℕ) → half_at (drop n s) at ≡ half_at s (n + at)
half_drop s n at = half_same (drop n s) s at (n + at) (λ k h. get_or-drop n s (at + k) 0 ∙ rw (add_assoc n at k))

-- its two bytes are read as that number
half_of_le16 : (h : ℕ) (vs : List ℕ) → h < 65536 → half_at (le16 h ++ vs) 0 ≡ h
unfolding half_at le16
half_of_le16 h vs f = omega arith

-- n numbers are 2 n bytes
pub length_halves_of : (hs : List ℕ) → length (halves_of hs) ≡ 2 * length hs
unfolding halves_of le16
length_halves_of [] = refl
length_halves_of (h ∷ hs) = let e = length_halves_of hs in omega arith

-- the number k of a run is the one that was stored there
pub half_of : (hs : List ℕ) (k : ℕ) → k < length hs → get_or hs k 0 < 65536 → half_at (halves_of hs) (2 * k) ≡ get_or hs k 0
unfolding halves_of le16
half_of [] k l b = absurd (omega arith)
half_of (h ∷ hs) zero l b = half_of_le16 h (halves_of hs) b
half_of (h ∷ hs) (suc k) l b =
    let e : 2 * suc k ≡ 2 + 2 * k = omega arith in
    rw (e, ← half_drop (le16 h ++ halves_of hs) 2 (2 * k)) (half_of hs k (omega arith) b)

-- a number stored where it fits is read there
pub half_back : (l : List ℕ) (at h : ℕ) → at + 2 ≤ length l → h < 65536 → half_at (sets l at (le16 h)) at ≡ h
unfolding le16
half_back l at h f b =
    half_same (sets l at (le16 h)) (le16 h ++ []) at 0 (λ k g. rw (zero-add k) (sets_at (le16 h) l at k 0 g (omega arith))) ∙ half_of_le16 h [] b

-- one turn of a loop that stores numbers from a place on
pub halves_turn : (l hs : List ℕ) (at i : ℕ) → i < length hs
    → sets l (at + 2 * i) (halves_of (drop i hs)) ≡ sets (sets l (at + 2 * i) (le16 (get_or hs i 0))) (at + 2 * (i + 1)) (halves_of (drop (i + 1) hs))
unfolding halves_of le16
halves_turn l hs at i h =
    let e : at + 2 * (i + 1) ≡ at + 2 * i + 2 = omega arith in
    rw (e, add-one i, drop-cons hs i 0 h) (sets_append (le16 (get_or hs i 0)) (halves_of (drop (suc i) hs)) l (at + 2 * i))
