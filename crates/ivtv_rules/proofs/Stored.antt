-- Lines and records put together in an array, and stored from there. Assumes nothing.
use mathlib.Core.Path.{◌≡◌, ap, ◌∙◌}
use mathlib.Core.List.{List, [], ◌∷◌, ◌++◌}
use Prim.Native.Nat.{ℕ, suc, ◌+◌, ◌/◌, ◌%◌, ◌≤◌}
use native.Mathlib.Omega.{arith}
use lib.ListN.{length, get_or, take, drop, set, replicate, length-replicate, length-append, length-take, length-drop}
use lib.Seq.{sets, length-sets, take_all}
use Rattle.wire_read.specs.Words.{word_at, bytes_of}
use Rattle.wire_read.proofs.Words.{length_bytes_of}
use Rattle.wire_read.proofs.Stores.{sets_append, sets_after, over_zeros}
use Rattle.ivtv_rules.specs.Services.{identifier_of, service_of, payload_of}
use Rattle.ivtv_rules.specs.Lines.{zeroed, line_of, record_of}

pub length_zeroed : (n p : ℕ) (l : List ℕ) → length (zeroed n p l) ≡ n
unfolding zeroed
length_zeroed n p l = length-sets (replicate n 0) 0 (take p l) ∙ length-replicate n 0

-- the words before the payload of a record
abbrev pub head_of : ℕ → List ℕ → List ℕ
head_of k l = service_of (get_or l 0 0) ∷ k / 18 ∷ (6 + k % 18) ∷ 0 ∷ []

-- a line has 43 bytes, and a record 64
pub length_line : (r : List ℕ) → length (line_of r) ≡ 43
unfolding line_of
length_line r = ap suc (length_zeroed 42 (payload_of (identifier_of (word_at r 0))) (drop 16 r))

pub length_record : (k : ℕ) (l : List ℕ) → length (record_of k l) ≡ 64
unfolding record_of
length_record k l =
    length-append (bytes_of (head_of k l)) (zeroed 48 42 (drop 1 l)) ∙ rw (length_zeroed 48 42 (drop 1 l), length_bytes_of (head_of k l))

-- what was put together over zeros is stored whole
whole : (n : ℕ) (l : List ℕ) → length l ≡ n → take n (drop 0 l) ≡ l
whole n l e = take_all n l (omega (arith, e))

behind_first : (m x p : ℕ) (l : List ℕ) → sets (set (replicate (suc m) 0) 0 x) 1 (take p l) ≡ x ∷ zeroed m p l
unfolding zeroed
behind_first m x p l = sets_after (x ∷ []) (replicate m 0) (take p l)

pub line_stored : (b r : List ℕ) (at i p : ℕ) → i ≡ identifier_of (word_at r 0) → p ≡ payload_of i
    → sets b at (take 43 (drop 0 (sets (set (replicate 43 0) 0 i) 1 (take p (drop 16 r))))) ≡ sets b at (line_of r)
unfolding line_of
line_stored b r at i p e f =
    rw (f, e, behind_first 42 (identifier_of (word_at r 0)) (payload_of (identifier_of (word_at r 0))) (drop 16 r))
    (ap (sets b at) (whole 43 (line_of r) (length_line r)))

behind_words : (n m : ℕ) (ws l : List ℕ) → length (bytes_of ws) + m ≡ n → sets (sets (replicate n 0) 0 (bytes_of ws)) (length (bytes_of ws)) (take 42 l) ≡ bytes_of ws ++ zeroed m 42 l
unfolding zeroed
behind_words n m ws l e = rw (over_zeros (bytes_of ws) n m e) (sets_after (bytes_of ws) (replicate m 0) (take 42 l))

pub record_stored : (b l : List ℕ) (at k s : ℕ) → s ≡ service_of (get_or l 0 0)
    → sets b at (take 64 (drop 0 (sets (sets (replicate 64 0) 0 (bytes_of (s ∷ k / 18 ∷ (6 + k % 18) ∷ 0 ∷ []))) 16 (take 42 (drop 1 l))))) ≡ sets b at (record_of k l)
unfolding record_of
record_stored b l at k s e =
    let n : length (bytes_of (head_of k l)) ≡ 16 = length_bytes_of (head_of k l) in
    rw (e, rw n at (behind_words 64 48 (head_of k l) (drop 1 l) (omega (arith, n))))
    (ap (sets b at) (whole 64 (record_of k l) (length_record k l)))

-- or each part where it belongs, in a row
pub record_direct : (b l : List ℕ) (at k s : ℕ) → 43 ≤ length l → s ≡ service_of (get_or l 0 0)
    → sets (sets (sets b at (bytes_of (s ∷ k / 18 ∷ (6 + k % 18) ∷ 0 ∷ []))) (at + 16) (take 42 (drop 1 l))) (at + 58) (replicate 6 0) ≡ sets b at (record_of k l)
unfolding record_of zeroed
record_direct b l at k s h e =
    let d = take 42 (drop 1 l) in
    let n : length (bytes_of (head_of k l)) ≡ 16 = length_bytes_of (head_of k l) in
    let m : length d ≡ 42 = omega (arith, length-take 42 (drop 1 l), length-drop 1 l) in
    let q : at + 16 + 42 ≡ at + 58 = omega arith in
    rw (e, over_zeros d 48 6 (omega (arith, m)), sets_append (bytes_of (head_of k l)) (d ++ replicate 6 0) b at, n, sets_append d (replicate 6 0) (sets b at (bytes_of (head_of k l))) (at + 16), m, q)
