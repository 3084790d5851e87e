-- Lists of one length, one after the other, and the pieces of them. Assumes nothing.
use mathlib.Core.Path.{◌≡◌, refl, ◌∙◌}
use mathlib.Core.Bool.{Bool, true, false, cond}
use mathlib.Core.List.{List, [], ◌++◌, append-nil, append_assoc}
use Prim.Native.Nat.{ℕ, zero, suc, ◌+◌, ◌*◌, ◌<◌}
use native.Mathlib.Nat.{add-zero, mul-add, mul-one}
use native.Mathlib.Omega.{arith}
use borrow.Author.Tests.{ltb-true, ltb-false}
use lib.Dec.{ltb}
use lib.ListN.{length, take, drop}
use lib.Seq.{take_at, drop_at, drop-drop, drop-append-add, take-add}
use Rattle.service_rules.specs.Negotiation.{count_below}
use Rattle.ivtv_rules.specs.Block.{joined}
use Rattle.ivtv_rules.proofs.Joined.{joined_length}

-- each of the first n lists has w elements where its number passes, and else none
abbrev pub Wide : ℕ → (ℕ → Bool) → (ℕ → List ℕ) → ℕ → Type 0
Wide w p f n = (k : ℕ) → k < n → length (f k) ≡ w * cond (p k) 1 0

-- the list of a number that passes stands behind as many as pass before it
joined_piece : (w : ℕ) (p : ℕ → Bool) (f : ℕ → List ℕ) (n : ℕ) → Wide w p f n → (k : ℕ) → k < n → p k ≡ true → (rest : List ℕ)
    → take w (drop (w * count_below k p) (joined f n ++ rest)) ≡ f k
unfolding joined
joined_piece w p f zero s k h e rest = absurd (omega arith)
joined_piece w p f (suc n) s k h e rest = rw append_assoc (by (ltb k n) refl (joined_piece w p f n (λ i l. s i (omega arith)) k))
  where
    by : (b : Bool) → ltb k n ≡ b → (k < n → p k ≡ true → (r : List ℕ) → take w (drop (w * count_below k p) (joined f n ++ r)) ≡ f k)
        → take w (drop (w * count_below k p) (joined f n ++ (f n ++ rest))) ≡ f k
    by true l i = i (ltb-true k n l) e (f n ++ rest)
    by false l i =
        let q : k ≡ n = omega (arith, ltb-false k n l) in
        let m : length (f n) ≡ w = s n (omega arith) ∙ rw (← q, e) (mul-one w) in
        rw (q, drop_at (joined f n) (f n ++ rest) (w * count_below n p) (joined_length w p f n (λ i l. s i (omega arith))), take_at (f n) rest w m)

-- the same behind a head
pub piece : (w : ℕ) (p : ℕ → Bool) (f : ℕ → List ℕ) (n : ℕ) → Wide w p f n → (head : List ℕ) (a : ℕ) → length head ≡ a → (k : ℕ) → k < n → p k ≡ true
    → take w (drop (a + w * count_below k p) (head ++ joined f n)) ≡ f k
piece w p f n s head a e k h t =
    rw (← e, drop-append-add head (joined f n) (w * count_below k p), ← append-nil (joined f n)) (joined_piece w p f n s k h t [])

-- the pieces of a list, one after the other, are the list from their start on
pub joined_pieces : (w a : ℕ) (p : ℕ → Bool) (b : List ℕ) (n : ℕ)
    → joined (λ k. cond (p k) (take w (drop (a + w * count_below k p) b)) []) n ≡ take (w * count_below n p) (drop a b)
unfolding joined count_below
joined_pieces w a p b zero = let z : w * 0 ≡ 0 = omega arith in rw z
joined_pieces w a p b (suc n) = rw (joined_pieces w a p b n) (by (p n))
  where
    by : (t : Bool) → take (w * count_below n p) (drop a b) ++ cond t (take w (drop (a + w * count_below n p) b)) [] ≡ take (w * (count_below n p + cond t 1 0)) (drop a b)
    by true =
        rw (mul-add w (count_below n p) 1, mul-one w, take-add (w * count_below n p) w (drop a b), drop-drop (w * count_below n p) a b)
    by false = rw (add-zero (count_below n p)) (append-nil (take (w * count_below n p) (drop a b)))
