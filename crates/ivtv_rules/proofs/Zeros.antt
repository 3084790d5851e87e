-- A line looked at by its parts, or in a copy. Assumes nothing.
use mathlib.Core.Path.{◌≡◌, refl, ap, ap₂, ◌∙◌}
use mathlib.Core.Bool.{Bool, not, ◌&&◌}
use mathlib.Core.List.{List}
use Prim.Native.Nat.{ℕ, zero, suc, ◌+◌, ◌-◌, ◌<◌}
use native.Mathlib.Nat.{zero-add}
use native.Mathlib.Omega.{arith}
use lib.Dec.{eqb}
use lib.ListN.{get_or, take, drop, replicate}
use lib.Seq.{sets}
use Rattle.wire_read.proofs.Words.{byte_copied}
use Rattle.sheet_rules.specs.Folds.{all_below}
use Rattle.ivtv_rules.specs.Services.{service_of, payload_of}
use Rattle.ivtv_rules.specs.Lines.{good_line}

-- tests that agree
all_same : (n : ℕ) (p q : ℕ → Bool) → ((k : ℕ) → k < n → p k ≡ q k) → all_below n p ≡ all_below n q
unfolding all_below
all_same zero p q h = refl
all_same (suc n) p q h = ap₂ ◌&&◌ (all_same n p q (λ k l. h k (omega arith))) (h n (omega arith))

-- a byte of the copy
pub copied : (l : List ℕ) (j : ℕ) → j < 43 → get_or (sets (replicate 43 0) 0 (take 43 (drop 0 l))) j 0 ≡ get_or l j 0
copied l j h = byte_copied l 0 43 j h ∙ ap (λ (k : ℕ). get_or l k 0) (zero-add j)

-- a line by its parts
pub good_told : (l : List ℕ) (p s : ℕ) (t : Bool) → p ≡ payload_of (get_or l 0 0) → s ≡ service_of (get_or l 0 0)
    → t ≡ all_below (42 - p) (λ j. eqb (get_or l (1 + p + j) 0) 0) → (not (eqb s 0) && t) ≡ good_line l
unfolding good_line
good_told l p s t ep es et = rw (← ep, ← es) (ap (λ (x : Bool). not (eqb s 0) && x) et)

-- a line that reads as another
pub good_same : (l c : List ℕ) → ((j : ℕ) → j < 43 → get_or c j 0 ≡ get_or l j 0) → good_line c ≡ good_line l
unfolding good_line
good_same l c same =
    let p = payload_of (get_or l 0 0) in
    rw (same 0 (omega arith))
    (ap (λ (x : Bool). not (eqb (service_of (get_or l 0 0)) 0) && x)
    (all_same (42 - p) (λ j. eqb (get_or c (1 + p + j) 0) 0) (λ j. eqb (get_or l (1 + p + j) 0) 0) (λ j h. ap (λ (x : ℕ). eqb x 0) (same (1 + p + j) (omega arith)))))
