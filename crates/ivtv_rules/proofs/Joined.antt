-- Lists one after the other. Assumes nothing.
use mathlib.Core.Path.{◌≡◌, refl, sym, ap₂, ◌∙◌}
use mathlib.Core.Bool.{Bool, true, false, cond}
use mathlib.Core.List.{List, ◌++◌}
use Prim.Native.Nat.{ℕ, zero, suc, ◌+◌, ◌*◌, ◌≤◌, ◌<◌}
use native.Mathlib.Nat.{mul-add}
use borrow.Author.Tests.{ltb-true, ltb-false}
use lib.Dec.{ltb}
use native.Mathlib.Numerals.{add-one}
use native.Mathlib.Omega.{arith}
use lib.ListN.{length, length-append}
use lib.Seq.{sets}
use Rattle.wire_read.proofs.Stores.{sets_append}
use Rattle.service_rules.specs.Negotiation.{count_below}
use Rattle.ivtv_rules.specs.Block.{joined}

-- one list more
pub joined_more : (f : ℕ → List ℕ) (n : ℕ) → joined f (n + 1) ≡ joined f n ++ f n
unfolding joined
joined_more f n = rw add-one

-- functions that agree
pub joined_same : (f g : ℕ → List ℕ) (n : ℕ) → ((k : ℕ) → k < n → f k ≡ g k) → joined f n ≡ joined g n
unfolding joined
joined_same f g zero h = refl
joined_same f g (suc n) h = ap₂ ◌++◌ (joined_same f g n (λ k l. h k (omega arith))) (h n (omega arith))

-- more of them are as long or longer
pub joined_grows : (f : ℕ → List ℕ) (k n : ℕ) → k ≤ n → length (joined f k) ≤ length (joined f n)
unfolding joined
joined_grows f k zero h = let e : k ≡ 0 = omega arith in rw e (omega arith)
joined_grows f k (suc n) h = by (ltb n k) refl (joined_grows f k n)
  where
    by : (t : Bool) → ltb n k ≡ t → (k ≤ n → length (joined f k) ≤ length (joined f n)) → length (joined f k) ≤ length (joined f n ++ f n)
    by true e g = let q : k ≡ suc n = omega (arith, ltb-true n k e) in rw q (omega arith)
    by false e g = omega (arith, g (ltb-false n k e), length-append (joined f n) (f n))

-- where each list has w elements or none, as many times w as have them
pub joined_length : (w : ℕ) (p : ℕ → Bool) (f : ℕ → List ℕ) (n : ℕ) → ((k : ℕ) → k < n → length (f k) ≡ w * cond (p k) 1 0) → length (joined f n) ≡ w * count_below n p
unfolding joined count_below
joined_length w p f zero h = omega arith
joined_length w p f (suc n) h =
    length-append (joined f n) (f n)
    ∙ ap₂ ◌+◌ (joined_length w p f n (λ k l. h k (omega arith))) (h n (omega arith))
    ∙ sym (mul-add w (count_below n p) (cond (p n) 1 0))

-- the lists of f stored one after the other from a place on: x holds the first k, and y one more, stored behind them
module _ (b x y : List ℕ) (f : ℕ → List ℕ) (start at k : ℕ) (ex : x ≡ sets b start (joined f k)) (ea : at ≡ start + length (joined f k)) where
  pub stored_more : y ≡ sets x at (f k) → y ≡ sets b start (joined f (k + 1))
  stored_more e = e ∙ rw (ex, ea, joined_more f k) (sym (sets_append (joined f k) (f k) b start))

  pub place_more : (z : ℕ) → z ≡ at + length (f k) → z ≡ start + length (joined f (k + 1))
  place_more z e = rw (joined_more f k) (omega (arith, e, ea, length-append (joined f k) (f k)))
