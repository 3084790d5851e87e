-- What holds of the services in a block. Assumes nothing.
use mathlib.Core.Path.{◌≡◌, refl}
use mathlib.Core.Bool.{Bool, true, false, cond}
use Prim.Native.Nat.{ℕ, ◌≤◌}
use native.Mathlib.Omega.{arith}
use lib.Dec.{eqb}
use Rattle.ivtv_rules.specs.Services.{payload_of}

-- what holds of the number in each of four rows where its test passes, and of 0, holds of the first that is found
pub picked : (P : ℕ → Type 0) (a b c d : Bool) (p q r s : ℕ) → (a ≡ true → P p) → (b ≡ true → P q) → (c ≡ true → P r) → (d ≡ true → P s) → P 0
    → P (cond a p (cond b q (cond c r (cond d s 0))))
picked P true b c d p q r s e f g h z = e refl
picked P false true c d p q r s e f g h z = f refl
picked P false false true d p q r s e f g h z = g refl
picked P false false false true p q r s e f g h z = h refl
picked P false false false false p q r s e f g h z = z

-- no payload is longer than the 42 bytes of a line
pub payload_most : (i : ℕ) → payload_of i ≤ 42
unfolding payload_of
payload_most i =
    picked (λ n. n ≤ 42) (eqb i 1) (eqb i 4) (eqb i 5) (eqb i 7) 42 2 2 13 (λ e. omega arith) (λ e. omega arith) (λ e. omega arith) (λ e. omega arith) (omega arith)
