-- The first number below a bound that passes a test.
use Rattle.std.specs.Prelude.{ℕ, zero, suc, Bool, cond}

-- from k on, among n numbers; the number behind them where none passes
unfoldable pub first_from : (ℕ → Bool) → ℕ → ℕ → ℕ
first_from p k zero = k
first_from p k (suc n) = cond (p k) k (first_from p (suc k) n)

-- below n, or n
unfoldable pub first_below : (ℕ → Bool) → ℕ → ℕ
first_below p n = first_from p 0 n
