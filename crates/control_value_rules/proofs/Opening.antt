-- The values at opening are the defaults. Assumes nothing.
use Prim.Native.Nat.{ℕ, zero, suc, ◌+◌, ◌≤◌, ◌<◌}
use mathlib.Core.Path.{◌≡◌, refl, ap, ◌∙◌}
use mathlib.Core.Bool.{Bool, true, false}
use mathlib.Core.List.{List}
use native.Mathlib.Omega.{arith}
use borrow.Author.Tests.{ltb-true, ltb-false}
use lib.Dec.{ltb}
use lib.ListN.{length, get_or, set, length-set}
use lib.Seq.{get_or-set_same, get_or-set_other}
use Rattle.wire_read.specs.Words.{word_at}
use Rattle.wire_signed.specs.Signed.{signed, signed_at}
use Rattle.sheet_contents.specs.Contents.{control_at}
use Rattle.sheet_records.specs.Records.{limits_of}
use Rattle.control_place_rules.specs.Find.{present}
use Rattle.control_value_rules.specs.Values.{default_values, opening_values}

values_length : (s : List ℕ) (n : ℕ) → length (default_values s n) ≡ 32
unfolding default_values
values_length s zero = refl
values_length s (suc n) = simp length-set (values_length s n)

pub opening_length : (s : List ℕ) → length (opening_values s) ≡ 32
unfolding opening_values
opening_length s = values_length s (present s)

default_at : (s : List ℕ) (n k : ℕ) → n ≤ 32 → k < n → get_or (default_values s n) k 0 ≡ word_at s (control_at s k + 52)
unfolding default_values
default_at s zero k h l = absurd (omega arith)
default_at s (suc n) k h l = by (ltb k n) refl (λ m. default_at s n k (omega arith) m)
  where
    by : (t : Bool) → ltb k n ≡ t → (k < n → get_or (default_values s n) k 0 ≡ word_at s (control_at s k + 52))
        → get_or (set (default_values s n) n (word_at s (control_at s n + 52))) k 0 ≡ word_at s (control_at s k + 52)
    by true e f =
        let m = ltb-true k n e in
        get_or-set_other (default_values s n) n k (word_at s (control_at s n + 52)) 0 (λ q. omega arith) ∙ f m
    by false e f =
        let q : k ≡ n = omega (arith, ltb-false k n e) in
        rw q (get_or-set_same (default_values s n) n (word_at s (control_at s n + 52)) 0 (omega (arith, values_length s n)))

-- the value of each control is its default
pub opening_value : (s : List ℕ) (k : ℕ) → k < present s → signed (get_or (opening_values s) k 0) ≡ (limits_of s k).initial
unfolding opening_values limits_of signed_at present
opening_value s k h = ap signed (default_at s (present s) k (omega arith) h)
