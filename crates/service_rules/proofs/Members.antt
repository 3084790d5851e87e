-- Sets of services. Assumes nothing.
use mathlib.Core.Path.{◌≡◌, refl}
use mathlib.Core.Bool.{Bool, true, false, cond}
use Prim.Native.Nat.{ℕ, ◌+◌, ◌≤◌}
use native.Mathlib.Omega.{arith}
use Rattle.service_rules.specs.Services.{Service, teletext_b, vps, caption525, wss625, Each, has, set_of}

-- what holds of each by what does
pub each : {P Q : Service → Type 0} → ((s : Service) → P s → Q s) → Each P → Each Q
each f e = (f teletext_b e.0, f vps e.1, f caption525 e.2, f wss625 e.3)

pub each_of_two : {P Q R : Service → Type 0} → ((s : Service) → P s → Q s → R s) → Each P → Each Q → Each R
each_of_two f d e = (f teletext_b d.0 e.0, f vps d.1 e.1, f caption525 d.2 e.2, f wss625 d.3 e.3)

abbrev bits_of : Bool → Bool → Bool → Bool → ℕ
bits_of a b c d = cond a 0x0001 0 + (cond b 0x0400 0 + (cond c 0x1000 0 + (cond d 0x4000 0 + 0)))

sixteen : (a b c d : Bool) → (has (bits_of a b c d) 0x0001 ≡ a) × (has (bits_of a b c d) 0x0400 ≡ b) × (has (bits_of a b c d) 0x1000 ≡ c) × (has (bits_of a b c d) 0x4000 ≡ d)
unfolding has
sixteen true true true true = (refl, refl, refl, refl)
sixteen true true true false = (refl, refl, refl, refl)
sixteen true true false true = (refl, refl, refl, refl)
sixteen true true false false = (refl, refl, refl, refl)
sixteen true false true true = (refl, refl, refl, refl)
sixteen true false true false = (refl, refl, refl, refl)
sixteen true false false true = (refl, refl, refl, refl)
sixteen true false false false = (refl, refl, refl, refl)
sixteen false true true true = (refl, refl, refl, refl)
sixteen false true true false = (refl, refl, refl, refl)
sixteen false true false true = (refl, refl, refl, refl)
sixteen false true false false = (refl, refl, refl, refl)
sixteen false false true true = (refl, refl, refl, refl)
sixteen false false true false = (refl, refl, refl, refl)
sixteen false false false true = (refl, refl, refl, refl)
sixteen false false false false = (refl, refl, refl, refl)

-- a service is in the set of those that pass exactly if it passes
pub in_set : (p : Service → Bool) → Each (λ s. has (set_of p) s.bit ≡ p s)
unfolding set_of
in_set p = sixteen (p teletext_b) (p vps) (p caption525) (p wss625)

-- tests that agree give one set
pub set_same : (p q : Service → Bool) → Each (λ s. p s ≡ q s) → set_of p ≡ set_of q
unfolding set_of
set_same p q e = rw (e.0, e.1, e.2, e.3)

-- nothing else is in a set of services
pub set_again : (p : Service → Bool) → set_of (λ s. has (set_of p) s.bit) ≡ set_of p
set_again p = set_same _ _ (in_set p)

at_most : (b : Bool) (n : ℕ) → cond b n 0 ≤ n
at_most true n = omega arith
at_most false n = omega arith

-- all four together
pub set_most : (p : Service → Bool) → set_of p ≤ 0x5401
unfolding set_of
set_most p = omega (arith, at_most (p teletext_b) 0x0001, at_most (p vps) 0x0400, at_most (p caption525) 0x1000, at_most (p wss625) 0x4000)
