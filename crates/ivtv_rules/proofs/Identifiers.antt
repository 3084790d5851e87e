-- Services and their identifiers. Assumes nothing.
use mathlib.Core.Path.{◌≡◌, refl, sym, ◌∙◌}
use Prim.Native.Nat.{ℕ, ◌<◌}
use native.Mathlib.Omega.{arith}
use borrow.Author.Tests.{eqb-true}
use lib.Dec.{eqb}
use Rattle.ivtv_rules.specs.Services.{identifier_of, service_of}
use Rattle.ivtv_rules.proofs.Services.{picked}

-- the identifier of a service names that service
pub service_back : (w : ℕ) → (identifier_of w ≡ 0 → ⊥) → service_of (identifier_of w) ≡ w
unfolding identifier_of service_of
service_back w =
    picked (λ i. (i ≡ 0 → ⊥) → service_of i ≡ w) (eqb w 0x0001) (eqb w 0x1000) (eqb w 0x4000) (eqb w 0x0400) 1 4 5 7
    (λ e n. sym (eqb-true w 0x0001 e)) (λ e n. sym (eqb-true w 0x1000 e)) (λ e n. sym (eqb-true w 0x4000 e)) (λ e n. sym (eqb-true w 0x0400 e))
    (λ n. absurd (n refl))

-- the service of an identifier has that identifier
pub identifier_back : (i : ℕ) → (service_of i ≡ 0 → ⊥) → identifier_of (service_of i) ≡ i
unfolding identifier_of service_of
identifier_back i =
    picked (λ w. (w ≡ 0 → ⊥) → identifier_of w ≡ i) (eqb i 1) (eqb i 4) (eqb i 5) (eqb i 7) 0x0001 0x1000 0x4000 0x0400
    (λ e n. sym (eqb-true i 1 e)) (λ e n. sym (eqb-true i 4 e)) (λ e n. sym (eqb-true i 5 e)) (λ e n. sym (eqb-true i 7 e))
    (λ n. absurd (n refl))

-- 0 is neither
service_some : (i : ℕ) → (service_of i ≡ 0 → ⊥) → i ≡ 0 → ⊥
unfolding service_of
service_some i h e = h (rw e)

identifier_some : (w : ℕ) → (identifier_of w ≡ 0 → ⊥) → w ≡ 0 → ⊥
unfolding identifier_of
identifier_some w h e = h (rw e)

-- an identifier that is there has a service
pub identified : (w : ℕ) → (identifier_of w ≡ 0 → ⊥) → service_of (identifier_of w) ≡ 0 → ⊥
identified w h e = identifier_some w h (sym (service_back w h) ∙ e)

-- a service that is there has an identifier
pub served : (i : ℕ) → (service_of i ≡ 0 → ⊥) → identifier_of (service_of i) ≡ 0 → ⊥
served i h e = service_some i h (sym (identifier_back i h) ∙ e)

-- a service fits a word
pub service_fits : (i : ℕ) → service_of i < 4294967296
unfolding service_of
service_fits i =
    picked (λ w. w < 4294967296) (eqb i 1) (eqb i 4) (eqb i 5) (eqb i 7) 0x0001 0x1000 0x4000 0x0400 (λ e. omega arith) (λ e. omega arith) (λ e. omega arith)
    (λ e. omega arith) (omega arith)
