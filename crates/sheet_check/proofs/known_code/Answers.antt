-- The codes are the definition's. Assumes nothing.
use Prim.Native.Nat.{ℕ}
use mathlib.Core.Path.{◌≡◌}
use mathlib.Core.Bool.{true}
use mathlib.Core.Logic.{◌⊎◌, ⊎_elim}
use borrow.Author.Rules.{rules}
use borrow.Author.Tests.{ne_eqb}
use Rattle.sheet_rules.specs.Rules.{known_code}
use Rattle.sheet_check.proofs.known_code.Goals as goal

-- each of the nine passes
one_of : (a : ℕ) → (a ≡ 0x32315559) ⊎ ((a ≡ 0x3231564E) ⊎ ((a ≡ 0x32315659) ⊎ ((a ≡ 0x33424752) ⊎ ((a ≡ 0x33524742) ⊎ ((a ≡ 0x50424752) ⊎ ((a ≡ 0x56595559) ⊎ ((a ≡ 0x59455247) ⊎ (a ≡ 0x59565955)))))))) → true ≡ known_code a
unfolding known_code
one_of a h =
    ⊎_elim (λ e. rw e) (λ h1.
    ⊎_elim (λ e. rw e) (λ h2.
    ⊎_elim (λ e. rw e) (λ h3.
    ⊎_elim (λ e. rw e) (λ h4.
    ⊎_elim (λ e. rw e) (λ h5.
    ⊎_elim (λ e. rw e) (λ h6.
    ⊎_elim (λ e. rw e) (λ h7.
    ⊎_elim (λ e. rw e) (λ e. rw e) h7) h6) h5) h4) h3) h2) h1) h

pub returns-in-1497715271 : goal.returns-in-1497715271
returns-in-1497715271 c = one_of c.args.c c.in-1497715271.is

pub returns-in_default : goal.returns-in_default
unfolding known_code
returns-in_default c =
    let a = c.args.c in
    rw (
      ne_eqb a 0x59455247 (search rules),
      ne_eqb a 0x56595559 (search rules),
      ne_eqb a 0x59565955 (search rules),
      ne_eqb a 0x50424752 (search rules),
      ne_eqb a 0x33424752 (search rules),
      ne_eqb a 0x33524742 (search rules),
      ne_eqb a 0x32315559 (search rules),
      ne_eqb a 0x32315659 (search rules),
      ne_eqb a 0x3231564E (search rules),
    )
