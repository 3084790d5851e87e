-- The numbers are the definition's. Assumes nothing.
use Prim.Native.Nat.{ℕ}
use mathlib.Core.Path.{◌≡◌}
use mathlib.Core.Bool.{true}
use mathlib.Core.Logic.{◌⊎◌, ⊎_elim}
use borrow.Author.Rules.{rules}
use borrow.Author.Tests.{ne_eqb}
use Rattle.sheet_rules.specs.Rules.{alignment_ok}
use Rattle.sheet_geometry_check.proofs.alignment_ok.Goals as goal

-- each of the six passes
one_of : (a : ℕ) → (a ≡ 2) ⊎ ((a ≡ 4) ⊎ ((a ≡ 8) ⊎ ((a ≡ 16) ⊎ ((a ≡ 32) ⊎ (a ≡ 64))))) → true ≡ alignment_ok a
unfolding alignment_ok
one_of a h =
    ⊎_elim (λ e. rw e) (λ h2.
    ⊎_elim (λ e. rw e) (λ h3.
    ⊎_elim (λ e. rw e) (λ h4.
    ⊎_elim (λ e. rw e) (λ h5.
    ⊎_elim (λ e. rw e) (λ e. rw e) h5) h4) h3) h2) h

pub returns-in-2 : goal.returns-in-2
returns-in-2 c = one_of c.args.a c.in-2.is

pub returns-in_default : goal.returns-in_default
unfolding alignment_ok
returns-in_default c =
    let a = c.args.a in
    rw (
      ne_eqb a 2 (search rules),
      ne_eqb a 4 (search rules),
      ne_eqb a 8 (search rules),
      ne_eqb a 16 (search rules),
      ne_eqb a 32 (search rules),
      ne_eqb a 64 (search rules),
    )
