-- The codes are the definition's. Assumes nothing.
use borrow.Author.Rules.{rules}
use borrow.Author.Tests.{ne_eqb}
use mathlib.Core.Logic.{⊎_elim}
use Rattle.format_rules.specs.Code.{RGBP, RGB3, BGR3, colour_space}
use Rattle.format_rules.proofs.code.colour_space.Goals as goal

pub returns-in-859981650 : goal.returns-in-859981650
unfolding colour_space
returns-in-859981650 c = ⊎_elim (λ e. rw e) (λ h. ⊎_elim (λ e. rw e) (λ e. rw e) h) c.in-859981650.is

pub returns-in_default : goal.returns-in_default
unfolding colour_space
returns-in_default c =
    let a = c.args.code in
    rw (ne_eqb a RGBP (search rules), ne_eqb a RGB3 (search rules), ne_eqb a BGR3 (search rules))
