-- The codes are the definition's. Assumes nothing.
use borrow.Author.Rules.{rules}
use borrow.Author.Tests.{ne_eqb}
use mathlib.Core.Logic.{⊎_elim}
use Rattle.format_rules.specs.Code.{YU12, YV12, NV12, half_chroma}
use Rattle.format_rules.proofs.code.half_chroma.Goals as goal

pub returns-in-842093913 : goal.returns-in-842093913
unfolding half_chroma
returns-in-842093913 c = ⊎_elim (λ e. rw e) (λ h. ⊎_elim (λ e. rw e) (λ e. rw e) h) c.in-842093913.is

pub returns-in_default : goal.returns-in_default
unfolding half_chroma
returns-in_default c =
    let a = c.args.code in
    rw (ne_eqb a YU12 (search rules), ne_eqb a YV12 (search rules), ne_eqb a NV12 (search rules))
