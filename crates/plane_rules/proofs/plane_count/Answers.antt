-- The length of the list of planes. Assumes nothing.
use borrow.Author.Rules.{rules}
use borrow.Author.Tests.{ne_eqb}
use mathlib.Core.Logic.{⊎_elim}
use Rattle.format_rules.specs.Code.{YU12, YV12, NV12}
use Rattle.plane_rules.specs.Planes.{plane_count, planes_of}
use Rattle.plane_rules.proofs.plane_count.Goals as goal

pub returns-in-842093913 : goal.returns-in-842093913
unfolding plane_count planes_of
returns-in-842093913 c = ⊎_elim (λ e. rw e) (λ e. rw e) c.in-842093913.is

pub returns-in-842094158 : goal.returns-in-842094158
unfolding plane_count planes_of
returns-in-842094158 c = rw c.in-842094158.is

pub returns-in_default : goal.returns-in_default
unfolding plane_count planes_of
returns-in_default c =
    let a = c.args.code in
    rw (ne_eqb a YU12 (search rules), ne_eqb a YV12 (search rules), ne_eqb a NV12 (search rules))
