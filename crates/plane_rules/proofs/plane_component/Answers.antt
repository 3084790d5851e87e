-- The planes of the code that was found. Assumes nothing.
use mathlib.Core.Path.{◌∙◌}
use mathlib.Core.List.{[], ◌∷◌}
use borrow.Author.Rules.{rules}
use borrow.Author.Tests.{ne_eqb}
use Rattle.format_rules.specs.Code.{YU12, YV12, NV12}
use Rattle.plane_rules.specs.declared.Component.TheVariants.{Nothing, Packed, Luma, CbCr}
use Rattle.plane_rules.specs.Planes.{component_of, planes_of}
use Rattle.plane_rules.proofs.Order.{nothing_more}
use Rattle.plane_rules.proofs.plane_component.Goals as goal

pub returns-in-842093913 : goal.returns-in-842093913
unfolding component_of planes_of
returns-in-842093913 c = rw c.in-842093913.is c.among.ensures

pub returns-in-842094169 : goal.returns-in-842094169
unfolding component_of planes_of
returns-in-842094169 c = rw c.in-842094169.is c.among-in-842094169.ensures

pub returns-in-842094158 : goal.returns-in-842094158
unfolding component_of planes_of
returns-in-842094158 c = rw c.in-842094158.is (c.among-in-842094158.ensures ∙ nothing_more (Luma ∷ CbCr ∷ []) c.args.k)

pub returns-in_default : goal.returns-in_default
unfolding component_of planes_of
returns-in_default c =
    let a = c.args.code in
    rw (ne_eqb a YU12 (search rules), ne_eqb a YV12 (search rules), ne_eqb a NV12 (search rules))
    (c.among-in_default.ensures ∙ nothing_more (Packed ∷ Nothing ∷ []) c.args.k ∙ nothing_more (Packed ∷ []) c.args.k)
