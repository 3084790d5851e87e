-- The invariant: the values so far are those of the controls passed. Assumes nothing.
use mathlib.Core.Path.{◌≡◌, refl, ap, ◌∙◌}
use Prim.Native.Nat.{ℕ, ◌+◌}
use native.Mathlib.Omega.{arith}
use native.Mathlib.Nat.{le_antisymm}
use native.Mathlib.Numerals.{add-one}
use borrow.Author.Rules.{rules}
use mathlib.Core.List.{List}
use lib.ListN.{set}
use Rattle.wire_read.specs.Words.{word_at}
use Rattle.sheet_contents.specs.Contents.{control_at}
use Rattle.control_place_rules.specs.Find.{present}
use Rattle.control_value_rules.specs.Values.{default_values, opening_values}
use Rattle.control_opening_rules.proofs.at_opening.Goals as goal

-- one more control
one_more_law : (s values : List ℕ) (k at w : ℕ) → values ≡ default_values s k → at ≡ control_at s k → w ≡ word_at s (at + 52) → set values k w ≡ default_values s (k + 1)
unfolding default_values
one_more_law s values k at w p q r = rw add-one (cc)

pub loop-k-init : goal.loop-k-init
unfolding present default_values
loop-k-init c = (omega (arith, c.count-k-end.ensures), refl, refl)

pub loop-k-preserved : goal.loop-k-preserved
loop-k-preserved c =
    let i = c.loop-k.invariant in
    (i.0, search rules, one_more_law _ _ _ _ _ i.2 c.control_at-at.ensures.0 c.word_at.ensures)

pub returns : goal.returns
unfolding opening_values
returns c =
    let l = c.loop-k in
    l.invariant.2 ∙ ap (default_values _) (le_antisymm l.auto.k-end c.loop-k-test.false ∙ c.count-k-end.ensures)
