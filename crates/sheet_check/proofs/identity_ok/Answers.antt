-- Three parts of the identity. Assumes nothing.
use Prim.Native.Nat.{ℕ, ◌+◌}
use mathlib.Core.Path.{ap, ◌∙◌}
use lib.ListN.{take, drop}
use Rattle.sheet_rules.specs.Rules.{has_zero, identity_ok}
use Rattle.sheet_contents.specs.Contents.{driver_of, card_of, bus_of, identity_at}
use Rattle.sheet_rules.proofs.Truth.{◌and◌}
use Rattle.sheet_check.proofs.identity_ok.Goals as goal

pub returns : goal.returns
unfolding identity_ok driver_of card_of bus_of identity_at
returns c =
    let s = c.args.s.now in
    let at = c.word_at-at.ensures in
    (c.has_zero.ensures ∙ ap has_zero (c.part.ensures ∙ ap (λ (n : ℕ). take 16 (drop n s)) at))
    and (c.has_zero-2.ensures ∙ ap has_zero (c.part-2.ensures ∙ ap (λ (n : ℕ). take 32 (drop (n + 16) s)) at))
    and (c.has_zero-3.ensures ∙ ap has_zero (c.part-3.ensures ∙ ap (λ (n : ℕ). take 32 (drop (n + 48) s)) at))
