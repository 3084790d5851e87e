-- Order and difference of the signed numbers are those of their distances from -2^31. Assumes nothing.
use Prim.Native.Nat.{ℕ, ◌-◌, ◌%◌}
use mathlib.Core.Path.{sym, ap, ap₂, ◌∙◌}
use lib.Dec.{eqb, leb}
use Rattle.wire_signed.specs.Signed.{signed}
use Rattle.wire_signed.proofs.Integers.{word_under, gap, natural_count}
use Rattle.sheet_rules.specs.Rules.{on_grid}
use Rattle.sheet_rules.proofs.Signs.{le_words}
use Rattle.sheet_rules.proofs.Truth.{◌and◌}
use Rattle.sheet_rules.proofs.grid.on_grid.Goals as goal

pub returns : goal.returns
unfolding on_grid
returns c =
    let l = c.args.least in
    let v = c.args.value in
    let p = c.args.step in
    let ul = word_under l c.ranges.least.fits in
    let uv = word_under v c.ranges.value.fits in
    let bv = c.biased-v.ensures in
    let bl = c.biased-l.ensures in
    let between = c.saturating_sub.ensures ∙ ap₂ ◌-◌ bv bl ∙ sym (gap 2147483648 (signed v) (signed l) uv ul) in
    let by = c.saturating_sub-by.ensures ∙ ap (λ (n : ℕ). n - 2147483648) c.biased.ensures ∙ sym (natural_count 2147483648 (signed p) (word_under p c.ranges.step.fits)) in
    (ap₂ leb bl bv ∙ sym (le_words l v c.ranges.least.fits c.ranges.value.fits))
    and (c.multiple_of.ensures ∙ ap₂ (λ (x n : ℕ). eqb (x % n) 0) between by)
