-- The invariant: the records passed are good, each is kept at the bit of its line, and the mask has these bits. Assumes nothing.
use mathlib.Core.Path.{refl, sym, ap, ◌∙◌}
use Prim.Native.Nat.{ℕ, ◌+◌}
use native.Mathlib.Omega.{arith}
use Rattle.sheet_rules.specs.Folds.{all_below}
use Rattle.ivtv_rules.specs.Lines.{record_bit}
use Rattle.ivtv_rules.specs.Writing.{good_lines}
use Rattle.ivtv_rules.proofs.Masks.{mask_fits}
use Rattle.ivtv_rules.proofs.Named.{named}
use Rattle.ivtv_writer.proofs.Sorting.{cut, one_shifted, none_sorted, none_masked, one_sorted, one_masked, no_line, named_before, new_line}
use borrow.Author.Rules.{rules}
use Rattle.ivtv_writer.proofs.sort.Goals as goal

pub loop-i-init : goal.loop-i-init
unfolding good_lines all_below
loop-i-init c = (refl, none_sorted _, none_masked _)

pub returns-in_err-k : goal.returns-in_err-k
returns-in_err-k c =
    let l = c.loop-i in
    let s = c.args.lines.now in
    rw c.from_residual.ensures
    (no_line s l.places l.i 36 l.invariant.1 (sym c.in_err-k.ensures ∙ ap record_bit (cut s l.i)) (omega arith) _ (search rules))

pub returns-then-places-k-ne0 : goal.returns-then-places-k-ne0
returns-then-places-k-ne0 c =
    let l = c.loop-i in
    let s = c.args.lines.now in
    let k = c.in_ok-k in
    named_before s l.places l.i k.k l.invariant.1 (k.ensures.1 ∙ ap record_bit (cut s l.i)) k.ensures.0 c.if-places-k-ne0.true _ (search rules)

pub overflow_add-mask : goal.overflow_add-mask
overflow_add-mask c =
    let l = c.loop-i in
    let k = c.in_ok-k in
    omega (arith, l.invariant.2, mask_fits 36 (named c.args.lines.now l.i), one_shifted k.k k.ensures.0)

pub loop-i-preserved : goal.loop-i-preserved
loop-i-preserved c =
    let l = c.loop-i in
    let s = c.args.lines.now in
    let k = c.in_ok-k in
    let h = k.ensures.0 in
    let e = k.ensures.1 ∙ ap record_bit (cut s l.i) in (
      new_line s l.places l.i k.k l.invariant.1 e h c.if-places-k-ne0.false l.invariant.0,
      one_sorted s l.places l.i k.k l.invariant.1 e h,
      ap (λ (x : ℕ). l.mask + x) (one_shifted k.k h).0 ∙ one_masked s l.places l.i k.k l.invariant.1 e l.mask h c.if-places-k-ne0.false l.invariant.2,
    )
