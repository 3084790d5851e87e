-- The invariant: the lines passed are good. Assumes nothing.
use mathlib.Core.Path.{◌≡◌, refl, sym, ap, ◌∙◌}
use mathlib.Core.Bool.{true, false}
use Prim.Native.Nat.{ℕ, ◌+◌, ◌*◌, ◌-◌, ◌/◌}
use native.Mathlib.Omega.{arith}
use lib.ListN.{length, drop}
use Rattle.std.proofs.lemmas.List.{take_rest}
use Rattle.std.specs.Slice.Iter.{chunks_exact_size}
use Rattle.sheet_rules.specs.Folds.{all_below}
use Rattle.sheet_rules.proofs.Truth.{all_not}
use Rattle.sheet_rules.proofs.Folding.{all_more}
use Rattle.ivtv_rules.specs.Lines.{good_line}
use Rattle.ivtv_rules.specs.Reading.{line_at, good_body}
use Rattle.ivtv_reader.proofs.Taken.{next_cut}
use Rattle.ivtv_reader.proofs.good_body.Goals as goal

pub loop-line-init : goal.loop-line-init
unfolding good_body all_below
loop-line-init c =
    let m = c.chunks_exact-line-items.ensures in
    let e = c.into_iter-line-iterator.ensures.into_iter_gives in
    let z : chunks_exact_size c.into_iter-line-iterator.result ≡ 43 = rw e m.size in
    let o : c.args.start ≡ c.args.start + 43 * 0 = omega arith in
    (rw z (omega arith), tt, z, 0, omega arith, rw e (m.rest ∙ take_rest c.args.block.now c.args.start) ∙ ap (λ (n : ℕ). drop n c.args.block.now) o, refl)

pub returns-then-not-good_line : goal.returns-then-not-good_line
unfolding good_body
returns-then-not-good_line c =
    let a = c.args in
    let b = a.block.now in
    let v = c.loop-line.invariant in
    let s = c.in-Some.ensures.steps.1 in
    let n = next_cut b c.in-Some.line.now _ a.start v.3 (sym v.5 ∙ s.0) (s.1 ∙ v.2) in
    let e : good_line (line_at b a.start v.3) ≡ false = ap good_line (sym n.0) ∙ sym c.if-not-good_line.ensures in
    sym (all_not ((length b - a.start) / 43) (λ i. good_line (line_at b a.start i)) v.3 (omega (arith, n.2)) e)

pub loop-line-preserved : goal.loop-line-preserved
unfolding good_body
loop-line-preserved c =
    let a = c.args in
    let b = a.block.now in
    let v = c.loop-line.invariant in
    let w = c.in-Some.ensures.steps in
    let n = next_cut b c.in-Some.line.now _ a.start v.3 (sym v.5 ∙ w.1.0) (w.1.1 ∙ v.2) in
    let e : good_line (line_at b a.start v.3) ≡ true = ap good_line (sym n.0) ∙ sym c.if-not-good_line.ensures in
    let z : chunks_exact_size c.next.new.self ≡ 43 = w.0 ∙ v.2 in
    (rw z (omega arith), tt, z, v.3 + 1, n.2, sym n.1, all_more v.3 (λ i. good_line (line_at b a.start i)) ∙ rw (v.6, e))
