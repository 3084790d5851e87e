-- The tests of the definition. Assumes nothing.
use mathlib.Core.Path.{◌≡◌, sym, ap, ap₂, ◌∙◌}
use Prim.Native.Nat.{ℕ, ◌+◌, ◌*◌, ◌-◌, ◌/◌}
use native.Mathlib.Omega.{arith}
use lib.ListN.{length}
use Rattle.ivtv_rules.specs.Reading.{count_in, readable}
use Rattle.ivtv_reader.proofs.Openings.{start_most}
use Rattle.ivtv_reader.proofs.Taken.{bad_opening, other_length, other_room, by_lines}
use Rattle.ivtv_reader.proofs.plan.Goals as goal

pub returns-in_err-start : goal.returns-in_err-start
returns-in_err-start c = rw c.from_residual.ensures (bad_opening c.args.block.now c.args.room c.in_err-start.ensures)

pub overflow_add-start : goal.overflow_add-start
overflow_add-start c = omega (arith, c.count_in-n.ensures.at_most_36, c.in_ok-start.ensures, start_most c.args.block.now)

pub returns-then-block-start : goal.returns-then-block-start
returns-then-block-start c =
    let a = c.args in
    let b = a.block.now in
    let o = c.in_ok-start.ensures in
    let en = c.count_in-n.ensures.ones ∙ ap (λ (x : ℕ). count_in x 36) o.2 in
    other_length b a.room o.0 (λ q. c.if-block-start.true (q ∙ sym (ap₂ (λ (x y : ℕ). x + 43 * y) o.1 en)))

pub returns-then-room-n : goal.returns-then-room-n
returns-then-room-n c =
    let a = c.args in
    let b = a.block.now in
    let o = c.in_ok-start.ensures in
    let en = c.count_in-n.ensures.ones ∙ ap (λ (x : ℕ). count_in x 36) o.2 in
    other_room b a.room o.0 (c.if-block-start.false ∙ ap₂ (λ (x y : ℕ). x + 43 * y) o.1 en) (λ q. c.if-room-n.true (q ∙ sym (ap (λ (x : ℕ). 64 * x) en)))

pub returns-then-not-good_body : goal.returns-then-not-good_body
returns-then-not-good_body c =
    let a = c.args in
    let b = a.block.now in
    let o = c.in_ok-start.ensures in
    let en = c.count_in-n.ensures.ones ∙ ap (λ (x : ℕ). count_in x 36) o.2 in
    let f : (length b - c.in_ok-start.field-0.start) / 43 ≡ c.count_in-n.result = omega (arith, c.if-block-start.false) in
    let g : c.good_body.result ≡ readable b a.room =
    c.good_body.ensures
    ∙ rw (f, o.1, en)
    (by_lines b a.room o.0 (c.if-block-start.false ∙ ap₂ (λ (x y : ℕ). x + 43 * y) o.1 en) (c.if-room-n.false ∙ ap (λ (x : ℕ). 64 * x) en)) in
    sym g ∙ c.if-not-good_body.true

pub returns : goal.returns
returns c =
    let a = c.args in
    let b = a.block.now in
    let o = c.in_ok-start.ensures in
    let en = c.count_in-n.ensures.ones ∙ ap (λ (x : ℕ). count_in x 36) o.2 in
    let f : (length b - c.in_ok-start.field-0.start) / 43 ≡ c.count_in-n.result = omega (arith, c.if-block-start.false) in
    let g : c.good_body.result ≡ readable b a.room =
    c.good_body.ensures
    ∙ rw (f, o.1, en)
    (by_lines b a.room o.0 (c.if-block-start.false ∙ ap₂ (λ (x y : ℕ). x + 43 * y) o.1 en) (c.if-room-n.false ∙ ap (λ (x : ℕ). 64 * x) en)) in
    (sym g ∙ c.if-not-good_body.false, o.1, o.2)
