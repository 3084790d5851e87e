-- The invariant: the bytes passed are zero exactly if the flag is set. Assumes nothing.
use mathlib.Core.Path.{◌≡◌, refl, sym, ap, ◌∙◌}
use mathlib.Core.Bool.{Bool, ◌&&◌}
use mathlib.Core.List.{List}
use Prim.Native.Nat.{ℕ, ◌+◌, ◌-◌, ◌≤◌, ◌<◌}
use native.Mathlib.Omega.{arith}
use lib.Dec.{eqb}
use lib.ListN.{length, get_or, take, drop, length-drop}
use lib.Seq.{get_or-take, get_or-drop, length-take-le}
use Rattle.sheet_rules.specs.Folds.{all_below}
use Rattle.sheet_rules.proofs.Folding.{all_more}
use Rattle.ivtv_lines.proofs.zero_from.Goals as goal

-- the bytes that are looked at
long : (l : List ℕ) (used : ℕ) → 43 ≤ length l → length (take (43 - (1 + used)) (drop (1 + used) l)) ≡ 42 - used
long l used h = length-take-le (43 - (1 + used)) (drop (1 + used) l) (omega (arith, length-drop (1 + used) l)) ∙ omega arith

read : (l : List ℕ) (used j : ℕ) → j < 42 - used → get_or (take (43 - (1 + used)) (drop (1 + used) l)) j 0 ≡ get_or l (1 + used + j) 0
read l used j h = get_or-take (43 - (1 + used)) (drop (1 + used) l) j 0 (omega arith) ∙ get_or-drop (1 + used) l j 0

pub loop-byte-init : goal.loop-byte-init
unfolding all_below
loop-byte-init c = refl

pub loop-byte-preserved : goal.loop-byte-preserved
loop-byte-preserved c =
    let l = c.loop-byte in
    let a = c.args in
    let z : ℕ → Bool = λ j. eqb (get_or a.line.now (1 + a.used + j) 0) 0 in
    rw (read a.line.now a.used l.byte-index (omega (arith, long a.line.now a.used c.requires.0, c.loop-byte-test.true)))
    (ap (λ (b : Bool). b && z l.byte-index) l.invariant ∙ sym (all_more l.byte-index z))

pub returns : goal.returns
returns c =
    let l = c.loop-byte in
    let a = c.args in
    let e : l.byte-index ≡ 42 - a.used = omega (arith, long a.line.now a.used c.requires.0, c.loop-byte-test.false, l.auto.byte-index-end) in
    l.invariant ∙ ap (λ (n : ℕ). all_below n (λ j. eqb (get_or a.line.now (1 + a.used + j) 0) 0)) e
