-- The lengths of the planes before. Assumes nothing.
use Prim.Native.Nat.{ℕ, ◌+◌}
use mathlib.Core.Path.{◌≡◌, sym, ap, ap₂, ◌∙◌}
use mathlib.Core.Bool.{Bool, true, false, cond}
use lib.Dec.{eqb}
use native.Mathlib.Omega.{arith}
use borrow.Author.Tests.{eq-eqb, ne_eqb}
use Rattle.format_rules.specs.declared.Format.{Format}
use Rattle.plane_rules.specs.declared.Component.{Component}
use Rattle.plane_rules.specs.Planes.{component_length, component_of, plane_start, plane_length}
use Rattle.plane_rules.proofs.Lengths.{component_fits}
use Rattle.plane_rules.proofs.plane_start.Goals as goal

-- the start by the two tests
starts_by : (f : Format) (a k : ℕ) (x y : Bool) → eqb k 0 ≡ x → eqb k 1 ≡ y → cond x 0 (cond y (plane_length f a 0) (plane_length f a 0 + plane_length f a 1)) ≡ plane_start f a k
unfolding plane_start
starts_by f a k x y p q = ap₂ (λ (s t : Bool). cond s 0 (cond t (plane_length f a 0) (plane_length f a 0 + plane_length f a 1))) (sym p) (sym q)

pub returns-then-k-eq0 : goal.returns-then-k-eq0
unfolding plane_start
returns-then-k-eq0 c = rw (eq-eqb _ _ c.if-k-eq0.true)

-- the length of a plane by its component
length_by : (f : Format) (a k r : ℕ) (p : Component) → r ≡ component_length f a p → p ≡ component_of f.code k → r ≡ plane_length f a k
unfolding plane_length
length_by f a k r p e h = e ∙ ap (component_length _ _) h

pub returns-then-k-eq1 : goal.returns-then-k-eq1
returns-then-k-eq1 c =
    length_by c.args.f c.args.alignment 0 _ _ c.component_length-first.ensures c.plane_component.ensures
    ∙ starts_by _ _ _ false true (ne_eqb _ _ c.if-k-eq0.false) (eq-eqb _ _ c.if-k-eq1.true)

pub overflow_add-result : goal.overflow_add-result
overflow_add-result c =
    let a = c.args in
    record {
      fits = omega (
        arith,
        c.component_length.ensures,
        c.component_length-first.ensures,
        component_fits a.f a.alignment c.plane_component-2.result,
        component_fits a.f a.alignment c.plane_component.result,
      );
    }

pub returns : goal.returns
returns c =
    let f = c.args.f in
    let a = c.args.alignment in
    ap₂ ◌+◌
    (length_by f a 0 _ _ c.component_length-first.ensures c.plane_component.ensures)
    (length_by f a 1 _ _ c.component_length.ensures c.plane_component-2.ensures)
    ∙ starts_by _ _ _ false false (ne_eqb _ _ c.if-k-eq0.false) (ne_eqb _ _ c.if-k-eq1.false)
