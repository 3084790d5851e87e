-- The answer goes by the one test. Assumes nothing.
use Prim.Native.Nat.{ℕ}
use mathlib.Core.Path.{◌≡◌, sym, ap, ap₂, ◌∙◌}
use mathlib.Core.Bool.{Bool, true, false, cond}
use Rattle.format_rules.specs.declared.Format.{Format}
use Rattle.ioctl_table.specs.declared.refusals.Refusal.TheVariants.{NoSuchPlane}
use Rattle.plane_rules.specs.Planes.{component_length, plane_start, plane_length, plane_refused, plane_of, place_of, no_place}
use Rattle.plane_rules.proofs.placed.Goals as goal

-- the place by what the test decided
placed_by : (f : Format) (a n k : ℕ) (x : Bool) → plane_refused f a n k ≡ x → plane_of f a n k ≡ cond x (no_place NoSuchPlane) (place_of (plane_start f a k) (plane_length f a k))
unfolding plane_of
placed_by f a n k x p = ap (λ (y : Bool). cond y (no_place NoSuchPlane) (place_of (plane_start f a k) (plane_length f a k))) p

pub returns-then-bytes-size : goal.returns-then-bytes-size
unfolding plane_refused
returns-then-bytes-size c =
    let a = c.args in
    let refused : plane_refused a.f a.alignment a.bytes a.k ≡ true = rw (← c.image_size-size.ensures, ← c.plane_count.ensures) c.if-bytes-size.true in
    placed_by _ _ _ _ true refused

pub returns : goal.returns
unfolding plane_refused plane_length
returns c =
    let a = c.args in
    let allowed : plane_refused a.f a.alignment a.bytes a.k ≡ false = rw (← c.image_size-size.ensures, ← c.plane_count.ensures) c.if-bytes-size.false in
    let long : c.component_length-length.result ≡ plane_length a.f a.alignment a.k =
    c.component_length-length.ensures ∙ ap (component_length _ _) c.plane_component.ensures in
    placed_by _ _ _ _ false allowed ∙ sym (ap₂ place_of c.plane_start-start.ensures long)
