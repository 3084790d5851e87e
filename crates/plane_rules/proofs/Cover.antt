-- The planes of an allowed format lie one behind the other, from the first byte of the picture to the last. Assumes nothing.
use Prim.Native.Nat.{ℕ, zero, suc, ◌+◌, ◌*◌, ◌/◌, ◌≤◌, ◌<◌}
use mathlib.Core.Path.{◌≡◌, refl, sym, ap, ◌∙◌}
use mathlib.Core.Bool.{Bool, true, false, cond, ◌||◌}
use mathlib.Core.List.{List, [], ◌∷◌}
use native.Mathlib.Omega.{arith}
use native.Mathlib.Nat.{mul_comm, mul_assoc}
use lib.Dec.{eqb}
use lib.ListN.{length, get_or}
use Rattle.format_rules.specs.declared.Format.{Format}
use Rattle.format_rules.specs.Code.{YU12, YV12, NV12, half_chroma}
use Rattle.format_rules.specs.Size.{bytes_per_line, held_height, first_plane, image_size}
use Rattle.format_rules.proofs.Good.{Allowed, held, line_even}
use Rattle.plane_rules.specs.declared.Component.{Component}
use Rattle.plane_rules.specs.declared.Component.TheVariants.{Nothing, Packed, Luma, Cb, Cr, CbCr}
use Rattle.plane_rules.specs.Planes.{planes_of, plane_count, component_of, component_length, plane_length, plane_start}

-- a product by the halves of its factors
by_halves : (i j : ℕ) → i * 2 * (j * 2) ≡ i * j * 2 * 2
by_halves i j = sym (mul_assoc (i * 2) j 2) ∙ ap (λ (x : ℕ). x * 2) (mul_assoc i 2 j ∙ ap (λ (x : ℕ). i * x) (mul_comm 2 j) ∙ sym (mul_assoc i j 2))

-- the planes of a code, and whether it is a 4:2:0 code, by the three tests that decide both
planes_by : Bool → Bool → Bool → List Component
planes_by x y z = cond x (Luma ∷ Cb ∷ Cr ∷ []) (cond y (Luma ∷ Cr ∷ Cb ∷ []) (cond z (Luma ∷ CbCr ∷ []) (Packed ∷ [])))

count_most : (x y z : Bool) → length (planes_by x y z) ≤ 3
unfolding planes_by
count_most true y z = omega arith
count_most false true z = omega arith
count_most false false true = omega arith
count_most false false false = omega arith

-- a format has at most three planes
pub plane_count_most : (c : ℕ) → plane_count c ≤ 3
unfolding plane_count planes_of planes_by
plane_count_most c = count_most (eqb c YU12) (eqb c YV12) (eqb c NV12)

module _ (f : Format) (a : ℕ) (ok : Allowed f a) where
  -- a quarter of the first plane is Cb or Cr, a half of it the two interleaved
  quarter : bytes_per_line f a * held_height f ≡ bytes_per_line f a / 2 * (held_height f / 2) * 2 * 2
  quarter =
      let l : bytes_per_line f a ≡ bytes_per_line f a / 2 * 2 = omega (arith, line_even f a ok) in
      let h : held_height f ≡ held_height f / 2 * 2 = omega (arith, held f a ok, ok.height_even) in
      product (bytes_per_line f a) (held_height f) (bytes_per_line f a / 2) (held_height f / 2) l h
    where
      product : (l h i j : ℕ) → l ≡ i * 2 → h ≡ j * 2 → l * h ≡ i * j * 2 * 2
      product l h i j p q = rw (p, q) (by_halves i j)

  interleaved : bytes_per_line f a * (held_height f / 2) ≡ bytes_per_line f a / 2 * (held_height f / 2) * 2
  interleaved =
      let l : bytes_per_line f a ≡ bytes_per_line f a / 2 * 2 = omega (arith, line_even f a ok) in
      product (bytes_per_line f a) (held_height f / 2) (bytes_per_line f a / 2) l
    where
      product : (l j i : ℕ) → l ≡ i * 2 → l * j ≡ i * j * 2
      product l j i p = rw p (mul_assoc i 2 j ∙ ap (λ (x : ℕ). i * x) (mul_comm 2 j) ∙ sym (mul_assoc i j 2))

  cover : (x y z : Bool) (k : ℕ) → suc k ≡ length (planes_by x y z)
      → cond (eqb k 0) 0 (cond (eqb k 1) (component_length f a (get_or (planes_by x y z) 0 Nothing)) (component_length f a (get_or (planes_by x y z) 0 Nothing) + component_length f a (get_or (planes_by x y z) 1 Nothing)))
      + component_length f a (get_or (planes_by x y z) k Nothing)
      ≡ cond (x || y || z) (bytes_per_line f a * held_height f + bytes_per_line f a * held_height f / 2) (bytes_per_line f a * held_height f)
  unfolding planes_by component_length
  cover true y z k e = let q : k ≡ 2 = omega arith in rw q (omega (arith, quarter))
  cover false true z k e = let q : k ≡ 2 = omega arith in rw q (omega (arith, quarter))
  cover false false true k e = let q : k ≡ 1 = omega arith in rw q (omega (arith, quarter, interleaved))
  cover false false false k e = let q : k ≡ 0 = omega arith in rw q (omega arith)

  -- the last plane ends where the picture ends
  pub planes_cover : (k : ℕ) → suc k ≡ plane_count f.code → plane_start f a k + plane_length f a k ≡ image_size f a
  unfolding plane_start plane_length component_of plane_count planes_of image_size first_plane half_chroma planes_by
  planes_cover k e = cover (eqb f.code YU12) (eqb f.code YV12) (eqb f.code NV12) k e

-- each plane starts where the one before it ends, the first at 0
pub first_plane_start : (f : Format) (a : ℕ) → plane_start f a 0 ≡ 0
unfolding plane_start
first_plane_start f a = refl

pub next_plane_start : (f : Format) (a k : ℕ) → suc k < plane_count f.code → plane_start f a (suc k) ≡ plane_start f a k + plane_length f a k
unfolding plane_start
next_plane_start f a zero h = omega arith
next_plane_start f a (suc zero) h = refl
next_plane_start f a (suc (suc k)) h = absurd (omega (arith, plane_count_most f.code))
