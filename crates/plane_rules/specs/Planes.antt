-- The planes of a picture, counted from 0.
use Rattle.std.specs.Prelude.{ℕ, ◌+◌, ◌*◌, ◌/◌, Bool, cond, not, ◌||◌, List, [], ◌∷◌, eqb, leb, length, get_or, take, drop}
use Rattle.plane_rules.specs.declared.Place.{Place}
use Rattle.format_rules.specs.declared.Format.{Format}
use Rattle.plane_rules.specs.declared.Component.{Component}
use Rattle.plane_rules.specs.declared.Component.TheVariants.{Nothing, Packed, Luma, Cb, Cr, CbCr}
use Rattle.format_rules.specs.Code.{YU12, YV12, NV12}
use Rattle.format_rules.specs.Size.{bytes_per_line, held_height, image_size}
use Rattle.ioctl_table.specs.Refusal.{errno_of}
use Rattle.ioctl_table.specs.declared.refusals.Refusal.{Refusal}
use Rattle.ioctl_table.specs.declared.refusals.Refusal.TheVariants.{NoSuchPlane}

-- the planes of a code in their order: Cb first in YU12, Cr first in YV12, both interleaved in NV12; the others have one
unfoldable pub planes_of : ℕ → List Component
planes_of c =
    cond (eqb c YU12) (Luma ∷ Cb ∷ Cr ∷ [])
    (cond (eqb c YV12) (Luma ∷ Cr ∷ Cb ∷ [])
    (cond (eqb c NV12) (Luma ∷ CbCr ∷ []) (Packed ∷ [])))

-- how many there are
unfoldable pub plane_count : ℕ → ℕ
plane_count c = length (planes_of c)

-- what plane k holds, Nothing where there is none
unfoldable pub component_of : ℕ → ℕ → Component
component_of c k = get_or (planes_of c) k Nothing

-- Cb and Cr have half the line and half the height; interleaved they have the whole line
unfoldable pub component_length : Format → ℕ → Component → ℕ
component_length f a Nothing = 0
component_length f a Packed = bytes_per_line f a * held_height f
component_length f a Luma = bytes_per_line f a * held_height f
component_length f a Cb = bytes_per_line f a / 2 * (held_height f / 2)
component_length f a Cr = bytes_per_line f a / 2 * (held_height f / 2)
component_length f a CbCr = bytes_per_line f a * (held_height f / 2)

-- the length of plane k
unfoldable pub plane_length : Format → ℕ → ℕ → ℕ
plane_length f a k = component_length f a (component_of f.code k)

-- where plane k starts: behind the planes before it
unfoldable pub plane_start : Format → ℕ → ℕ → ℕ
plane_start f a k = cond (eqb k 0) 0 (cond (eqb k 1) (plane_length f a 0) (plane_length f a 0 + plane_length f a 1))

-- n bytes are not the format's size, or the format has no plane k
unfoldable pub plane_refused : Format → ℕ → ℕ → ℕ → Bool
plane_refused f a n k = not (eqb n (image_size f a)) || leb (plane_count f.code) k

-- a refusal, with no bytes
abbrev pub no_place : Refusal → Place
no_place why = record { number = errno_of why; start = 0; length = 0 }

-- so many bytes from a start on
abbrev pub place_of : ℕ → ℕ → Place
place_of s l = record { number = 0; start = s; length = l }

-- where plane k of a frame of n bytes lies
unfoldable pub plane_of : Format → ℕ → ℕ → ℕ → Place
plane_of f a n k = cond (plane_refused f a n k) (no_place NoSuchPlane) (record { number = 0; start = plane_start f a k; length = plane_length f a k })

-- the part of a frame at a place
abbrev pub part_at : Place → List ℕ → List ℕ
part_at p frame = take p.length (drop p.start frame)
