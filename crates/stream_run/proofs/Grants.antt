-- What is granted fits: no more than 32 buffers, no more than were asked for, and all of them in the memory; and none of them is mapped.
use mathlib.Core.Path.{◌≡◌, refl, ap}
use mathlib.Core.Bool.{Bool, true, false, cond, not, ◌&&◌, false≢true}
use Prim.Native.Nat.{ℕ, ◌*◌, ◌/◌, ◌≤◌, ◌<◌, min}
use native.Mathlib.Omega.{arith}
use native.Mathlib.Nat.{div-mul-le_self, mul-le-mul_right}
use borrow.Author.Tests.{eqb-false}
use lib.Dec.{eqb}
use Rattle.stream_slots.specs.Slot.{slot_size}
use Rattle.ioctl_table.specs.declared.refusals.Refusal.{Refusal}
use Rattle.ioctl_table.specs.declared.refusals.Refusal.TheVariants.{StillMapped, Streaming}
use Rattle.stream_words.specs.Stream.{Stream}
use Rattle.stream_maps.specs.Maps.{any_mapped}
use Rattle.stream_run.specs.Replies.{Reply}
use Rattle.stream_run.specs.Replies.Reply.{Done, Granted, Returned, Refused}
use Rattle.stream_run.specs.Stream.{streaming, stopped}
use Rattle.stream_run.specs.Switches.{Step, answers, refuses, grant_of, request_buffers_of}

pub grant_few : (length count size : ℕ) → grant_of length count size ≤ 32
unfolding grant_of
grant_few length count size =
    elim (eqb (slot_size size) 0) as (λ b. cond b 0 (min count (min 32 (length / slot_size size))) ≤ 32) [ true ↦ omega arith | false ↦ omega arith ]

pub grant_asked : (length count size : ℕ) → grant_of length count size ≤ count
unfolding grant_of
grant_asked length count size =
    elim (eqb (slot_size size) 0) as (λ b. cond b 0 (min count (min 32 (length / slot_size size))) ≤ count) [ true ↦ omega arith | false ↦ omega arith ]

-- that many slots lie in the memory
pub grant_fits : (length count size : ℕ) → grant_of length count size * slot_size size ≤ length
unfolding grant_of
grant_fits length count size =
    elim (eqb (slot_size size) 0) as (λ b. cond b 0 (min count (min 32 (length / slot_size size))) * slot_size size ≤ length) [
      | true ↦ omega arith
      | false ↦ less (min count (min 32 (length / slot_size size))) (omega arith)
    ]
  where
    less : (g : ℕ) → g ≤ length / slot_size size → g * slot_size size ≤ length
    less g h = omega (arith, mul-le-mul_right (slot_size size) h, div-mul-le_self length (slot_size size))

-- where buffers are granted, a slot has bytes
pub grant_slot : (length count size : ℕ) → 0 < grant_of length count size → 0 < slot_size size
unfolding grant_of
grant_slot length count size = by (eqb (slot_size size) 0) refl
  where
    by : (b : Bool) → eqb (slot_size size) 0 ≡ b → 0 < cond b 0 (min count (min 32 (length / slot_size size))) → 0 < slot_size size
    by true e h = absurd (omega arith)
    by false e h = omega (arith, eqb-false (slot_size size) 0 e)

-- a refusal grants nothing
abbrev grants : Reply → Bool
grants Done = false
grants (Granted n) = true
grants (Returned f) = false
grants (Refused why) = false

no_grant : (why : Refusal) (g : ℕ) → Refused why ≡ Granted g → ⊥
no_grant why g e = false≢true (ap grants e)

-- a request that is granted finds no buffer mapped, and leaves the counts as they were: all of them are 0
pub granted_unmapped : (s : Stream) (count size g : ℕ) → (request_buffers_of s count size).reply ≡ Granted g
    → (any_mapped s.maps ≡ false) × ((request_buffers_of s count size).stream.maps ≡ s.maps)
unfolding request_buffers_of stopped
granted_unmapped s count size g = by (any_mapped s.maps) (streaming s && not (eqb count 0))
  where
    r : Bool → Bool → Step
    r a b = cond a (refuses StillMapped s) (cond b (refuses Streaming s) (answers (Granted (grant_of s.length count size)) (stopped s (grant_of s.length count size))))

    by : (a b : Bool) → (r a b).reply ≡ Granted g → (a ≡ false) × ((r a b).stream.maps ≡ s.maps)
    by true b h = absurd (no_grant StillMapped g h)
    by false true h = absurd (no_grant Streaming g h)
    by false false h = (refl, refl)
