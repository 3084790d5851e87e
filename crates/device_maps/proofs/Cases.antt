-- What the definition of specs/ says in each case.
use Prim.Native.Nat.{ℕ}
use mathlib.Core.Path.{◌≡◌, refl}
use borrow.Author.Tests.{eq-eqb, ne_eqb}
use Rattle.ioctl_table.specs.Refusal.{errno_of}
use Rattle.ioctl_table.specs.declared.refusals.Refusal.TheVariants.{Closed, WrongType}
use Rattle.stream_maps.specs.declared.Change.{Change}
use Rattle.stream_run.specs.Numbers.{reply_number}
use Rattle.stream_run.specs.Switches.{Step}
use Rattle.device_state.specs.State.{State, with_video, with_captions}
use Rattle.device_maps.specs.Mapping.{mapped, mapped_of, picture_change, caption_change}

-- a map or an unmap: the number n that it gives back, and the state after it
module _ (c : Change) (d : State) (kind offset length n : ℕ) where
  -- as the definition has them
  abbrev pub Maps : State → Type 0
  Maps e = mapped n e ≡ mapped_of c d kind offset length

  -- at a closed device
  pub maps_closed : d.ready ≡ 0 → n ≡ errno_of Closed → Maps d
  unfolding mapped_of
  maps_closed h e = rw (eq-eqb d.ready 0 h, e) refl

  -- at an open one; t is what the stream answers and leaves
  module _ (h : d.ready ≡ 0 → ⊥) {t : Step} where
    -- of pictures
    pub maps_picture : kind ≡ 1 → t ≡ picture_change c d offset length → n ≡ reply_number t.reply → Maps (with_video d t.stream)
    unfolding mapped_of
    maps_picture k q e = rw (ne_eqb d.ready 0 h, eq-eqb kind 1 k, ← q, e) refl

    -- of captions
    pub maps_captions : (kind ≡ 1 → ⊥) → kind ≡ 6 → t ≡ caption_change c d offset length → n ≡ reply_number t.reply → Maps (with_captions d t.stream)
    unfolding mapped_of
    maps_captions m k q e = rw (ne_eqb d.ready 0 h, ne_eqb kind 1 m, eq-eqb kind 6 k, ← q, e) refl

  -- of another type
  pub maps_other : (d.ready ≡ 0 → ⊥) → (kind ≡ 1 → ⊥) → (kind ≡ 6 → ⊥) → n ≡ errno_of WrongType → Maps d
  unfolding mapped_of
  maps_other h m k e = rw (ne_eqb d.ready 0 h, ne_eqb kind 1 m, ne_eqb kind 6 k, e) refl
