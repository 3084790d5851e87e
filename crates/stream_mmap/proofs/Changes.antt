-- The number that a map or an unmap gives back, by its tests; one that is refused leaves the stream as it was. Assumes nothing.
use mathlib.Core.Path.{◌≡◌, refl}
use mathlib.Core.Logic.{◌≢◌}
use mathlib.Core.Bool.{Bool, true, false, cond, not}
use Prim.Native.Nat.{ℕ, min}
use Rattle.ioctl_table.specs.Refusal.{errno_of}
use Rattle.ioctl_table.specs.declared.refusals.Refusal.TheVariants.{NoSuchBuffer}
use Rattle.std.specs.Prelude.{Some, None}
use Rattle.stream_slots.specs.Slot.{is_slot, buffer_at, slot_at}
use Rattle.stream_words.specs.Stream.{Stream, with_maps}
use Rattle.stream_maps.specs.declared.Change.{Change}
use Rattle.stream_maps.specs.Maps.{maps_of, blocked, why_not, moved}
use Rattle.stream_run.specs.Replies.Reply.{Done}
use Rattle.stream_run.specs.Numbers.{reply_number}
use Rattle.stream_run.specs.Switches.{Step, answers, refuses}
use Rattle.stream_mmap.specs.Mapping.{changed_at, change_of}

module _ (c : Change) (s : Stream) (size offset length : ℕ) where
  -- the answer by its two tests
  abbrev by_tests : Bool → Bool → Step
  by_tests x y = cond (not x) (refuses NoSuchBuffer s) (cond y (refuses (why_not c) s) (answers Done (with_maps s (moved c s.maps (buffer_at size offset)))))

  tested : change_of c s size offset length ≡ by_tests (is_slot (min s.queues.granted 32) size offset length) (blocked c (maps_of s.maps (buffer_at size offset)))
  unfolding change_of slot_at
  tested = by (is_slot (min s.queues.granted 32) size offset length)
    where
      by : (x : Bool) → changed_at c s (cond x (Some (buffer_at size offset)) None) ≡ by_tests x (blocked c (maps_of s.maps (buffer_at size offset)))
      by true = refl
      by false = refl

  pub change_number_law : reply_number (change_of c s size offset length).reply
      ≡ cond (not (is_slot (min s.queues.granted 32) size offset length)) 22 (cond (blocked c (maps_of s.maps (buffer_at size offset))) (errno_of (why_not c)) 0)
  change_number_law = rw tested (by (is_slot (min s.queues.granted 32) size offset length) (blocked c (maps_of s.maps (buffer_at size offset))))
    where
      by : (x y : Bool) → reply_number (by_tests x y).reply ≡ cond (not x) 22 (cond y (errno_of (why_not c)) 0)
      by false y = refl
      by true true = refl
      by true false = refl

  pub change_refused : reply_number (change_of c s size offset length).reply ≢ 0 → (change_of c s size offset length).stream ≡ s
  change_refused = rw tested (by (is_slot (min s.queues.granted 32) size offset length) (blocked c (maps_of s.maps (buffer_at size offset))))
    where
      by : (x y : Bool) → reply_number (by_tests x y).reply ≢ 0 → (by_tests x y).stream ≡ s
      by false y h = refl
      by true true h = refl
      by true false h = absurd (h refl)
