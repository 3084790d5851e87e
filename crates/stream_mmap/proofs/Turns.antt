-- The count of one buffer, by its word: what each way of the code leaves. Assumes nothing.
use mathlib.Core.Path.{◌≡◌, ap, ◌∙◌}
use mathlib.Core.Bool.{true, false}
use Prim.Native.Nat.{ℕ, ◌+◌, ◌<◌, min}
use mathlib.Core.List.{List}
use lib.ListN.{length, get_or, set}
use Rattle.std.specs.Prelude.{Option, Some}
use Rattle.stream_slots.specs.Slot.{slot_at}
use Rattle.stream_words.specs.Stream.{Stream}
use Rattle.stream_words.specs.Words.{stream_in}
use Rattle.stream_words.proofs.Record.{maps_is, map_set}
use Rattle.stream_maps.specs.declared.Change.{Change}
use Rattle.stream_maps.specs.Maps.{blocked, why_not, turned}
use Rattle.stream_run.specs.Replies.Reply.{Done}
use Rattle.stream_run.specs.Switches.{answers, refuses}
use Rattle.stream_mmap.specs.Mapping.{changed_at, change_of}

module _ (c : Change) (w : List ℕ) (k n : ℕ) (h : k < 32) (is : get_or w (176 + k) 0 ≡ n) where
  -- the count is at its end
  pub turn_refused : blocked c n ≡ true → refuses (why_not c) (stream_in w) ≡ changed_at c (stream_in w) (Some k)
  turn_refused e = rw (maps_is w k h, is, e)

  -- it is not, and is stored
  pub turn_done : length w ≡ 208 → blocked c n ≡ false → answers Done (stream_in (set w (176 + k) (turned c n))) ≡ changed_at c (stream_in w) (Some k)
  turn_done long e = rw (maps_is w k h, is, e) (ap (answers Done) (map_set w k (turned c n) long h))

-- a change of the buffer that was found
pub change_found : (c : Change) (s : Stream) (n size offset length : ℕ) (found : Option ℕ) → n ≡ min s.queues.granted 32 → found ≡ slot_at n size offset length
    → changed_at c s found ≡ change_of c s size offset length
unfolding change_of
change_found c s n size offset length found e f = ap (changed_at c s) (f ∙ ap (λ (m : ℕ). slot_at m size offset length) e)
