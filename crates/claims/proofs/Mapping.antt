-- A map or an unmap on a device: its number by the tests, and what it leaves.
use mathlib.Core.Path.{◌≡◌, refl, ap}
use mathlib.Core.Logic.{◌≢◌}
use mathlib.Core.Bool.{Bool, true, false, cond, not, ◌&&◌}
use Prim.Native.Nat.{ℕ, min}
use native.Mathlib.Omega.{arith}
use borrow.Author.Tests.{eqb-true, ne_eqb}
use lib.Dec.{eqb}
use Rattle.ioctl_table.specs.Refusal.{errno_of}
use Rattle.ioctl_table.specs.declared.refusals.Refusal.TheVariants.{Closed, WrongType}
use Rattle.ioctl_table.proofs.Numbers.{errno_positive}
use Rattle.stream_slots.specs.Slot.{is_slot, buffer_at}
use Rattle.stream_words.specs.Stream.{Stream}
use Rattle.stream_maps.specs.declared.Change.{Change}
use Rattle.stream_maps.specs.Maps.{maps_of, blocked, why_not}
use Rattle.stream_run.specs.Replies.{Reply as StreamReply}
use Rattle.stream_run.specs.Numbers.{reply_number}
use Rattle.stream_run.specs.Switches.{Step}
use Rattle.stream_mmap.specs.Mapping.{change_of}
use Rattle.stream_mmap.proofs.Changes.{change_number_law, change_refused}
use Rattle.service_rules.specs.Negotiation.{io_size}
use Rattle.device_state.specs.State.{State, setup_of, with_video, with_captions}
use Rattle.device_maps.specs.Mapping.{Mapped, mapped, picture_change, caption_change, mapped_of}
use Rattle.stream_history.specs.Paper.{Event, refused_reply}
use Rattle.stream_history.specs.Paper.Event.{idle}
use Rattle.claims.specs.Calls.{Kind, type_of}
use Rattle.claims.specs.Table.{first_number}
use Rattle.claims.specs.Device.{stream_of}
use Rattle.claims.proofs.Checks.{size_of, change_checks}

-- what the stream of a type answers
abbrev pub turned : Kind → Change → State → ℕ → ℕ → Step
turned k c d o l = change_of c (stream_of k d) (size_of k d) o l

-- the state with another stream
abbrev pub with_kind : Kind → State → Stream → State
with_kind Kind.pictures d s = with_video d s
with_kind Kind.captions d s = with_captions d s

-- ---- the number

module _ (c : Change) (d : State) (t o l : ℕ) where
  -- by the tests, in their order
  abbrev pub by_tests : Bool → Bool → Bool → Mapped
  by_tests x y z = cond x (mapped (errno_of Closed) d) (cond y (mapped (reply_number (picture_change c d o l).reply) (with_video d (picture_change c d o l).stream))
      (cond z (mapped (reply_number (caption_change c d o l).reply) (with_captions d (caption_change c d o l).stream)) (mapped (errno_of WrongType) d)))

  pub mapped_number : (mapped_of c d t o l).number ≡ first_number (change_checks c d t o l)
  unfolding mapped_of
  mapped_number = go (eqb d.ready 0) (eqb t 1) refl (eqb t 6) refl
    where
      go : (x y : Bool) → eqb t 1 ≡ y → (z : Bool) → eqb t 6 ≡ z
          → (by_tests x y z).number ≡ cond x 22 (cond (not y && not z) 22 (cond (not (is_slot (min (stream_of (cond z Kind.captions Kind.pictures) d).queues.granted 32) (size_of (cond z Kind.captions Kind.pictures) d) o l)) 22
          (cond (blocked c (maps_of (stream_of (cond z Kind.captions Kind.pictures) d).maps (buffer_at (size_of (cond z Kind.captions Kind.pictures) d) o))) (errno_of (why_not c)) 0)))
      go true y e z f = refl
      go false true e true f = absurd (omega (arith, eqb-true t 1 e, eqb-true t 6 f))
      go false true e false f = change_number_law c d.video d.size o l
      go false false e true f = change_number_law c d.captions (io_size d.services) o l
      go false false e false f = refl

  -- one that is refused leaves the state
  pub mapped_kept : (mapped_of c d t o l).number ≢ 0 → (mapped_of c d t o l).state ≡ d
  unfolding mapped_of
  mapped_kept = go (eqb d.ready 0) (eqb t 1) (eqb t 6)
    where
      go : (x y z : Bool) → (by_tests x y z).number ≢ 0 → (by_tests x y z).state ≡ d
      go true y z h = refl
      go false true z h = ap (with_video d) (change_refused c d.video d.size o l h)
      go false false true h = ap (with_captions d) (change_refused c d.captions (io_size d.services) o l h)
      go false false false h = refl

  -- none changes what requests chose
  pub mapped_chosen : (setup_of (mapped_of c d t o l).state ≡ setup_of d) × ((mapped_of c d t o l).state.services ≡ d.services) × ((mapped_of c d t o l).state.values ≡ d.values)
  unfolding mapped_of
  mapped_chosen = go (eqb d.ready 0) (eqb t 1) (eqb t 6)
    where
      go : (x y z : Bool) → (setup_of (by_tests x y z).state ≡ setup_of d) × ((by_tests x y z).state.services ≡ d.services) × ((by_tests x y z).state.values ≡ d.values)
      go true y z = (refl, refl, refl)
      go false true z = (refl, refl, refl)
      go false false true = (refl, refl, refl)
      go false false false = (refl, refl, refl)

-- an open device hands it to the stream of its type
pub open_mapped : (k : Kind) (c : Change) (d : State) (o l : ℕ) → eqb d.ready 0 ≡ false
    → mapped_of c d (type_of k) o l ≡ mapped (reply_number (turned k c d o l).reply) (with_kind k d (turned k c d o l).stream)
unfolding mapped_of
open_mapped Kind.pictures c d o l e = rw e
open_mapped Kind.captions c d o l e = rw e

-- and leaves the stream of another
pub other_mapped : (k : Kind) (c : Change) (d : State) (t o l : ℕ) → eqb t (type_of k) ≡ false → stream_of k (mapped_of c d t o l).state ≡ stream_of k d
unfolding mapped_of
other_mapped Kind.pictures c d t o l n = rw n (go (eqb d.ready 0) (eqb t 6))
  where
    go : (x z : Bool) → (by_tests c d t o l x false z).state.video ≡ d.video
    go true z = refl
    go false true = refl
    go false false = refl
other_mapped Kind.captions c d t o l n = rw n (go (eqb d.ready 0) (eqb t 1))
  where
    go : (x y : Bool) → (by_tests c d t o l x y false).state.captions ≡ d.captions
    go true y = refl
    go false true = refl
    go false false = refl

-- a number that is not 0 is that of a refusal
pub by_number : (r : StreamReply) (e : Event) → cond (eqb (reply_number r) 0) e idle ≡ cond (refused_reply r) idle e
by_number StreamReply.Done e = refl
by_number (StreamReply.Granted n) e = refl
by_number (StreamReply.Returned f) e = refl
by_number (StreamReply.Refused why) e = rw (ne_eqb (errno_of why) 0 (λ z. omega (arith, errno_positive why, z)))
