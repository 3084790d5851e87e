-- A buffer of the stream of a type is mapped, or unmapped. A closed device refuses both.
use Rattle.std.specs.Prelude.{ℕ, cond, eqb}
use Rattle.ioctl_table.specs.Refusal.{errno_of}
use Rattle.ioctl_table.specs.declared.refusals.Refusal.TheVariants.{Closed, WrongType}
use Rattle.stream_maps.specs.declared.Change.{Change}
use Rattle.stream_run.specs.Numbers.{reply_number}
use Rattle.stream_run.specs.Switches.{Step}
use Rattle.stream_mmap.specs.Mapping.{change_of}
use Rattle.service_rules.specs.Negotiation.{io_size}
use Rattle.device_state.specs.State.{State, with_video, with_captions}

-- the number given back, and the state after the call
pub record Mapped : Type 0 where
  pub number : ℕ
  pub state : State

abbrev pub mapped : ℕ → State → Mapped
mapped n d = record { number = n; state = d }

-- a buffer of pictures: the image size is the frame size
abbrev pub picture_change : Change → State → ℕ → ℕ → Step
picture_change c d offset length = change_of c d.video d.size offset length

-- a buffer of captions: the io size is
abbrev pub caption_change : Change → State → ℕ → ℕ → Step
caption_change c d offset length = change_of c d.captions (io_size d.services) offset length

-- closed, another type than 1 and 6; then its stream's own tests
unfoldable pub mapped_of : Change → State → ℕ → ℕ → ℕ → Mapped
mapped_of c d kind offset length =
    cond (eqb d.ready 0) (mapped (errno_of Closed) d)
    (cond (eqb kind 1) (mapped (reply_number (picture_change c d offset length).reply) (with_video d (picture_change c d offset length).stream))
    (cond (eqb kind 6) (mapped (reply_number (caption_change c d offset length).reply) (with_captions d (caption_change c d offset length).stream))
    (mapped (errno_of WrongType) d)))
