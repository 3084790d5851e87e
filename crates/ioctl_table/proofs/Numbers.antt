-- What holds of the numbers of the refusals, for upper layers to cite. Assumes nothing.
use mathlib.Core.Path.{◌≡◌, refl}
use mathlib.Core.Bool.{true, false≢true}
use Prim.Native.Nat.{ℕ, zero, suc, ◌<◌}
use native.Mathlib.Omega.{arith}
use Rattle.ioctl_table.specs.Refusal.{errno_of, numbered}
use Rattle.ioctl_table.specs.declared.refusals.Refusal.{Refusal}
use Rattle.ioctl_table.specs.declared.refusals.Refusal.TheVariants.{ArgumentLength, MemoryLength, Closed, UnknownWord, WrongType, WrongMemory, NoSuchIndex, NoSuchControl, NotDequeued, NoBuffers, NotStreaming, ControlDisabled, ControlReadOnly, ControlIsButton, BadSheet, MemoryTooLong, NoSuchPlane, NoSuchBuffer, NotMapped, BuffersExist, StillMapped, Streaming, ControlGrabbed, OutOfRange, NothingOutgoing, RunFull, MapsFull, BadLines, BadBlock}

-- every refusal gives one of the seven numbers
pub errno_known : (r : Refusal) → numbered (errno_of r) ≡ true
errno_known ArgumentLength = refl
errno_known MemoryLength = refl
errno_known Closed = refl
errno_known UnknownWord = refl
errno_known WrongType = refl
errno_known WrongMemory = refl
errno_known NoSuchIndex = refl
errno_known NoSuchControl = refl
errno_known NotDequeued = refl
errno_known NoBuffers = refl
errno_known NotStreaming = refl
errno_known ControlDisabled = refl
errno_known ControlReadOnly = refl
errno_known ControlIsButton = refl
errno_known BadSheet = refl
errno_known MemoryTooLong = refl
errno_known NoSuchPlane = refl
errno_known NoSuchBuffer = refl
errno_known NotMapped = refl
errno_known BuffersExist = refl
errno_known StillMapped = refl
errno_known Streaming = refl
errno_known ControlGrabbed = refl
errno_known OutOfRange = refl
errno_known NothingOutgoing = refl
errno_known RunFull = refl
errno_known MapsFull = refl
errno_known BadLines = refl
errno_known BadBlock = refl

positive : (n : ℕ) → numbered n ≡ true → 0 < n
positive zero e = absurd (false≢true e)
positive (suc n) e = omega arith

-- no refusal gives 0, the number of a call that was done
pub errno_positive : (r : Refusal) → 0 < errno_of r
errno_positive r = positive (errno_of r) (errno_known r)
