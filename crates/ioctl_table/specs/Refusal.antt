-- The numbers of the refusals.
use Rattle.std.specs.Prelude.{Bool, false, ◌||◌, List, [], ◌∷◌, ℕ, eqb, Result, Ok, Err}
use Rattle.ioctl_table.specs.declared.refusals.Refusal.{Refusal}
use Rattle.ioctl_table.specs.declared.refusals.Refusal.TheVariants.{ArgumentLength, MemoryLength, Closed, UnknownWord, WrongType, WrongMemory, NoSuchIndex, NoSuchControl, NotDequeued, NoBuffers, NotStreaming, ControlDisabled, ControlReadOnly, ControlIsButton, BadSheet, MemoryTooLong, NoSuchPlane, NoSuchBuffer, NotMapped, BuffersExist, StillMapped, Streaming, ControlGrabbed, OutOfRange, NothingOutgoing, RunFull, MapsFull, BadLines, BadBlock}

-- the number that is given back for a refusal, under the reason for it
abbrev pub errno_of : Refusal → ℕ
-- the argument lent is longer or shorter than the word says
errno_of ArgumentLength = 14
-- the memory lent with an arrival has another length than that of its stream had at opening
errno_of MemoryLength = 14
-- the device is closed, since its opening was refused
errno_of Closed = 22
-- the word is none of the eighteen
errno_of UnknownWord = 25
-- the type named is that of no stream, or not 1, video capture, where only pictures have the call
errno_of WrongType = 22
-- the kind of memory named is not 1, the only kind there is
errno_of WrongMemory = 22
-- no format or no buffer has this index
errno_of NoSuchIndex = 22
-- no control has this id, or with bit 31 none has a higher one
errno_of NoSuchControl = 22
-- the buffer handed in is in one of the two queues already
errno_of NotDequeued = 22
-- there are no buffers to stream into or to hand out
errno_of NoBuffers = 22
-- there are buffers, and no run is on in which one could be filled
errno_of NotStreaming = 22
-- the control is disabled: its value can be neither read nor set
errno_of ControlDisabled = 22
-- the control can be read and not set
errno_of ControlReadOnly = 22
-- the control is a button, which has no value to read
errno_of ControlIsButton = 22
-- the sheet at opening breaks one of its rules
errno_of BadSheet = 22
-- the memory of a stream at opening is longer than 2 ^ 30 bytes
errno_of MemoryTooLong = 22
-- the present format has no plane of this number, or the frame lent is not of its length
errno_of NoSuchPlane = 22
-- no granted buffer has this offset and this length
errno_of NoSuchBuffer = 22
-- the buffer to be unmapped is not mapped
errno_of NotMapped = 22
-- the format is to change while there are buffers of the present one
errno_of BuffersExist = 16
-- new buffers are asked for, or the present ones given up, while one of them is mapped
errno_of StillMapped = 16
-- new buffers are asked for while the stream runs
errno_of Streaming = 16
-- the control is grabbed, and cannot be set now
errno_of ControlGrabbed = 16
-- the value is below the least or above the greatest of the control
errno_of OutOfRange = 34
-- a run is on, and no buffer is filled and waiting
errno_of NothingOutgoing = 11
-- the run has accepted all the arrivals that it can number
errno_of RunFull = 75
-- the buffer is mapped as often as can be counted
errno_of MapsFull = 75
-- lines to be packed break a rule, or the block lent is not of their length
errno_of BadLines = 22
-- a block to be read breaks a rule, or what is lent for its lines is not of their length
errno_of BadBlock = 22

-- the number that a call gives back: 0 where it is done, or that of the refusal
abbrev pub number_of : Result Unit Refusal → ℕ
number_of (Ok done) = 0
number_of (Err why) = errno_of why

-- the number is one of the list
abbrev pub any_of : ℕ → List ℕ → Bool
any_of n [] = false
any_of n (x ∷ xs) = eqb x n || any_of n xs

-- the number is one that a refusal can give
abbrev pub numbered : ℕ → Bool
numbered n = any_of n (11 ∷ 14 ∷ 16 ∷ 22 ∷ 25 ∷ 34 ∷ 75 ∷ [])
