-- The numbers of an arrival's answer.
use Rattle.ioctl_table.specs.Refusal.{errno_of}
use Rattle.stream_arrival.specs.declared.Arrival.{Arrival}
use Rattle.stream_arrival.specs.declared.Arrival.TheVariants.{Refused, Ignored, Damaged, Dropped, Stored}
use Rattle.arrival_replies.specs.declared.Told.{Told}

-- a kind, the number given back or the frame's number, the buffer
abbrev pub told_of : Arrival → Told
told_of (Refused why) = record { kind = 0; number = errno_of why; buffer = 0 }
told_of Ignored = record { kind = 1; number = 0; buffer = 0 }
told_of Damaged = record { kind = 2; number = 0; buffer = 0 }
told_of Dropped = record { kind = 3; number = 0; buffer = 0 }
told_of (Stored k number) = record { kind = 4; number = number; buffer = k }
