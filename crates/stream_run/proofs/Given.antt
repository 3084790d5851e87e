-- The numbers of replies: whatever a call gives, it is 0.
use mathlib.Core.Path.{◌≡◌, refl}
use Prim.Native.Nat.{ℕ}
use Rattle.std.specs.Prelude.{Result, Ok, Err}
use Rattle.ioctl_table.specs.declared.refusals.Refusal.{Refusal}
use Rattle.ioctl_table.specs.Refusal.{number_of}
use Rattle.stream_run.specs.Replies.{done}
use Rattle.stream_words.specs.declared.Filled.{Filled}
use Rattle.stream_run.specs.Replies.Reply.{Granted, Returned}
use Rattle.stream_run.specs.Numbers.{reply_number}

-- a count of buffers is not told as the number of a refusal
pub granted_number : (n : ℕ) → reply_number (Granted n) ≡ 0
granted_number n = refl

-- nor is a frame
pub returned_number : (f : Filled) → reply_number (Returned f) ≡ 0
returned_number f = refl

-- the number of a result is that of its reply
pub done_number : (r : Result Unit Refusal) → number_of r ≡ reply_number (done r)
done_number (Ok x) = refl
done_number (Err why) = refl
