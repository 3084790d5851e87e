-- What a request answers: the number given back, the state after it, the argument after it.
use Rattle.std.specs.Prelude.{ℕ, cond, not, List, eqb}
use Rattle.wire_read.specs.Words.{word_at}
use Rattle.ioctl_table.specs.Refusal.{errno_of}
use Rattle.ioctl_table.specs.declared.refusals.Refusal.{Refusal}
use Rattle.ioctl_table.specs.declared.refusals.Refusal.TheVariants.{WrongType}
use Rattle.device_state.specs.State.{State}

pub record Answer : Type 0 where
  pub number : ℕ
  pub state : State
  pub argument : List ℕ

-- a number, a state and an argument
abbrev pub answer : ℕ → State → List ℕ → Answer
answer n d a = record { number = n; state = d; argument = a }

-- done
abbrev pub done : State → List ℕ → Answer
done d a = answer 0 d a

-- a refusal changes nothing
abbrev pub refused : Refusal → State → List ℕ → Answer
refused why d a = answer (errno_of why) d a

-- only for type 1, video capture, named at a place of the argument
abbrev pub typed : ℕ → State → List ℕ → Answer → Answer
typed at d a r = cond (not (eqb (word_at a at) 1)) (refused WrongType d a) r

-- by the stream whose type the argument names at a place: 1, pictures, or 6, captions
abbrev pub by_type : ℕ → State → List ℕ → Answer → Answer → Answer
by_type at d a pictures captions = cond (eqb (word_at a at) 1) pictures (cond (eqb (word_at a at) 6) captions (refused WrongType d a))
