-- A refusal that a function hands on, as `?` does. Assumes nothing.
use mathlib.Core.Path.{◌≡◌, ap}
use Rattle.std.specs.Prelude.{Result, Ok, Err, IsErrAnd}
use Rattle.ioctl_table.specs.declared.refusals.Refusal.{Refusal}
use Rattle.ioctl_table.specs.Refusal.{errno_of, number_of}

-- its number is given back
pub raised : (r : Result Unit Refusal) (why : Refusal) → IsErrAnd r (λ w. w ≡ why) → number_of r ≡ errno_of why
raised (Ok done) why h = absurd h
raised (Err w) why h = ap errno_of h
