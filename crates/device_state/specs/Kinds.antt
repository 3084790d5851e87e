-- The streams, by the types that name them.
use Rattle.std.specs.Prelude.{ℕ, cond, eqb, Result, Ok, Err}
use Rattle.ioctl_table.specs.declared.refusals.Refusal.{Refusal}
use Rattle.ioctl_table.specs.declared.refusals.Refusal.TheVariants.{WrongType}
use Rattle.device_state.specs.declared.Kind.{Kind}
use Rattle.device_state.specs.declared.Kind.TheVariants.{Pictures, Captions}

-- 1 names that of pictures, 6 that of captions; any other type is refused
abbrev pub kind_of : ℕ → Result Kind Refusal
kind_of n = cond (eqb n 1) (Ok Pictures) (cond (eqb n 6) (Ok Captions) (Err WrongType))
