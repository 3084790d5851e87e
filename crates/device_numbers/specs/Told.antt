-- The verdict on the film as a number.
use Rattle.std.specs.Prelude.{ℕ}
use Rattle.stream_verdict.specs.Film.{verdict_number}
use Rattle.device_state.specs.State.{State}
use Rattle.device_film.specs.Film.{device_verdict}

-- the number of the device's verdict on the film of a type
abbrev pub verdict_told : State → ℕ → ℕ
verdict_told d kind = verdict_number (device_verdict d kind)
