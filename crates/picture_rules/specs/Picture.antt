-- When a picture is whole.
use Rattle.std.specs.Prelude.{ℕ, Bool, false, true, cond, eqb, ℤ, pos}
use Rattle.std.specs.Int.Signed.{lt_z}
use Rattle.stream_words.specs.declared.Time.{Time}

-- microseconds are in 0..999,999
abbrev pub in_second : ℤ → Bool
in_second u = cond (lt_z u (pos 0)) false (cond (lt_z (pos 999999) u) false true)

-- not damaged: the length is the image size, and the microseconds are in 0..999,999
unfoldable pub whole_picture : ℕ → ℕ → Time → Bool
whole_picture n size t = cond (in_second t.microseconds) (eqb n size) false
