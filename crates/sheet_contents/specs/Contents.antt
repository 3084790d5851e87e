-- A sheet's table of contents, its identity, and where each format and control starts. A body is found by the table of contents.
use Rattle.std.specs.Prelude.{List, ℕ, ◌+◌, ◌*◌, take, drop}
use Rattle.wire_read.specs.Words.{word_at}

-- ---- the table of contents: offset and count of identity, formats, geometry and controls

unfoldable pub identity_at : List ℕ → ℕ
identity_at s = word_at s 0

unfoldable pub identity_count : List ℕ → ℕ
identity_count s = word_at s 4

unfoldable pub formats_at : List ℕ → ℕ
formats_at s = word_at s 8

unfoldable pub format_count : List ℕ → ℕ
format_count s = word_at s 12

unfoldable pub geometry_at : List ℕ → ℕ
geometry_at s = word_at s 16

unfoldable pub geometry_count : List ℕ → ℕ
geometry_count s = word_at s 20

unfoldable pub controls_at : List ℕ → ℕ
controls_at s = word_at s 24

unfoldable pub control_count : List ℕ → ℕ
control_count s = word_at s 28

-- ---- identity: driver 16 bytes, card 32, bus 32, version 4

unfoldable pub identity_of : List ℕ → List ℕ
identity_of s = take 84 (drop (identity_at s) s)

unfoldable pub driver_of : List ℕ → List ℕ
driver_of s = take 16 (drop (identity_at s) s)

unfoldable pub card_of : List ℕ → List ℕ
card_of s = take 32 (drop (identity_at s + 16) s)

unfoldable pub bus_of : List ℕ → List ℕ
bus_of s = take 32 (drop (identity_at s + 48) s)

-- ---- format k, 36 bytes: code and description

unfoldable pub format_at : List ℕ → ℕ → ℕ
format_at s k = formats_at s + 36 * k

-- ---- control k, 68 bytes: id, type, name, minimum, maximum, step, default, flags, two reserved words

unfoldable pub control_at : List ℕ → ℕ → ℕ
control_at s k = controls_at s + 68 * k
