-- Numbers of 16 bits in lists of bytes.
use Rattle.std.specs.Prelude.{ℕ, ◌+◌, ◌*◌, ◌/◌, ◌%◌, List, [], ◌∷◌, ◌++◌, get_or}

-- the number at a place, the lower byte first; bytes past the end count as 0
unfoldable pub half_at : List ℕ → ℕ → ℕ
half_at s at = get_or s at 0 + 256 * get_or s (at + 1) 0

-- its two bytes
unfoldable pub le16 : ℕ → List ℕ
le16 h = h % 256 ∷ h / 256 % 256 ∷ []

-- the bytes of numbers, one after the other
unfoldable pub halves_of : List ℕ → List ℕ
halves_of [] = []
halves_of (h ∷ hs) = le16 h ++ halves_of hs
