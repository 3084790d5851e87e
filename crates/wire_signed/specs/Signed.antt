-- 32 bits as a signed number in two's complement.
use Rattle.std.specs.Prelude.{List, ℕ, suc, ◌+◌, ◌-◌, ℤ, pos, negsuc, ◌-ℤ◌}
use Rattle.std.specs.Int.{w32}
use Rattle.std.proofs.Common.{to_z, of_z}
use Rattle.wire_read.specs.Words.{word_at}

-- the number that 32 bits stand for: from 2^31 on it is the bits less 2^32
unfoldable pub signed : ℕ → ℤ
signed w = to_z w32 w

-- the 32 bits of a number: below zero it is the number and 2^32
unfoldable pub bits : ℤ → ℕ
bits z = of_z w32 z

-- the word at a place as a signed number
unfoldable pub signed_at : List ℕ → ℕ → ℤ
signed_at s at = signed (word_at s at)

-- how far a number lies above -k, 0 where it does not
unfoldable pub above : ℕ → ℤ → ℕ
above k (pos n) = k + n
above k (negsuc n) = k - suc n

-- a number of 32 bits counted from the least one, -2^31
abbrev pub biased_of : ℤ → ℕ
biased_of z = above 2147483648 z

-- how far apart two numbers are: by how much the one is above the other, and the other above it; one of the two is 0
unfoldable pub distance : ℤ → ℤ → ℕ
distance x y = above 0 (x -ℤ y) + above 0 (y -ℤ x)
