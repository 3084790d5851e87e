-- Map counts, one for each buffer: what a map and an unmap make of them.
use Rattle.std.specs.Prelude.{ℕ, ◌+◌, ◌-◌, Bool, not, List, eqb, leb, get_or, set, replicate}
use Rattle.ioctl_table.specs.declared.refusals.Refusal.{Refusal}
use Rattle.ioctl_table.specs.declared.refusals.Refusal.TheVariants.{NotMapped, MapsFull}
use Rattle.wire_read.specs.Lists.{any}
use Rattle.stream_maps.specs.declared.Change.{Change}
use Rattle.stream_maps.specs.declared.Change.TheVariants.{Map, Unmap}

-- a buffer can be mapped so often
abbrev pub most_maps : ℕ
most_maps = 255

-- none of the 32 is mapped
unfoldable pub no_maps : List ℕ
no_maps = replicate 32 0

-- how often buffer k is mapped
abbrev pub maps_of : List ℕ → ℕ → ℕ
maps_of m k = get_or m k 0

-- it is mapped while its count is above 0
abbrev pub is_mapped : List ℕ → ℕ → Bool
is_mapped m k = not (eqb (maps_of m k) 0)

-- one of them is mapped
unfoldable pub any_mapped : List ℕ → Bool
any_mapped m = any (λ n. not (eqb n 0)) m

-- a buffer with this count can be mapped no more; one with this count cannot be unmapped
abbrev pub blocked : Change → ℕ → Bool
blocked Map n = leb most_maps n
blocked Unmap n = eqb n 0

-- the reason that is given then: 75, or 22
abbrev pub why_not : Change → Refusal
why_not Map = MapsFull
why_not Unmap = NotMapped

-- a count goes up by one, or down
abbrev pub turned : Change → ℕ → ℕ
turned Map n = n + 1
turned Unmap n = n - 1

-- that of buffer k
abbrev pub moved : Change → List ℕ → ℕ → List ℕ
moved c m k = set m k (turned c (maps_of m k))
