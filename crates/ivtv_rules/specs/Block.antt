-- A block: an opening, masks unless all lines are there, and the lines in the order of their bits.
use Rattle.std.specs.Prelude.{ℕ, zero, suc, ◌+◌, ◌*◌, ◌/◌, ◌%◌, ◌^◌, Bool, true, false, cond, List, [], ◌∷◌, ◌++◌, eqb, ltb}
use Rattle.wire_read.specs.Words.{bytes_of}
use Rattle.service_rules.specs.Negotiation.{count_below}
use Rattle.ivtv_rules.specs.Lines.{record_of}

-- Lines by their bits: what stands at each of 0 to 35, the 43 bytes of a line or nothing.
abbrev pub Lines : Type 0
Lines = ℕ → List ℕ

-- something stands there
abbrev pub some : List ℕ → Bool
some [] = false
some (x ∷ l) = true

-- the lists of the first n numbers, one after the other
unfoldable pub joined : (ℕ → List ℕ) → ℕ → List ℕ
joined f zero = []
joined f (suc n) = joined f n ++ f n

-- the number in which bit k is set where the number k passes, of the first n
unfoldable pub mask_below : ℕ → (ℕ → Bool) → ℕ
mask_below zero p = 0
mask_below (suc n) p = mask_below n p + cond (p n) (2 ^ n) 0

-- the four letters itv0, and ITV0
abbrev pub itv0 : List ℕ
itv0 = 0x69 ∷ 0x74 ∷ 0x76 ∷ 0x30 ∷ []

abbrev pub ITV0 : List ℕ
ITV0 = 0x49 ∷ 0x54 ∷ 0x56 ∷ 0x30 ∷ []

-- what stands before n lines: with all 36 ITV0 alone, with fewer itv0 and the mask, as two words
unfoldable pub opening_of : ℕ → ℕ → List ℕ
opening_of n mask = cond (eqb n 36) ITV0 (itv0 ++ bytes_of (mask % 4294967296 ∷ mask / 4294967296 ∷ []))

-- how many lines there are, and their mask
abbrev pub line_count : Lines → ℕ
line_count f = count_below 36 (λ k. some (f k))

abbrev pub line_mask : Lines → ℕ
line_mask f = mask_below 36 (λ k. some (f k))

-- the block of these lines
unfoldable pub block_of : Lines → List ℕ
block_of f = opening_of (line_count f) (line_mask f) ++ joined f 36

-- a record where a line stands
abbrev pub record_at : Lines → ℕ → List ℕ
record_at f k = cond (some (f k)) (record_of k (f k)) []

-- the records of these lines, in the order of their bits
unfoldable pub records_of : Lines → List ℕ
records_of f = joined (record_at f) 36

-- bytes of a block of n lines; there is none of more than 36
unfoldable pub block_length : ℕ → ℕ
block_length n = cond (ltb n 36) (12 + 43 * n) (cond (eqb n 36) 1552 0)
