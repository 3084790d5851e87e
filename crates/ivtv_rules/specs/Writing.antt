-- A block written: which records are taken, and what becomes of them.
use Rattle.std.specs.Prelude.{ℕ, zero, suc, ◌*◌, ◌-◌, ◌/◌, ◌%◌, Bool, cond, ◌&&◌, List, [], eqb, ltb, length, take, drop}
use Rattle.sheet_rules.specs.Folds.{all_below}
use Rattle.ioctl_table.specs.Refusal.{errno_of}
use Rattle.ioctl_table.specs.declared.refusals.Refusal.TheVariants.{BadLines}
use Rattle.ivtv_rules.specs.Lines.{record_bit, line_of}
use Rattle.ivtv_rules.specs.Block.{Lines, block_of, block_length}

-- record i of lent lines: 64 bytes
abbrev pub record64 : List ℕ → ℕ → List ℕ
record64 s i = take 64 (drop (64 * i) s)

-- which of the first n records names the line of bit k, counted from 1; 0 where none does
unfoldable pub naming : List ℕ → ℕ → ℕ → ℕ
naming s zero k = 0
naming s (suc i) k = cond (eqb (record_bit (record64 s i)) k) (suc i) (naming s i k)

-- each of the first n records has a service and a line that can be packed, and no record before it names the same line
unfoldable pub good_lines : List ℕ → ℕ → Bool
good_lines s n = all_below n (λ i. ltb (record_bit (record64 s i)) 36 && eqb (naming s i (record_bit (record64 s i))) 0)

-- the line that a record, counted from 1, becomes; none for 0
abbrev pub line_for : List ℕ → ℕ → List ℕ
line_for s p = cond (eqb p 0) [] (line_of (record64 s (p - 1)))

-- the lines of lent records, by their bits
abbrev pub lines_of : List ℕ → Lines
lines_of s k = line_for s (naming s (length s / 64) k)

-- whole records, all of them good, and an output of m bytes that is of the block's length
unfoldable pub packable : List ℕ → ℕ → Bool
packable s m = eqb (length s % 64) 0 && good_lines s (length s / 64) && eqb m (block_length (length s / 64))

-- the number that is given back
unfoldable pub pack_number : List ℕ → ℕ → ℕ
pack_number s m = cond (packable s m) 0 (errno_of BadLines)

-- what the output holds then: the block, or what it held
unfoldable pub packed : List ℕ → List ℕ → List ℕ
packed s o = cond (packable s (length o)) (block_of (lines_of s)) o
