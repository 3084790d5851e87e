-- A block read: which blocks are taken, and what becomes of them.
use Rattle.std.specs.Prelude.{ℕ, ◌+◌, ◌*◌, ◌-◌, ◌^◌, Bool, true, false, cond, ◌&&◌, ◌||◌, List, [], ◌∷◌, eqb, ltb, length, take, drop}
use Rattle.wire_read.specs.Words.{word_at}
use Rattle.sheet_rules.specs.Folds.{all_below}
use Rattle.service_rules.specs.Services.{has}
use Rattle.service_rules.specs.Negotiation.{count_below}
use Rattle.ioctl_table.specs.Refusal.{errno_of}
use Rattle.ioctl_table.specs.declared.refusals.Refusal.TheVariants.{BadBlock}
use Rattle.ivtv_rules.specs.Lines.{good_line}
use Rattle.ivtv_rules.specs.Block.{Lines, itv0, ITV0, records_of}

-- two lists are the same
unfoldable pub same : List ℕ → List ℕ → Bool
same [] [] = true
same [] (y ∷ ys) = false
same (x ∷ xs) [] = false
same (x ∷ xs) (y ∷ ys) = eqb x y && same xs ys

-- a block opens with four letters
abbrev pub opens : List ℕ → List ℕ → Bool
opens letters b = same letters (take 4 b)

-- the mask of a block: of one that opens with ITV0 all 36 bits, else the two words behind the opening
unfoldable pub mask_in : List ℕ → ℕ
mask_in b = cond (opens ITV0 b) (2 ^ 36 - 1) (word_at b 4 + 4294967296 * word_at b 8)

-- where its lines start
unfoldable pub start_in : List ℕ → ℕ
start_in b = cond (opens ITV0 b) 4 12

-- a known opening; and behind itv0 no bit above 35, and not all of the 36
unfoldable pub good_opening : List ℕ → Bool
good_opening b = opens ITV0 b || opens itv0 b && ltb (mask_in b) (2 ^ 36 - 1)

-- a mask has bit k
abbrev pub bit_on : ℕ → ℕ → Bool
bit_on mask k = has mask (2 ^ k)

-- how many lines a mask names among the first n
abbrev pub count_in : ℕ → ℕ → ℕ
count_in mask n = count_below n (bit_on mask)

-- line j of a block, in the order in which they stand from a place on
abbrev pub line_at : List ℕ → ℕ → ℕ → List ℕ
line_at b start j = take 43 (drop (start + 43 * j) b)

-- the lines of a block, by their bits: a set bit names the next line
abbrev pub lines_in : List ℕ → Lines
lines_in b k = cond (bit_on (mask_in b) k) (line_at b (start_in b) (count_in (mask_in b) k)) []

-- each of the first n lines is good
unfoldable pub good_body : List ℕ → ℕ → ℕ → Bool
good_body b start n = all_below n (λ j. good_line (line_at b start j))

-- a good opening, as many bytes as the lines that it names take, all of them good, and an output of m bytes that is of their length
unfoldable pub readable : List ℕ → ℕ → Bool
readable b m = good_opening b && (eqb (length b) (start_in b + 43 * count_in (mask_in b) 36) && (eqb m (64 * count_in (mask_in b) 36) && good_body b (start_in b) (count_in (mask_in b) 36)))

-- the number that is given back
unfoldable pub unpack_number : List ℕ → ℕ → ℕ
unpack_number b m = cond (readable b m) 0 (errno_of BadBlock)

-- what the output holds then: the records, or what it held
unfoldable pub unpacked : List ℕ → List ℕ → List ℕ
unpacked b o = cond (readable b (length o)) (records_of (lines_in b)) o
