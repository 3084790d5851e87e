-- One line: as a record of 64 bytes, and as 43 bytes of a block.
use Rattle.std.specs.Prelude.{ℕ, ◌+◌, ◌*◌, ◌-◌, ◌/◌, ◌%◌, Bool, cond, not, ◌&&◌, List, [], ◌∷◌, ◌++◌, eqb, leb, ltb, get_or, take, drop, replicate}
use Rattle.std.proofs.lemmas.List.Edits.{sets}
use Rattle.wire_read.specs.Words.{word_at, bytes_of}
use Rattle.sheet_rules.specs.Folds.{all_below}
use Rattle.ivtv_rules.specs.Services.{identifier_of, service_of, payload_of}

-- the mask bit of a line: 0 to 17 are lines 6 to 23 of the first field, 18 to 35 the same of the second; 36, behind the last, of any other
unfoldable pub bit_of : ℕ → ℕ → ℕ
bit_of field line = cond (ltb field 2 && (leb 6 line && leb line 23)) (18 * field + line - 6) 36

-- the bit of the line that a record names; 36 too where its id is not exactly one of the four services
unfoldable pub record_bit : List ℕ → ℕ
record_bit r = cond (eqb (identifier_of (word_at r 0)) 0) 36 (bit_of (word_at r 4) (word_at r 8))

-- n bytes: the first p of a list, and zeros behind them
unfoldable pub zeroed : ℕ → ℕ → List ℕ → List ℕ
zeroed n p l = sets (replicate n 0) 0 (take p l)

-- a record as a line of a block: the identifier of its service, and 42 bytes, zero beyond the payload
unfoldable pub line_of : List ℕ → List ℕ
line_of r = identifier_of (word_at r 0) ∷ zeroed 42 (payload_of (identifier_of (word_at r 0))) (drop 16 r)

-- the line of bit k as a record: service, field, line, a reserved word of zero, its 42 bytes and six zeros
unfoldable pub record_of : ℕ → List ℕ → List ℕ
record_of k l = bytes_of (service_of (get_or l 0 0) ∷ k / 18 ∷ (6 + k % 18) ∷ 0 ∷ []) ++ zeroed 48 42 (drop 1 l)

-- a line of a block is one that a reader takes: its identifier is known, and each byte beyond the payload is zero
unfoldable pub good_line : List ℕ → Bool
good_line l = not (eqb (service_of (get_or l 0 0)) 0) && all_below (42 - payload_of (get_or l 0 0)) (λ j. eqb (get_or l (1 + payload_of (get_or l 0 0) + j) 0) 0)
