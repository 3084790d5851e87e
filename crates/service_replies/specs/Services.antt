-- The bytes that ask for services, and those that answer, field by field in the order of the header.
use Rattle.std.specs.Prelude.{ℕ, ◌+◌, ◌*◌, List, replicate}
use Rattle.std.proofs.lemmas.List.Edits.{sets}
use Rattle.wire_read.specs.Words.{le32}
use Rattle.wire_read.specs.Lists.{tab}
use Rattle.service_rules.specs.Services.{capability_lines}
use Rattle.service_rules.specs.Negotiation.{negotiated_lines, union_of, io_size}
use Rattle.service_replies.specs.Halves.{half_at, le16, halves_of}

-- the 48 sets of the lines, from a place on
abbrev pub lines_at : List ℕ → ℕ → List ℕ
lines_at a at = tab (λ k. half_at a (at + 2 * k)) 48

-- what an argument of 204 bytes asks for: service_set at 4, service_lines at 6; its io_size and reserved words are not looked at
unfoldable pub asked_services : List ℕ → List ℕ
asked_services a = negotiated_lines (half_at a 4) (lines_at a 6)

-- G_FMT, S_FMT, TRY_FMT, 204 bytes: type, service_set at 4, service_lines at 6, io_size at 104, the rest zero
unfoldable pub services_reply : ℕ → List ℕ → List ℕ
services_reply kind lines = sets (sets (sets (sets (replicate 204 0) 0 (le32 kind)) 4 (le16 (union_of lines))) 6 (halves_of lines)) 104 (le32 (io_size lines))

-- G_SLICED_VBI_CAP, 116 bytes: service_set, service_lines at 2, type at 100, the rest zero
unfoldable pub services_capability_reply : ℕ → List ℕ
services_capability_reply kind = sets (sets (sets (replicate 116 0) 0 (le16 (union_of capability_lines))) 2 (halves_of capability_lines)) 100 (le32 kind)
