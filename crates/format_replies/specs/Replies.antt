-- The bytes of answers about the device and its formats, field by field in the order of the header.
use Rattle.std.specs.Prelude.{ℕ, List, [], ◌∷◌, replicate}
use Rattle.std.proofs.lemmas.List.Edits.{sets}
use Rattle.wire_read.specs.Words.{le32, bytes_of}
use Rattle.sheet_contents.specs.Contents.{identity_of}
use Rattle.sheet_records.specs.Records.{format_code, format_description}

-- QUERYCAP, 104 bytes: driver, card, bus and version from the start, capabilities (video capture, sliced capture, streaming) at 84, the rest zero
unfoldable pub capability_reply : List ℕ → List ℕ
capability_reply s = sets (sets (replicate 104 0) 0 (identity_of s)) 84 (le32 0x04000041)

-- ENUM_FMT, 64 bytes: index, type, flags 0, description at 12, code at 44, the rest zero
unfoldable pub description_reply : List ℕ → ℕ → List ℕ
description_reply s k = sets (sets (sets (replicate 64 0) 0 (bytes_of (k ∷ 1 ∷ []))) 12 (format_description s k)) 44 (le32 (format_code s k))
