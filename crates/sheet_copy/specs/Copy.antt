-- The device's own copy of its sheet.
use Rattle.std.specs.Prelude.{List, ℕ, replicate}
use Rattle.std.proofs.lemmas.List.Edits.{sets}

-- the sheet's bytes, then zeros, 2688 bytes in all
unfoldable pub kept_of : List ℕ → List ℕ
kept_of s = sets (replicate 2688 0) 0 s
