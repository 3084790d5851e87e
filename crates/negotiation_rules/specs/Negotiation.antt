-- What the device makes of a format that a client asks for.
use Rattle.std.specs.Prelude.{ℕ, min, Bool, cond, List, eqb}
use Rattle.wire_read.specs.Words.{word_at}
use Rattle.sheet_contents.specs.Contents.{format_count}
use Rattle.sheet_records.specs.Records.{format_code}
use Rattle.sheet_geometry.specs.Geometry.{widths_of, heights_of}
use Rattle.sheet_rules.specs.Folds.{any_below}
use Rattle.grid_rules.specs.Grid.{nearest_size}
use Rattle.format_rules.specs.declared.Format.{Format}

-- how many formats the sheet offers, up to 9
unfoldable pub offered : List ℕ → ℕ
offered s = min (format_count s) 9

-- one of the first n formats has the code
unfoldable pub offers_among : List ℕ → ℕ → ℕ → Bool
offers_among s c n = any_below n (λ k. eqb (format_code s k) c)

-- a code that the sheet does not have becomes that of the first format
unfoldable pub chosen_code : List ℕ → ℕ → ℕ
chosen_code s c = cond (offers_among s c (offered s)) c (format_code s 0)

-- the nearest allowed width and height, each the smaller on a tie
unfoldable pub negotiated : List ℕ → Format → Format
negotiated s f =
    record {
      width = nearest_size (widths_of s) f.width;
      height = nearest_size (heights_of s) f.height;
      code = chosen_code s f.code;
    }

-- after opening: the first format and the greatest size
unfoldable pub opening_format : List ℕ → Format
opening_format s = record { width = (widths_of s).greatest; height = (heights_of s).greatest; code = format_code s 0 }

-- what an argument of 204 bytes asks for: width, height and code
unfoldable pub asked_format : List ℕ → Format
asked_format a = record { width = word_at a 4; height = word_at a 8; code = word_at a 12 }
