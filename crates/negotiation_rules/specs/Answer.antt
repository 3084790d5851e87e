-- The answer to G_FMT, S_FMT and TRY_FMT.
use Rattle.std.specs.Prelude.{ℕ, List, [], ◌∷◌, ◌++◌, replicate}
use Rattle.wire_read.specs.Words.{bytes_of}
use Rattle.format_rules.specs.declared.Format.{Format}
use Rattle.format_rules.specs.Code.{colour_space}

-- the 32 bytes of picture format: width, height, code, field none, bytes per line, image size, colour space, private 0
unfoldable pub picture_words : Format → ℕ → ℕ → List ℕ
picture_words f line size = f.width ∷ f.height ∷ f.code ∷ 1 ∷ line ∷ size ∷ colour_space f.code ∷ 0 ∷ []

-- type, picture format, 168 zero bytes
unfoldable pub format_reply : ℕ → Format → ℕ → ℕ → List ℕ
format_reply kind f line size = bytes_of (kind ∷ picture_words f line size) ++ replicate 168 0
