-- The answer to a format call, read back: 204 bytes, of which the first nine words are the type and the picture format. Assumes nothing.
use Prim.Native.Nat.{ℕ, suc, ◌+◌, ◌*◌, ◌<◌}
use mathlib.Core.Path.{◌≡◌, refl, ap, ◌∙◌}
use mathlib.Core.List.{List, ◌∷◌, ◌++◌}
use native.Mathlib.Omega.{arith}
use lib.ListN.{length, get_or, replicate, length-append, length-replicate, get_or-append}
use Rattle.wire_read.specs.Words.{word_at, bytes_of}
use Rattle.wire_read.proofs.Words.{length_bytes_of, word_of_law, word_same}
use Rattle.format_rules.specs.declared.Format.{Format}
use Rattle.negotiation_rules.specs.Answer.{picture_words, format_reply}

pub reply_length : (kind : ℕ) (f : Format) (line size : ℕ) → length (format_reply kind f line size) ≡ 204
unfolding format_reply picture_words
reply_length kind f line size = simp (length-append, length-replicate, length_bytes_of)

eight_words : (f : Format) (line size : ℕ) → length (picture_words f line size) ≡ 8
unfolding picture_words
eight_words f line size = refl

-- a word that fits 32 bits comes back
pub reply_word : (kind : ℕ) (f : Format) (line size : ℕ) (k : ℕ) → k < 9 → get_or (kind ∷ picture_words f line size) k 0 < 4294967296
    → word_at (format_reply kind f line size) (4 * k) ≡ get_or (kind ∷ picture_words f line size) k 0
unfolding format_reply
reply_word kind f line size k h b =
    word_same (bytes_of ws ++ replicate 168 0) (bytes_of ws) (4 * k) (4 * k)
    (λ i g. get_or-append (bytes_of ws) (replicate 168 0) 0 (4 * k + i) (omega (arith, length_bytes_of ws, nine)))
    ∙ word_of_law ws k (omega (arith, nine)) b
  where
    ws : List ℕ
    ws = kind ∷ picture_words f line size

    nine : length ws ≡ 9
    nine = ap suc (eight_words f line size)
