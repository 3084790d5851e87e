-- The sheet has the words of CROPCAP's answer in its order. Assumes nothing.
use Prim.Native.Nat.{ℕ, ◌+◌, ◌<◌}
use mathlib.Core.Path.{◌≡◌, refl, sym, ap, ◌∙◌}
use mathlib.Core.List.{List, [], ◌∷◌, ◌++◌}
use native.Mathlib.Nat.{add_assoc}
use native.Mathlib.Omega.{arith}
use lib.ListN.{get_or, take, drop, replicate, length-replicate, length-take}
use lib.Seq.{sets}
use Rattle.wire_read.specs.Words.{word_at, four_words, le32, bytes_of}
use Rattle.wire_signed.specs.Signed.{signed_at}
use Rattle.wire_signed.proofs.Integers.{bits_signed}
use Rattle.wire_read.proofs.Stores.{sets_within, then_at}
use Rattle.wire_read.proofs.Words.{words_from, words_four, words_part, word_fits}
use Rattle.sheet_contents.specs.Contents.{geometry_at}
use Rattle.sheet_geometry.specs.Geometry.{rect_at, crop_bounds, crop_default, pixel_aspect}
use Rattle.crop_replies.specs.Replies.{rect_words, crop_capability_reply}

-- ---- CROPCAP: the sheet has the words of the answer in its order

module _ (s : List ℕ) (bytes : (k : ℕ) → get_or s k 0 < 256) where
  -- a rectangle's numbers are the words that they were read from
  rect_words_law : (at : ℕ) → rect_words (rect_at s at) ≡ four_words s at
  unfolding rect_at signed_at
  rect_words_law at =
      rw (
        bits_signed (word_at s at) (word_fits s at bytes),
        bits_signed (word_at s (at + 4)) (word_fits s (at + 4) bytes),
        bits_signed (word_at s (at + 8)) (word_fits s (at + 8) bytes),
        bits_signed (word_at s (at + 12)) (word_fits s (at + 12) bytes),
      )

  -- bounds, default and aspect are ten words in a row
  ten_words : rect_words (crop_bounds s) ++ rect_words (crop_default s) ++ (pixel_aspect s).numerator ∷ (pixel_aspect s).denominator ∷ [] ≡ words_from s (geometry_at s + 28) 10
  unfolding crop_bounds crop_default pixel_aspect
  ten_words =
      let g = geometry_at s in
      let aspect : List ℕ = word_at s (g + 60) ∷ word_at s (g + 64) ∷ [] in
      let six : words_from s (g + 28 + 16) 6 ≡ four_words s (g + 44) ++ aspect =
      ap (λ (n : ℕ). words_from s n 6) (add_assoc g 28 16)
      ∙ words_four s (g + 44) 2
      ∙ ap (λ (n : ℕ). four_words s (g + 44) ++ words_from s n 2) (add_assoc g 44 16)
      ∙ ap (λ (n : ℕ). four_words s (g + 44) ++ word_at s (g + 60) ∷ word_at s n ∷ []) (add_assoc g 60 4) in
      ap (λ (w : List ℕ). w ++ rect_words (crop_default s) ++ aspect) (rect_words_law (g + 28))
      ∙ ap (λ (w : List ℕ). four_words s (g + 28) ++ w ++ aspect) (rect_words_law (g + 44))
      ∙ sym (words_four s (g + 28) 6 ∙ ap (λ (w : List ℕ). four_words s (g + 28) ++ w) six)

  -- the type, then those ten words' bytes over zeros
  pub capability_copied : (a : List ℕ) → sets (sets (sets a 0 (le32 1)) 4 (replicate 40 0)) 4 (take 40 (drop (geometry_at s + 28) s)) ≡ sets a 0 (crop_capability_reply s)
  unfolding crop_capability_reply bytes_of le32
  capability_copied a =
      let p = drop (geometry_at s + 28) s in
      sym (sets_within (take 40 p) (replicate 40 0) (sets a 0 (le32 1)) 4 0 (simp length-replicate (omega (arith, length-take 40 p))))
      ∙ ap (λ (b : List ℕ). sets (sets a 0 (le32 1)) 4 b) (sym (words_part s bytes (geometry_at s + 28) 10) ∙ ap bytes_of (sym ten_words))
      ∙ then_at (le32 1) (bytes_of (rect_words (crop_bounds s) ++ rect_words (crop_default s) ++ (pixel_aspect s).numerator ∷ (pixel_aspect s).denominator ∷ [])) a 4 refl
