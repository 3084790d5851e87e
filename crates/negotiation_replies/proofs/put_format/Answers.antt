-- The words over 204 zeros leave 168 of them; the whole is stored at once. Assumes nothing.
use mathlib.Core.Path.{◌≡◌}
use mathlib.Core.List.{List, [], ◌∷◌, ◌++◌}
use Prim.Native.Nat.{ℕ}
use lib.ListN.{replicate}
use lib.Seq.{sets}
use Rattle.wire_read.proofs.Stores.{over_zeros}
use Rattle.wire_read.proofs.Words.{length_bytes_of}
use Rattle.wire_read.specs.Words.{bytes_of}
use Rattle.negotiation_rules.specs.Answer.{format_reply, picture_words}
use Rattle.negotiation_replies.proofs.put_format.Goals as goal

-- nine words over 204 zeros
filled : (a b c d e f g h i : ℕ) → let ws = a ∷ b ∷ c ∷ d ∷ e ∷ f ∷ g ∷ h ∷ i ∷ [] in sets (replicate 204 0) 0 (bytes_of ws) ≡ bytes_of ws ++ replicate 168 0
filled a b c d e f g h i =
    let ws : List ℕ = a ∷ b ∷ c ∷ d ∷ e ∷ f ∷ g ∷ h ∷ i ∷ [] in
    over_zeros (bytes_of ws) 204 168 (rw (length_bytes_of ws))

pub returns : goal.returns
unfolding format_reply picture_words
returns c =
    let a = c.args in
    rw (
      c.put_bytes.ensures,
      c.put_words.ensures,
      filled a.kind a.f.width a.f.height a.f.code 1 a.line a.size c.colour_space.result 0,
      c.colour_space.ensures,
    )
