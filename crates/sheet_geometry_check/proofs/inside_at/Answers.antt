-- The words at the four places. Assumes nothing.
use Prim.Native.Nat.{ℕ}
use mathlib.Core.Path.{◌≡◌, ◌∙◌}
use Rattle.wire_signed.specs.Signed.{signed, signed_at}
use Rattle.sheet_rules.specs.Rules.{inside_ok}
use Rattle.sheet_geometry_check.proofs.inside_at.Goals as goal

-- four words, each by what it is
by_words : {a b c d a' b' c' d' : ℕ} → a ≡ a' → b ≡ b' → c ≡ c' → d ≡ d'
    → inside_ok (signed a) (signed b) (signed c) (signed d) ≡ inside_ok (signed a') (signed b') (signed c') (signed d')
by_words p q r s = cc

pub returns : goal.returns
unfolding signed_at
returns c =
    c.inside_ok.ensures ∙ by_words c.word_at.ensures c.word_at-2.ensures c.word_at-3.ensures c.word_at-4.ensures
