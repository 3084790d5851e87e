-- The callees' tests, joined as in the definition. Assumes nothing.
use Prim.Native.Nat.{ℕ, ◌+◌}
use mathlib.Core.Path.{◌≡◌, ap, ◌∙◌}
use lib.Dec.{eqb, leb, ltb}
use lib.ListN.{take, drop}
use Rattle.wire_read.specs.Words.{word_at}
use Rattle.sheet_rules.specs.Rules.{has_zero, limits_ok, control_ok}
use Rattle.sheet_contents.specs.Contents.{control_at}
use Rattle.sheet_records.specs.Records.{control_kind, control_name, limits_of, control_flags}
use Rattle.sheet_rules.proofs.Truth.{◌and◌}
use Rattle.sheet_control_check.proofs.control_ok.Goals as goal

pub returns : goal.returns
unfolding control_ok control_kind control_name control_flags
returns c =
    let s = c.args.s.now in
    let k = c.args.k in
    let at = c.control_at-at.ensures.0 in
    let word : (n : ℕ) → word_at s (c.control_at-at.result + n) ≡ word_at s (control_at s k + n) = λ n. ap (λ (p : ℕ). word_at s (p + n)) at in
    let kind : c.word_at-kind.result ≡ control_kind s k = c.word_at-kind.ensures ∙ word 4 in
    ap (λ (w : ℕ). ltb w 0x80000000) c.control_id.ensures
    and ap (λ (w : ℕ). leb 1 w) kind
    and ap (λ (w : ℕ). leb w 4) kind
    and (c.has_zero.ensures ∙ ap has_zero (c.part.ensures ∙ ap (λ (p : ℕ). take 32 (drop (p + 8) s)) at))
    and (c.limits_ok.ensures ∙ ap (λ (w : ℕ). limits_ok w (limits_of s k)) kind)
    and ap (λ (w : ℕ). leb w 7) (c.word_at.ensures ∙ word 56)
    and ap (λ (w : ℕ). eqb w 0) (c.word_at-2.ensures ∙ word 60)
    and ap (λ (w : ℕ). eqb w 0) (c.word_at-3.ensures ∙ word 64)
