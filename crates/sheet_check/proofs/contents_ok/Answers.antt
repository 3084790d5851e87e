-- The words, and the sheet's length. Assumes nothing.
use Prim.Native.Nat.{ℕ, ◌+◌, ◌*◌}
use mathlib.Core.Path.{ap, ap₂}
use lib.Dec.{eqb, leb}
use lib.ListN.{length}
use Rattle.sheet_rules.specs.Rules.{contents_ok}
use Rattle.sheet_contents.specs.Contents.{identity_at, identity_count, formats_at, format_count, geometry_at, geometry_count, controls_at, control_count}
use Rattle.sheet_rules.proofs.Truth.{◌and◌}
use Rattle.sheet_check.proofs.contents_ok.Goals as goal

pub returns : goal.returns
unfolding contents_ok identity_at identity_count formats_at format_count geometry_at geometry_count controls_at control_count
returns c =
    let formats = c.format_count-f.ensures in
    let controls = c.control_count-c.ensures in
    ap (λ (w : ℕ). eqb w 32) c.word_at.ensures
    and ap (λ (w : ℕ). eqb w 1) c.word_at-2.ensures
    and ap (λ (w : ℕ). eqb w 116) c.word_at-3.ensures
    and ap (λ (f : ℕ). leb 1 f) formats
    and ap (λ (f : ℕ). leb f 9) formats
    and ap₂ (λ (w f : ℕ). eqb w (116 + 36 * f)) c.word_at-4.ensures formats
    and ap (λ (w : ℕ). eqb w 1) c.word_at-5.ensures
    and ap₂ (λ (w f : ℕ). eqb w (184 + 36 * f)) c.word_at-6.ensures formats
    and ap (λ (n : ℕ). leb n 32) controls
    and ap₂ (λ (f n : ℕ). eqb (length c.args.s.now) (184 + 36 * f + 68 * n)) formats controls
