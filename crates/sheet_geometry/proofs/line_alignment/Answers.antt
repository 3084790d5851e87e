-- One word. Assumes nothing.
use mathlib.Core.Path.{ap, ◌∙◌}
use Prim.Native.Nat.{ℕ, ◌+◌}
use Rattle.wire_read.specs.Words.{word_at}
use Rattle.sheet_geometry.specs.Geometry.{line_alignment}
use Rattle.sheet_geometry.proofs.line_alignment.Goals as goal

pub returns : goal.returns
unfolding line_alignment
returns c =
    let s = c.args.s.now in
    c.word_at.ensures ∙ ap (λ (n : ℕ). word_at s (n + 24)) c.geometry_at-at.ensures.0
