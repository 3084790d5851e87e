-- The part behind the format's code. Assumes nothing.
use Prim.Native.Nat.{ℕ, ◌+◌}
use mathlib.Core.Path.{ap, ◌∙◌}
use lib.ListN.{take, drop}
use Rattle.sheet_records.specs.Records.{format_description}
use Rattle.sheet_records.proofs.formats.format_description.Goals as goal

pub returns : goal.returns
unfolding format_description
returns c =
    let s = c.args.s.now in
    c.part.ensures ∙ ap (λ (n : ℕ). take 32 (drop (n + 4) s)) c.format_at-at.ensures.0
