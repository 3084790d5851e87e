-- The line is put together, and stored. Assumes nothing.
use mathlib.Core.Path.{ap, ◌∙◌}
use Rattle.ivtv_rules.specs.Services.{identifier_of}
use Rattle.ivtv_rules.proofs.Stored.{line_stored}
use Rattle.ivtv_lines.proofs.put_line.Goals as goal

pub returns : goal.returns
returns c =
    let i = c.identifier-name in
    let a = c.args in
    c.put_part.ensures
    ∙ rw c.put_payload.ensures
    (line_stored a.block.now a.sliced.now a.at i.result c.payload.result (i.ensures ∙ ap identifier_of c.word_at.ensures) c.payload.ensures)
