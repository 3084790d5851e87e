-- The record is stored in a row, or put together, and stored. Assumes nothing.
use mathlib.Core.Path.{ap, ◌∙◌}
use Rattle.ivtv_rules.specs.Services.{service_of}
use Rattle.ivtv_rules.proofs.Stored.{record_stored}
use Rattle.ivtv_lines.proofs.put_record.Goals as goal

pub returns : goal.returns
returns c =
    let s = c.service in
    let a = c.args in
    c.put_part-2.ensures
    ∙ rw (c.put_part.ensures, c.put_words.ensures)
    (record_stored a.lines.now a.line.now a.at a.k s.result (s.ensures ∙ ap service_of c.byte_at-name.ensures))
