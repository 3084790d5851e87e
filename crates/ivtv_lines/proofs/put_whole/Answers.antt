-- The three parts of the record, in a row. Assumes nothing.
use mathlib.Core.Path.{◌∙◌}
use Rattle.ivtv_rules.proofs.Stored.{record_direct}
use Rattle.ivtv_lines.proofs.put_whole.Goals as goal

pub returns : goal.returns
returns c =
    let s = c.service in
    let a = c.args in
    c.put_part-2.ensures
    ∙ rw (c.put_part.ensures, c.put_words.ensures)
    (record_direct a.lines.now a.line.now a.at a.k s.result c.requires.1 s.ensures)
