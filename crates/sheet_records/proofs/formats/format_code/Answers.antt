-- The word at the format's place. Assumes nothing.
use mathlib.Core.Path.{ap, ◌∙◌}
use Rattle.wire_read.specs.Words.{word_at}
use Rattle.sheet_records.specs.Records.{format_code}
use Rattle.sheet_records.proofs.formats.format_code.Goals as goal

pub returns : goal.returns
unfolding format_code
returns c = c.word_at.ensures ∙ ap (word_at _) c.format_at.ensures.0
