-- By `line_told`. Assumes nothing.
use Rattle.stream_search.proofs.Found.{line_told}
use Rattle.stream_words.specs.Words.{stream_in}
use Rattle.stream_search.proofs.in_line.Goals as goal

pub returns : goal.returns
unfolding stream_in
returns c = let a = c.args in rw c.lined.ensures (line_told a.s.now a.k _ c.find.ensures)
