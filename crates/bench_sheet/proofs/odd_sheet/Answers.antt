-- Three words stored over the bench sheet's, computed; that the bytes are good is `odd_good`. Assumes nothing.
use mathlib.Core.Path.{refl}
use Rattle.wire_read.specs.Words.{le32, bytes_of}
use Rattle.bench_sheet.specs.Bench.{odd_sheet}
use Rattle.bench_sheet.proofs.Good.{odd_good}
use Rattle.bench_sheet.proofs.odd_sheet.Goals as goal

pub returns : goal.returns
unfolding odd_sheet le32 bytes_of
returns c = (rw (c.put_word-3.ensures, c.put_word-2.ensures, c.put_word.ensures) refl, odd_good)
