-- The array's bytes are those of the definition, computed; that they are good is `bench_good`. Assumes nothing.
use mathlib.Core.Path.{refl}
use Rattle.wire_read.specs.Words.{le32, bytes_of}
use Rattle.bench_sheet.specs.Bench.{bench_sheet}
use Rattle.bench_sheet.proofs.Good.{bench_good}
use Rattle.bench_sheet.proofs.sheet.Goals as goal

pub returns : goal.returns
unfolding bench_sheet le32 bytes_of
returns c = (refl, bench_good)
