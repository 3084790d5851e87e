-- The law of Reader. Assumes nothing.
use mathlib.Core.Path.{refl}
use Rattle.claims_ivtv.proofs.Reader.{reader_exact}
use Rattle.claims_ivtv.proofs.reader_exact.Goals as goal

pub returns : goal.returns
returns c = (refl, reader_exact)
