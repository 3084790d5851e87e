-- The law of Writer. Assumes nothing.
use mathlib.Core.Path.{refl}
use Rattle.claims_ivtv.proofs.Writer.{writer_exact}
use Rattle.claims_ivtv.proofs.writer_exact.Goals as goal

pub returns : goal.returns
returns c = (refl, writer_exact)
