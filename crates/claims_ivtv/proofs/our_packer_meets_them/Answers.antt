-- The law of Meets, with those of Round. Assumes nothing.
use mathlib.Core.Path.{refl}
use Rattle.claims_ivtv.proofs.Round.{read_back, written_back, one_block}
use Rattle.claims_ivtv.proofs.Meets.{meets}
use Rattle.claims_ivtv.proofs.our_packer_meets_them.Goals as goal

pub returns : goal.returns
returns c = (refl, meets read_back written_back one_block)
