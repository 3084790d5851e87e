-- Four words, as signed_at reads them. Assumes nothing.
use Rattle.wire_signed.proofs.Integers.{again}
use Rattle.crop_calls.specs.Crops.{asked_crop}
use Rattle.crop_calls.proofs.asked.Goals as goal

pub returns : goal.returns
unfolding asked_crop
returns c =
    rw (
      again c.signed_at.result c.signed_at.type_inv,
      again c.signed_at-2.result c.signed_at-2.type_inv,
      again c.signed_at-3.result c.signed_at-3.type_inv,
      again c.signed_at-4.result c.signed_at-4.type_inv,
      c.signed_at.ensures,
      c.signed_at-2.ensures,
      c.signed_at-3.ensures,
      c.signed_at-4.ensures,
    )
