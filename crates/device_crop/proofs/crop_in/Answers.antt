-- Each number from its bits. Assumes nothing.
use Rattle.wire_signed.proofs.Integers.{again}
use Rattle.device_state.specs.Setup.{setup_in}
use Rattle.device_crop.proofs.crop_in.Goals as goal

pub returns : goal.returns
unfolding setup_in
returns c =
    rw (
      again c.as_signed.result c.as_signed.type_inv,
      again c.as_signed-2.result c.as_signed-2.type_inv,
      again c.as_signed-3.result c.as_signed-3.type_inv,
      again c.as_signed-4.result c.as_signed-4.type_inv,
      c.as_signed.ensures,
      c.as_signed-2.ensures,
      c.as_signed-3.ensures,
      c.as_signed-4.ensures,
    )
