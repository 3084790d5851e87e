-- Four words as signed numbers. Assumes nothing.
use Rattle.wire_signed.specs.Signed.{signed_at}
use Rattle.wire_signed.proofs.Integers.{again}
use Rattle.sheet_geometry.specs.Geometry.{rect_at}
use Rattle.sheet_crop.proofs.rect_at.Goals as goal

pub returns : goal.returns
unfolding rect_at signed_at
returns c =
    rw (
      again c.as_signed.result c.as_signed.type_inv,
      again c.as_signed-2.result c.as_signed-2.type_inv,
      again c.as_signed-3.result c.as_signed-3.type_inv,
      again c.as_signed-4.result c.as_signed-4.type_inv,
      c.as_signed.ensures,
      c.as_signed-2.ensures,
      c.as_signed-3.ensures,
      c.as_signed-4.ensures,
      c.four_words-w.ensures,
    )
