-- Four stores, by `crop_set`; a signed number goes through its bits unchanged. Assumes nothing.
use mathlib.Core.Path.{◌≡◌}
use lib.ListN.{length}
use Rattle.wire_signed.proofs.Integers.{bits_back}
use Rattle.device_state.proofs.Stores.{crop_set}
use borrow.Author.Rules.{rules}
use Rattle.device_crop.proofs.keep_crop.Goals as goal

pub returns : goal.returns
returns c =
    let a = c.args in
    let long : length a.w.now ≡ 10 = search rules in
    let r = a.r in
    let f = c.struct_told-1.given in
    let l = c.as_bits-left in
    let t = c.as_bits-top in
    let u = c.as_bits-width in
    let h = c.as_bits-height in
    crop_set a.w.now long l.result t.result u.result h.result r
    (rw (
      bits_back r.left l.result f.0.1 l.ensures,
      bits_back r.top t.result f.1.0.1 t.ensures,
      bits_back r.width u.result f.1.1.0.1 u.ensures,
      bits_back r.height h.result f.1.1.1.0.1 h.ensures,
    ))
