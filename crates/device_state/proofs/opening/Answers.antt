-- Each number as its callee promises; a signed one goes through its bits unchanged. Assumes nothing.
use Rattle.wire_signed.proofs.Integers.{bits_back}
use Rattle.device_state.specs.Setup.{setup_in}
use Rattle.device_state.proofs.opening.Goals as goal

pub returns : goal.returns
unfolding setup_in
returns c =
    let k = c.opening_crop-c in
    let f = c.struct_told-1.given in
    rw (
      bits_back k.result.left c.as_bits.result f.0.1 c.as_bits.ensures,
      bits_back k.result.top c.as_bits-2.result f.1.0.1 c.as_bits-2.ensures,
      bits_back k.result.width c.as_bits-3.result f.1.1.0.1 c.as_bits-3.ensures,
      bits_back k.result.height c.as_bits-4.result f.1.1.1.0.1 c.as_bits-4.ensures,
      k.ensures,
      c.image_size-size.ensures,
      c.bytes_per_line-line.ensures,
      c.line_alignment-alignment.ensures,
      c.at_opening-f.ensures,
    )
