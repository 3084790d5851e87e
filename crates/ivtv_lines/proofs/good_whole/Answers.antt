-- The line by its parts. Assumes nothing.
use native.Mathlib.Omega.{arith}
use lib.ListN.{get_or}
use Rattle.ivtv_rules.proofs.Services.{payload_most}
use Rattle.ivtv_rules.proofs.Zeros.{good_told}
use Rattle.ivtv_lines.proofs.good_whole.Goals as goal

pub zero_beyond-requires : goal.zero_beyond-requires
zero_beyond-requires c =
    (c.requires, omega (arith, c.payload.ensures, payload_most (get_or c.args.line.now 0 0)))

pub returns : goal.returns
returns c =
    let l = c.args.line.now in
    let s = c.service in
    good_told l c.payload.result s.result c.zero_beyond.result c.payload.ensures s.ensures c.zero_beyond.ensures
