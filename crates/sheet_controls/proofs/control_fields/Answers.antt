-- What the copy has is what the sheet has there. Assumes nothing.
use Prim.Native.Nat.{ℕ}
use mathlib.Core.List.{List}
use mathlib.Core.Path.{◌≡◌}
use native.Mathlib.Nat.{add-zero}
use native.Mathlib.Omega.{arith}
use lib.ListN.{take, drop, replicate}
use lib.Seq.{sets}
use Rattle.wire_signed.specs.Signed.{signed_at}
use Rattle.wire_read.proofs.Words.{word_copied}
use Rattle.sheet_contents.specs.Contents.{control_at}
use Rattle.sheet_records.specs.Records.{control_fields, control_id, control_kind, control_flags, limits_at, limits_of}
use Rattle.sheet_controls.proofs.control_fields.Goals as goal

-- the four numbers of the copy
limits_copied : (s : List ℕ) (at : ℕ) → limits_at (sets (replicate 68 0) 0 (take 68 (drop at s))) 0 ≡ limits_at s at
unfolding signed_at
limits_copied s at =
    rw (
      word_copied s at 68 40 (omega arith),
      word_copied s at 68 44 (omega arith),
      word_copied s at 68 48 (omega arith),
      word_copied s at 68 52 (omega arith),
    )

pub returns : goal.returns
unfolding control_fields control_id control_kind control_flags limits_of
returns c =
    let a = c.args in
    let s = a.s.now in
    let at = control_at s a.k in
    rw (
      c.word_at.ensures,
      c.word_at-2.ensures,
      c.word_at-3.ensures,
      c.limits.ensures,
      c.put_part.ensures,
      c.control_at.ensures.0,
      word_copied s at 68 0 (omega arith),
      word_copied s at 68 4 (omega arith),
      word_copied s at 68 56 (omega arith),
      limits_copied s at,
      add-zero at,
    )
