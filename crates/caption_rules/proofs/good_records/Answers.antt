-- The invariant: the records passed are good, and the lines that they name are marked. Assumes nothing.
use mathlib.Core.Path.{◌≡◌, ◌∙◌, refl, sym}
use Prim.Native.Nat.{◌+◌, ◌/◌, ◌<◌}
use native.Mathlib.Omega.{arith}
use lib.ListN.{length, length-set}
use Rattle.std.specs.Slice.Iter.{chunks_exact_size}
use Rattle.sheet_rules.specs.Folds.{all_below}
use Rattle.caption_rules.specs.Caption.{good_records}
use Rattle.caption_rules.proofs.Records.{next_record, place_read, service_read, unplaced, refused, taken, none_marked, one_marked}
use Rattle.caption_rules.proofs.good_records.Goals as goal

pub loop-record-init : goal.loop-record-init
unfolding good_records all_below
loop-record-init c =
    let m = c.chunks_exact-record-items.ensures in
    let e = c.into_iter-record-iterator.ensures.into_iter_gives in
    let z : chunks_exact_size c.into_iter-record-iterator.result ≡ 64 = rw e m.size in
    (rw z (omega arith), tt, z, refl, 0, omega arith, rw e m.rest, refl, none_marked _)

pub returns-in_default : goal.returns-in_default
returns-in_default c =
    let f = c.args.frame.now in
    let v = c.loop-record.invariant in
    let s = c.in-Some.ensures.steps.1 in
    let n = next_record f c.in-Some.record.now _ v.4 (sym v.6 ∙ s.0) (s.1 ∙ v.2) in
    unplaced c.args.lines.now f v.4 (sym (place_read f v.4 n.0 c.word_at.ensures c.word_at-in-loop-record.ensures) ∙ c.in_default.ensures) (length f / 64) (omega (arith, n.2))

pub returns-then-seen-p : goal.returns-then-seen-p
returns-then-seen-p c =
    let f = c.args.frame.now in
    let v = c.loop-record.invariant in
    let s = c.in-Some.ensures.steps.1 in
    let n = next_record f c.in-Some.record.now _ v.4 (sym v.6 ∙ s.0) (s.1 ∙ v.2) in
    let p = c.in-Some-place.ensures in
    refused c.args.lines.now f c.loop-record.seen v.4 c.in-Some-place.p _ c.carries.result
    (p.1 ∙ place_read f v.4 n.0 c.word_at.ensures c.word_at-in-loop-record.ensures) (service_read f v.4 n.0 c.word_at-in-loop-record-2.ensures)
    v.8 p.0 c.carries.ensures c.if-seen-p.true (length f / 64) (omega (arith, n.2))

pub loop-record-preserved : goal.loop-record-preserved
loop-record-preserved c =
    let f = c.args.frame.now in
    let v = c.loop-record.invariant in
    let w = c.in-Some.ensures.steps in
    let s = w.1 in
    let n = next_record f c.in-Some.record.now _ v.4 (sym v.6 ∙ s.0) (s.1 ∙ v.2) in
    let p = c.in-Some-place.ensures in
    let e = p.1 ∙ place_read f v.4 n.0 c.word_at.ensures c.word_at-in-loop-record.ensures in
    let z : chunks_exact_size c.next.new.self ≡ 64 = w.0 ∙ v.2 in
    let t : c.in-Some-place.p < length c.loop-record.seen = rw v.3 p.0 in (
      rw z (omega arith),
      tt,
      z,
      simp length-set v.3,
      v.4 + 1,
      n.2,
      sym n.1,
      taken c.args.lines.now f c.loop-record.seen v.4 c.in-Some-place.p _ c.carries.result e (service_read f v.4 n.0 c.word_at-in-loop-record-2.ensures)
          v.8 p.0 c.carries.ensures c.if-seen-p.false v.7,
      one_marked f c.loop-record.seen v.4 c.in-Some-place.p e t v.8,
    )
