-- The invariant: the records of the bits passed are stored, as many as are set among them. Assumes nothing.
use mathlib.Core.Path.{◌≡◌, refl, sym, ap, ◌∙◌}
use mathlib.Core.List.{List}
use Prim.Native.Nat.{ℕ, ◌+◌, ◌*◌, ◌/◌, ◌^◌, ◌≤◌, ◌<◌}
use native.Mathlib.Omega.{arith}
use native.Mathlib.Nat.{div-one}
use lib.Count.{count_trailing_zeros}
use lib.ListN.{length}
use lib.Seq.{sets, length-sets}
use Rattle.service_rules.specs.Negotiation.{count_below}
use Rattle.service_rules.proofs.Counts.{count_more, count_most}
use Rattle.ivtv_rules.specs.Lines.{record_of}
use Rattle.ivtv_rules.specs.Block.{joined}
use Rattle.ivtv_rules.specs.Reading.{bit_on, count_in, line_at}
use Rattle.ivtv_rules.proofs.Joined.{stored_more}
use Rattle.ivtv_rules.proofs.Bits.{next_set, next_below, next_joined, next_count, last_joined}
use Rattle.ivtv_reader.specs.Stored.{record_in, Room}
use Rattle.ivtv_reader.proofs.Taken.{cut, records_length, none_in_law, next_line}
use Rattle.ivtv_reader.proofs.put_by_mask.Goals as goal

-- what a turn of the loop knows: the next set bit is one of the 36, its line is there, and its record fits
turn : (lines now block : List ℕ) (start mask k rest j : ℕ) → Room lines block start mask
    → (k ≤ 36) × (rest ≡ mask / 2 ^ k) × (j ≡ count_in mask k) × (now ≡ sets lines 0 (joined (record_in block start mask) k))
    → (rest ≡ 0 → ⊥)
    → (k + count_trailing_zeros 64 rest < 36) × (j < 36) × (64 * j + 64 ≤ length now) × (start ≤ 12) × (start + 43 * j + 43 ≤ length block)
turn lines now block start mask k rest j room i some =
    let n = k + count_trailing_zeros 64 rest in
    let b = next_below mask k rest room.bits i.1 some in
    let q = next_count mask k rest room.bits i.1 some ∙ sym i.2 in
    let m = next_line mask n j b (next_set mask k rest room.bits i.1 some) q in
    let z : length now ≡ length lines = ap length i.3 ∙ simp length-sets in (
      b,
      omega (arith, m, count_most 36 (bit_on mask)),
      omega (arith, m, z, room.fits),
      room.low,
      omega (arith, m, room.there),
    )

pub loop-rest-init : goal.loop-rest-init
unfolding joined count_below
loop-rest-init c = let a = c.args in (omega arith, sym (div-one a.mask), refl, refl)

pub overflow_mul-to : goal.overflow_mul-to
overflow_mul-to c = omega (arith, turn c.args.lines.now c.loop-rest.lines c.args.block.now c.args.start c.args.mask c.loop-rest.k c.loop-rest.rest c.loop-rest.j c.requires c.loop-rest.invariant c.loop-rest-test.true)

pub overflow_add-to : goal.overflow_add-to
overflow_add-to c = omega (arith, turn c.args.lines.now c.loop-rest.lines c.args.block.now c.args.start c.args.mask c.loop-rest.k c.loop-rest.rest c.loop-rest.j c.requires c.loop-rest.invariant c.loop-rest-test.true)

pub returns-then-lines-to : goal.returns-then-lines-to
returns-then-lines-to c = absurd (omega (arith, turn c.args.lines.now c.loop-rest.lines c.args.block.now c.args.start c.args.mask c.loop-rest.k c.loop-rest.rest c.loop-rest.j c.requires c.loop-rest.invariant c.loop-rest-test.true))

pub slice_bounds-put_record-end : goal.slice_bounds-put_record-end
slice_bounds-put_record-end c = omega (arith, turn c.args.lines.now c.loop-rest.lines c.args.block.now c.args.start c.args.mask c.loop-rest.k c.loop-rest.rest c.loop-rest.j c.requires c.loop-rest.invariant c.loop-rest-test.true)

pub overflow_shr-rest : goal.overflow_shr-rest
overflow_shr-rest c = omega (arith, turn c.args.lines.now c.loop-rest.lines c.args.block.now c.args.start c.args.mask c.loop-rest.k c.loop-rest.rest c.loop-rest.j c.requires c.loop-rest.invariant c.loop-rest-test.true)

pub loop-rest-preserved : goal.loop-rest-preserved
loop-rest-preserved c =
    let l = c.loop-rest in
    let a = c.args in
    let n = l.k + count_trailing_zeros 64 l.rest in
    let q = next_count a.mask l.k l.rest c.requires.bits l.invariant.1 c.loop-rest-test.true ∙ sym l.invariant.2 in
    let r = c.put_record in
    let v = a.block.now in
    let f : ℕ → List ℕ = record_in v a.start a.mask in
    let s = next_set a.mask l.k l.rest c.requires.bits l.invariant.1 c.loop-rest-test.true in
    let j : joined f n ≡ joined f l.k = next_joined a.mask l.k l.rest c.requires.bits l.invariant.1 c.loop-rest-test.true f (none_in_law v a.start a.mask) in
    let x : l.lines ≡ sets a.lines.now 0 (joined f n) = rw j l.invariant.3 in
    let y : 64 * l.j ≡ 0 + length (joined f n) = omega (arith, q, records_length v a.start a.mask n) in
    let w : f n ≡ record_of n (line_at v a.start l.j) = rw (s, q) in (
      omega (arith, turn c.args.lines.now c.loop-rest.lines c.args.block.now c.args.start c.args.mask c.loop-rest.k c.loop-rest.rest c.loop-rest.j c.requires c.loop-rest.invariant c.loop-rest-test.true),
      refl,
      sym (count_more n (bit_on a.mask) ∙ rw (s, q)),
      stored_more a.lines.now l.lines r.new.lines f 0 (64 * l.j) n x y (rw w (r.ensures ∙ rw (cut v a.start l.j))),
    )

pub returns : goal.returns
returns c =
    let l = c.loop-rest in
    let a = c.args in
    let f : ℕ → List ℕ = record_in a.block.now a.start a.mask in
    rw (last_joined a.mask l.k l.rest l.invariant.1 c.loop-rest-test.false l.invariant.0 f (none_in_law a.block.now a.start a.mask)) l.invariant.3
