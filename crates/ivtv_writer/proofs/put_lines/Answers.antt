-- The invariant: the lines of the bits passed are stored, and the next one goes behind them. Assumes nothing.
use mathlib.Core.Path.{◌≡◌, refl, sym, ap, ◌∙◌}
use mathlib.Core.List.{List}
use Prim.Native.Nat.{ℕ, ◌+◌, ◌-◌}
use native.Mathlib.Omega.{arith}
use native.Mathlib.Nat.{add-zero, div-one}
use lib.Count.{count_trailing_zeros}
use lib.ListN.{length, get_or}
use lib.Seq.{sets, length-sets}
use Rattle.ivtv_rules.specs.Block.{joined}
use Rattle.ivtv_rules.specs.Writing.{record64, line_for}
use Rattle.ivtv_rules.proofs.Stored.{length_line}
use Rattle.ivtv_rules.proofs.Joined.{stored_more, place_more}
use Rattle.ivtv_rules.proofs.Bits.{next_set, next_below, next_joined, last_joined}
use Rattle.ivtv_writer.specs.Sorting.{kept_line}
use Rattle.ivtv_writer.proofs.Written.{a_record, kept_none, kept_some, line_fits}
use Rattle.ivtv_writer.proofs.put_lines.Goals as goal

pub loop-rest-init : goal.loop-rest-init
unfolding joined
loop-rest-init c = let a = c.args in (omega arith, sym (div-one a.mask), refl, sym (add-zero a.start))

pub bounds-places-k : goal.bounds-places-k
bounds-places-k c = omega (arith, next_below c.args.mask c.loop-rest.k c.loop-rest.rest c.requires.bits c.loop-rest.invariant.1 c.loop-rest-test.true)

pub put_named-at-requires : goal.put_named-at-requires
put_named-at-requires c =
    let l = c.loop-rest in
    let a = c.args in
    let n = l.k + count_trailing_zeros 64 l.rest in
    let f : ℕ → List ℕ = kept_line a.lines.now a.mask a.places.now in
    let s = next_set a.mask l.k l.rest c.requires.bits l.invariant.1 c.loop-rest-test.true in
    let j : joined f n ≡ joined f l.k = next_joined a.mask l.k l.rest c.requires.bits l.invariant.1 c.loop-rest-test.true f (kept_none a.lines.now a.places.now a.mask) in
    let z : length l.block ≡ length a.block.now = ap length l.invariant.2 ∙ simp length-sets in
    let g = line_fits a.block.now a.lines.now a.places.now a.start a.mask n c.requires (next_below c.args.mask c.loop-rest.k c.loop-rest.rest c.requires.bits c.loop-rest.invariant.1 c.loop-rest-test.true) s in
    (omega (arith, z, l.invariant.3, ap length j, g), c.requires.named n s, c.requires.there n)

pub overflow_shr-rest : goal.overflow_shr-rest
overflow_shr-rest c = omega (arith, next_below c.args.mask c.loop-rest.k c.loop-rest.rest c.requires.bits c.loop-rest.invariant.1 c.loop-rest-test.true)

pub loop-rest-preserved : goal.loop-rest-preserved
loop-rest-preserved c =
    let l = c.loop-rest in
    let a = c.args in
    let r = c.put_named-at in
    let n = l.k + count_trailing_zeros 64 l.rest in
    let p = get_or a.places.now n 0 in
    let f : ℕ → List ℕ = kept_line a.lines.now a.mask a.places.now in
    let b = next_set a.mask l.k l.rest c.requires.bits l.invariant.1 c.loop-rest-test.true in
    let j : joined f n ≡ joined f l.k = next_joined a.mask l.k l.rest c.requires.bits l.invariant.1 c.loop-rest-test.true f (kept_none a.lines.now a.places.now a.mask) in
    let s : f n ≡ line_for a.lines.now p = kept_some a.lines.now a.places.now a.mask n b in
    let o : p ≡ 0 → ⊥ = λ q. omega (arith, c.requires.named n b) in
    let w : length (f n) ≡ 43 = ap length (s ∙ a_record a.lines.now p o) ∙ length_line (record64 a.lines.now (p - 1)) in
    let x : l.block ≡ sets a.block.now a.start (joined f n) = rw j l.invariant.2 in
    let y : l.at ≡ a.start + length (joined f n) = rw j l.invariant.3 in (
      omega (arith, next_below c.args.mask c.loop-rest.k c.loop-rest.rest c.requires.bits c.loop-rest.invariant.1 c.loop-rest-test.true),
      refl,
      stored_more a.block.now l.block r.new.block f a.start l.at n x y (rw s r.ensures.0),
      place_more a.block.now l.block r.new.block f a.start l.at n x y r.result (rw w r.ensures.1),
    )

pub returns : goal.returns
returns c =
    let l = c.loop-rest in
    let a = c.args in
    let f : ℕ → List ℕ = kept_line a.lines.now a.mask a.places.now in
    rw (last_joined a.mask l.k l.rest l.invariant.1 c.loop-rest-test.false l.invariant.0 f (kept_none a.lines.now a.places.now a.mask)) l.invariant.2
