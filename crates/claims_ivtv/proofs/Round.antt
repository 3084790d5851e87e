-- What was written is read back, what was read is written back, and each set of lines has one block. Assumes nothing.
use mathlib.Core.Path.{◌≡◌, refl, sym, ap, ◌∙◌}
use mathlib.Core.Bool.{Bool, true, false, cond}
use mathlib.Core.List.{List, []}
use Prim.Native.Nat.{ℕ, ◌<◌}
use native.Mathlib.Omega.{arith}
use lib.ListN.{length}
use Rattle.ioctl_table.specs.Refusal.{errno_of}
use Rattle.ioctl_table.specs.declared.refusals.Refusal.TheVariants.{BadLines, BadBlock}
use Rattle.ioctl_table.proofs.Numbers.{errno_positive}
use Rattle.ivtv_rules.specs.Lines.{record_of}
use Rattle.ivtv_rules.specs.Block.{Lines, some, record_at, records_of, block_of, block_length}
use Rattle.ivtv_rules.specs.Writing.{lines_of, packable, pack_number, packed}
use Rattle.ivtv_rules.specs.Reading.{lines_in, readable, unpack_number, unpacked}
use Rattle.ivtv_rules.proofs.Joined.{joined_same}
use Rattle.ivtv_rules.proofs.Taken.{Packable, packable_parts, packable_by, lines_count, readable_parts}
use Rattle.claims_ivtv.specs.Packer.{our_packer}
use Rattle.claims_ivtv.specs.Meets.{ReadBack, WrittenBack, OneBlock}
use Rattle.claims_ivtv.proofs.Writer.{pack_taken}
use Rattle.claims_ivtv.proofs.Reader.{unpack_taken}
use Rattle.claims_ivtv.proofs.Blocks.{Good, block_same, block_lines, block_readable}
use Rattle.claims_ivtv.proofs.Records.{lines_good, records_length, records_count, records_good, records_lines}
use Rattle.claims_ivtv.proofs.Same.{same_lines, lines_same, records_tidy}
use Rattle.claims_ivtv.proofs.Readings.{found_good, found_length, block_back}

-- ---- what a number given back says

-- a test that passed gives 0, and nothing else does
done : (t : Bool) (n : ℕ) → 0 < n → cond t 0 n ≡ 0 → t ≡ true
done true n h e = refl
done false n h e = absurd (omega arith)

-- records that were packed could be
pack_done : (s o : List ℕ) → pack_number s (length o) ≡ 0 → packable s (length o) ≡ true
unfolding pack_number
pack_done s o e = done (packable s (length o)) (errno_of BadLines) (errno_positive BadLines) e

-- records that can be packed are
packs : (s o : List ℕ) → Packable s (length o) → (pack_number s (length o) ≡ 0) × (packed s o ≡ block_of (lines_of s))
packs s o p = pack_taken s o (packable_by s (length o) p)

-- a block that was read could be
unpack_done : (b o : List ℕ) → unpack_number b (length o) ≡ 0 → readable b (length o) ≡ true
unfolding unpack_number
unpack_done b o e = done (readable b (length o)) (errno_of BadBlock) (errno_positive BadBlock) e

-- ---- there and back

-- the records of lines that agree
records_same : (f g : Lines) → ((k : ℕ) → k < 36 → f k ≡ g k) → records_of f ≡ records_of g
unfolding records_of
records_same f g e = joined_same (record_at f) (record_at g) 36 (λ k h. ap (λ (l : List ℕ). cond (some l) (record_of k l) []) (e k h))

pub read_back : ReadBack our_packer
read_back s o q e l =
    let t = pack_done s o e in
    let p = packable_parts s (length o) t in
    let f = lines_of s in
    let g : Good f = lines_good s p.good in
    let r = unpack_taken (block_of f) q (block_readable f g (length q) (omega (arith, p.whole, lines_count s p.good))) in
    let u : unpacked (block_of f) q ≡ records_of f = r.1 ∙ records_same (lines_in (block_of f)) f (block_lines f g) in
    rw (pack_taken s o t).1
    (r.0, rw u (same_lines s (records_of f) p.good (records_good f g) (λ k h. sym (records_lines f g k h))), rw u (records_tidy f g))

pub written_back : WrittenBack our_packer
written_back b o q y e l =
    let t = unpack_done b o e in
    let d = readable_parts b (length o) t in
    let f = lines_in b in
    let g : Good f = found_good b (length o) d in
    let p = packs (records_of f) q record {
      whole = omega (arith, records_length f);
      good = records_good f g;
      room = l ∙ found_length b (length o) d y ∙ ap block_length (sym (records_count f));
    } in
    rw (unpack_taken b o t).1 (p.0, p.1 ∙ block_same (lines_of (records_of f)) f (records_lines f g) ∙ block_back b (length o) d y)

pub one_block : OneBlock our_packer
one_block s o t q e f =
    let u = pack_done s o e in
    let v = pack_done t q f in
    let x = (packable_parts s (length o) u).good in
    let y = (packable_parts t (length q) v).good in (
      λ m. (pack_taken s o u).1 ∙ block_same (lines_of s) (lines_of t) (lines_same s t x y m) ∙ sym (pack_taken t q v).1,
      λ m.
          let b : block_of (lines_of s) ≡ block_of (lines_of t) = sym (pack_taken s o u).1 ∙ m ∙ (pack_taken t q v).1 in
          same_lines s t x y
          (λ k h. sym (block_lines (lines_of s) (lines_good s x) k h) ∙ ap (λ (c : List ℕ). lines_in c k) b ∙ block_lines (lines_of t) (lines_good t y) k h),
    )
