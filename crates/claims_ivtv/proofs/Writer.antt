-- The writer takes exactly the records that have no flaw. Assumes nothing.
use mathlib.Core.Path.{◌≡◌, refl, sym, ap₂, ◌∙◌}
use mathlib.Core.Logic.{inl, inr, ⊎_elim}
use mathlib.Core.Bool.{Bool, true, false, cond, not, false≢true}
use mathlib.Core.List.{List}
use Prim.Native.Nat.{ℕ, ◌-◌, ◌%◌, ◌≤◌, ◌<◌}
use native.Mathlib.Omega.{arith}
use lib.Dec.{eqb}
use lib.ListN.{length}
use Rattle.wire_read.specs.Lists.{any}
use Rattle.caption_rules.specs.Caption.{is_service}
use Rattle.ivtv_rules.specs.Services.{identifier_of}
use Rattle.ivtv_rules.specs.Lines.{bit_of, record_bit}
use Rattle.ivtv_rules.specs.Block.{block_of, block_length}
use Rattle.ivtv_rules.specs.Writing.{naming, lines_of, packable, pack_number, packed}
use Rattle.ivtv_rules.proofs.Named.{bit_at, naming_most, naming_names, naming_none, good_at_law, good_of}
use Rattle.ivtv_rules.proofs.OneLine.{bit_inside, bit_parts}
use Rattle.ivtv_rules.proofs.Taken.{Packable, packable_parts, packable_by}
use Rattle.claims_ivtv.specs.Told.{record_count, service_at, field_at, line_number_at}
use Rattle.claims_ivtv.specs.Flaws.{LinesFlaw}
use Rattle.claims_ivtv.specs.Flaws.LinesFlaw.{other_service, other_field, other_line, twice, part_record, other_length}
use Rattle.claims_ivtv.specs.Packer.{our_packer}
use Rattle.claims_ivtv.specs.Meets.{Refused, WriterExact}
use Rattle.claims_ivtv.proofs.Tests.{passes, fails, equals}
use Rattle.claims_ivtv.proofs.Told.{service_at_law, field_at_law, line_at_law}

-- ---- what a record names

-- a service that is none of the four has no identifier, and each of the four has one
four : (a b c d : Bool) → eqb (cond a 1 (cond b 4 (cond c 5 (cond d 7 0)))) 0 ≡ not (cond a true (cond d true (cond b true (cond c true false))))
four true b c d = refl
four false true c true = refl
four false true c false = refl
four false false true true = refl
four false false true false = refl
four false false false true = refl
four false false false false = refl

known : (x : ℕ) → eqb (identifier_of x) 0 ≡ not (is_service x)
unfolding identifier_of any
known x = four (eqb x 0x0001) (eqb x 0x1000) (eqb x 0x4000) (eqb x 0x0400)

module _ (s : List ℕ) (i : ℕ) where
  -- the bit of a record, from the words where it stands
  bit_told : bit_at s i ≡ cond (not (is_service (service_at s i))) 36 (bit_of (field_at s i) (line_number_at s i))
  unfolding record_bit
  bit_told = rw (service_at_law s i, field_at_law s i, line_at_law s i, known (service_at s i))

  -- of one of the four services it is that of its line
  pub bit_known : is_service (service_at s i) ≡ true → bit_at s i ≡ bit_of (field_at s i) (line_number_at s i)
  bit_known e = bit_told ∙ rw e

  bit_unknown : is_service (service_at s i) ≡ false → bit_at s i ≡ 36
  bit_unknown e = bit_told ∙ rw e

  -- a bit below 36 says that all three are good
  pub bit_good : bit_at s i < 36 → (is_service (service_at s i) ≡ true) × (bit_of (field_at s i) (line_number_at s i) < 36)
  bit_good h =
      let e = passes (is_service (service_at s i)) (λ f. omega (arith, bit_unknown f)) in
      (e, omega (arith, bit_known e))

-- no two lines have the same bit
bit_one : (f l g m : ℕ) → bit_of f l < 36 → bit_of f l ≡ bit_of g m → (f ≡ g) × (l ≡ m)
bit_one f l g m h e =
    let p = bit_parts f l (bit_of f l) refl h in
    let q = bit_parts g m (bit_of f l) (sym e) h in
    (p.0 ∙ sym q.0, p.1 ∙ sym q.1)

-- ---- the writer

module _ (s : List ℕ) (m : ℕ) where
  module _ (t : Packable s m) where
    -- each record that is taken
    record_taken : (i : ℕ) → i < record_count s → (is_service (service_at s i) ≡ true) × (bit_of (field_at s i) (line_number_at s i) < 36)
    record_taken i h = bit_good s i (good_at_law s (record_count s) t.good i h).0

    line_taken : (i : ℕ) → i < record_count s → (field_at s i < 2) × (6 ≤ line_number_at s i) × (line_number_at s i ≤ 23)
    line_taken i h =
        let k = (record_taken i h).1 in
        let p = bit_parts (field_at s i) (line_number_at s i) (bit_of (field_at s i) (line_number_at s i)) refl k in
        (omega arith, omega arith, omega arith)

    -- and so it has no flaw
    no_flaw : LinesFlaw s m → ⊥
    no_flaw (other_service i h e) = false≢true (sym e ∙ (record_taken i h).0)
    no_flaw (other_field i h e) = omega (arith, line_taken i h)
    no_flaw (other_line i h e) = ⊎_elim (λ l. omega (arith, line_taken i h)) (λ l. omega (arith, line_taken i h)) e
    no_flaw (twice i j l h e f) =
        let k : i < record_count s = omega arith in
        naming_none s j (bit_at s j) i (good_at_law s (record_count s) t.good j h).1 l
        (bit_known s i (record_taken i k).0 ∙ ap₂ bit_of e f ∙ sym (bit_known s j (record_taken j h).0))
    no_flaw (part_record e) = e t.whole
    no_flaw (other_length e) = e t.room

  pub lines_sound : packable s m ≡ true → LinesFlaw s m → ⊥
  lines_sound t = no_flaw (packable_parts s m t)

  module _ (none : LinesFlaw s m → ⊥) where
    -- without a flaw each record has a bit
    has_service : (i : ℕ) → i < record_count s → is_service (service_at s i) ≡ true
    has_service i h = passes (is_service (service_at s i)) (λ e. none (other_service i h e))

    has_bit : (i : ℕ) → i < record_count s → bit_of (field_at s i) (line_number_at s i) < 36
    has_bit i h =
        let a : 1 < field_at s i → ⊥ = λ l. none (other_field i h l) in
        let b : line_number_at s i < 6 → ⊥ = λ l. none (other_line i h (inl l)) in
        let c : 23 < line_number_at s i → ⊥ = λ l. none (other_line i h (inr l)) in
        omega (arith, bit_inside (field_at s i) (line_number_at s i) (omega arith) (omega arith) (omega arith))

    -- that no earlier record has
    clash : (j : ℕ) → j < record_count s → 0 < naming s j (bit_at s j) → ⊥
    clash j h l =
        let i : ℕ = naming s j (bit_at s j) - 1 in
        let b : i < j = omega (arith, naming_most s j (bit_at s j)) in
        let k : i < record_count s = omega arith in
        let o = bit_one (field_at s i) (line_number_at s i) (field_at s j) (line_number_at s j) (has_bit i k)
        (sym (bit_known s i (has_service i k)) ∙ naming_names s j (bit_at s j) l ∙ bit_known s j (has_service j h)) in
        none (twice i j b h o.0 o.1)

    -- so they are taken
    pub lines_complete : packable s m ≡ true
    lines_complete =
        packable_by s m record {
          whole = equals (length s % 64) 0 (λ e. none (part_record e));
          good =
              good_of s (record_count s)
              (λ i h. let c : 0 < naming s i (bit_at s i) → ⊥ = clash i h in
              (rw (bit_known s i (has_service i h)) (has_bit i h), omega arith));
          room = equals m (block_length (record_count s)) (λ e. none (other_length e));
        }

-- what is given back where they are taken, and where not
pub pack_taken : (s o : List ℕ) → packable s (length o) ≡ true → (pack_number s (length o) ≡ 0) × (packed s o ≡ block_of (lines_of s))
unfolding pack_number packed
pack_taken s o t = (rw t, rw t)

pub pack_refused : (s o : List ℕ) → packable s (length o) ≡ false → Refused (our_packer.pack s o) o
unfolding pack_number packed
pack_refused s o t = (rw t, rw t)

pub writer_exact : WriterExact our_packer
writer_exact = record {
  refuses = λ s o w. pack_refused s o (fails (packable s (length o)) (λ t. lines_sound s (length o) t w));
  accepts = λ s o n. (pack_taken s o (lines_complete s (length o) n)).0;
  writes = λ s o z. (pack_taken s o (passes (packable s (length o)) (λ f. omega (arith, z, (pack_refused s o f).0)))).1;
}
