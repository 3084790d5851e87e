-- Ours meets the claims, and no other machine does. Assumes nothing.
use mathlib.Core.Path.{◌≡◌, refl, sym, ap₂, ◌∙◌, fun_ext}
use mathlib.Core.Bool.{Bool, true, false, false≢true}
use mathlib.Core.List.{List}
use Prim.Native.Nat.{ℕ}
use lib.ListN.{length}
use Rattle.ivtv_rules.specs.Writing.{packable}
use Rattle.ivtv_rules.specs.Reading.{same, readable}
use Rattle.ivtv_rules.proofs.Openings.{same_equal, same_self}
use Rattle.claims_ivtv.specs.Packer.{Gives, Packer, our_packer}
use Rattle.claims_ivtv.specs.Meets.{Refused, WriterExact, ReaderExact, ReadBack, WrittenBack, OneBlock, Meets, NoRoom}
use Rattle.claims_ivtv.proofs.Tests.{passes, equals}
use Rattle.claims_ivtv.proofs.Writer.{lines_sound, lines_complete, pack_taken, pack_refused, writer_exact}
use Rattle.claims_ivtv.proofs.Reader.{block_sound, block_complete, unpack_taken, unpack_refused, reader_exact}

-- the five parts together
pub meets : ReadBack our_packer → WrittenBack our_packer → OneBlock our_packer → Meets our_packer
meets r w o = record { writer_exact = writer_exact; reader_exact = reader_exact; read_back = r; written_back = w; one_block = o }

-- the same number and the same output
alike : (g h : Gives) → g.number ≡ h.number → g.output ≡ h.output → g ≡ h
alike g h e f = ap₂ (λ (n : ℕ) (l : List ℕ). record { number = n; output = l }) e f

-- what cannot be anything but a refusal is one
pub refusal : (g : Gives) (o : List ℕ) → ((Refused g o → ⊥) → ⊥) → Refused g o
refusal g o h = (
  equals g.number 22 (λ f. h (λ r. f r.0)),
  same_equal o g.output (passes (same o g.output) (λ f. h (λ r. false≢true (sym f ∙ rw r.1 (same_self o))))),
)

-- a writer that is exact gives what ours gives
same_pack : (P : Packer) → WriterExact P → (s o : List ℕ) → P.pack s o ≡ our_packer.pack s o
same_pack P w s o = by (packable s (length o)) refl
  where
    by : (b : Bool) → packable s (length o) ≡ b → P.pack s o ≡ our_packer.pack s o
    by true t =
        let z = w.accepts s o (lines_sound s (length o) t) in
        let y = pack_taken s o t in
        alike (P.pack s o) (our_packer.pack s o) (z ∙ sym y.0) (w.writes s o z ∙ sym y.1)
    by false t =
        let z = refusal (P.pack s o) o (λ n. false≢true (sym t ∙ lines_complete s (length o) (λ f. n (w.refuses s o f)))) in
        let y = pack_refused s o t in
        alike (P.pack s o) (our_packer.pack s o) (z.0 ∙ sym y.0) (z.1 ∙ sym y.1)

-- and so does such a reader
same_unpack : (P : Packer) → ReaderExact P → (b o : List ℕ) → P.unpack b o ≡ our_packer.unpack b o
same_unpack P r b o = by (readable b (length o)) refl
  where
    by : (x : Bool) → readable b (length o) ≡ x → P.unpack b o ≡ our_packer.unpack b o
    by true t =
        let z = r.accepts b o (block_sound b (length o) t) in
        let y = unpack_taken b o t in
        alike (P.unpack b o) (our_packer.unpack b o) (z ∙ sym y.0) (r.writes b o z ∙ sym y.1)
    by false t =
        let z = refusal (P.unpack b o) o (λ n. false≢true (sym t ∙ block_complete b (length o) (λ f. n (r.refuses b o f)))) in
        let y = unpack_refused b o t in
        alike (P.unpack b o) (our_packer.unpack b o) (z.0 ∙ sym y.0) (z.1 ∙ sym y.1)

-- a machine whose writer and reader are exact is ours
only_ours : (P : Packer) → WriterExact P → ReaderExact P → P ≡ our_packer
only_ours P w r =
    ap₂ (λ (f g : List ℕ → List ℕ → Gives). record { pack = f; unpack = g }) (fun_ext λ s. fun_ext λ o. same_pack P w s o)
    (fun_ext λ b. fun_ext λ o. same_unpack P r b o)

pub no_room : NoRoom
no_room P Q p q = only_ours P p.writer_exact p.reader_exact ∙ sym (only_ours Q q.writer_exact q.reader_exact)
