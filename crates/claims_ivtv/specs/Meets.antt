-- The claims about the embedded packing, of any machine.
use Rattle.std.specs.Prelude.{ℕ, ◌≡◌, List, length}
use Rattle.ivtv_rules.specs.Block.{block_of, records_of}
use Rattle.ivtv_rules.specs.Writing.{lines_of}
use Rattle.ivtv_rules.specs.Reading.{lines_in}
use Rattle.claims_ivtv.specs.Told.{Bytes, SameLines, Tidy}
use Rattle.claims_ivtv.specs.Flaws.{LinesFlaw, BlockFlaw}
use Rattle.claims_ivtv.specs.Packer.{Gives, Packer}

-- a refusal: 22, and the output as it was
abbrev pub Refused : Gives → List ℕ → Type 0
Refused g o = (g.number ≡ 22) × (g.output ≡ o)

-- THE WRITER refuses what has a flaw of the list, and takes everything else; what it writes is the block of the lines
pub record WriterExact (P : Packer) : Type 0 where
  pub refuses : (s o : List ℕ) → LinesFlaw s (length o) → Refused (P.pack s o) o
  pub accepts : (s o : List ℕ) → (LinesFlaw s (length o) → ⊥) → (P.pack s o).number ≡ 0
  pub writes : (s o : List ℕ) → (P.pack s o).number ≡ 0 → (P.pack s o).output ≡ block_of (lines_of s)

-- THE READER likewise; what it writes are the records of the block's lines
pub record ReaderExact (P : Packer) : Type 0 where
  pub refuses : (b o : List ℕ) → BlockFlaw b (length o) → Refused (P.unpack b o) o
  pub accepts : (b o : List ℕ) → (BlockFlaw b (length o) → ⊥) → (P.unpack b o).number ≡ 0
  pub writes : (b o : List ℕ) → (P.unpack b o).number ≡ 0 → (P.unpack b o).output ≡ records_of (lines_in b)

-- READING WHAT WAS WRITTEN, into an output as long as the records were, gives the same lines, in the order of their bits and zeroed
abbrev pub ReadBack : Packer → Type 0
ReadBack P = (s o q : List ℕ) → (P.pack s o).number ≡ 0 → length q ≡ length s
    → ((P.unpack (P.pack s o).output q).number ≡ 0) × SameLines s (P.unpack (P.pack s o).output q).output × Tidy (P.unpack (P.pack s o).output q).output

-- WRITING WHAT WAS READ, into an output as long as the block was, gives the same block
abbrev pub WrittenBack : Packer → Type 0
WrittenBack P = (b o q : List ℕ) → Bytes b → (P.unpack b o).number ≡ 0 → length q ≡ length b
    → ((P.pack (P.unpack b o).output q).number ≡ 0) × ((P.pack (P.unpack b o).output q).output ≡ b)

-- ONE BLOCK for each set of lines: the same lines give the same block, and different ones different blocks
abbrev pub OneBlock : Packer → Type 0
OneBlock P = (s o t q : List ℕ) → (P.pack s o).number ≡ 0 → (P.pack t q).number ≡ 0
    → (SameLines s t → (P.pack s o).output ≡ (P.pack t q).output) × ((P.pack s o).output ≡ (P.pack t q).output → SameLines s t)

pub record Meets (P : Packer) : Type 0 where
  pub writer_exact : WriterExact P
  pub reader_exact : ReaderExact P
  pub read_back : ReadBack P
  pub written_back : WrittenBack P
  pub one_block : OneBlock P

-- NO ROOM: two machines that meet them give the same for everything that they are lent
abbrev pub NoRoom : Type 0
NoRoom = (P Q : Packer) → Meets P → Meets Q → P ≡ Q
