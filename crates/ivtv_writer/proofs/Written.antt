-- Masks and lines of a block, one after the other. Assumes nothing.
use mathlib.Core.Path.{◌≡◌, ap, ◌∙◌}
use mathlib.Core.Bool.{true, false, cond}
use mathlib.Core.List.{List, [], ◌∷◌, ◌++◌}
use Prim.Native.Nat.{ℕ, ◌+◌, ◌-◌, ◌/◌, ◌%◌, ◌≤◌, ◌<◌}
use native.Mathlib.Omega.{arith}
use borrow.Author.Tests.{eq-eqb, ne_eqb}
use lib.Dec.{eqb}
use lib.ListN.{length, get_or, length-append}
use lib.Seq.{sets}
use Rattle.wire_read.specs.Words.{bytes_of}
use Rattle.wire_read.proofs.Stores.{then_at}
use Rattle.ivtv_rules.specs.Lines.{line_of}
use Rattle.ivtv_rules.specs.Block.{joined, itv0, ITV0, opening_of}
use Rattle.ivtv_rules.specs.Writing.{record64, line_for}
use Rattle.ivtv_rules.proofs.Stored.{length_line}
use Rattle.ivtv_rules.specs.Reading.{bit_on}
use Rattle.ivtv_rules.proofs.Joined.{joined_more, joined_grows}
use Rattle.ivtv_rules.proofs.Taken.{opening_long}
use Rattle.ivtv_writer.specs.Sorting.{kept_line, Room}

-- ---- openings

pub all_lines : (n mask : ℕ) → n ≡ 36 → opening_of n mask ≡ ITV0
unfolding opening_of
all_lines n mask e = rw (eq-eqb n 36 e)

pub some_lines : (n mask : ℕ) → (n ≡ 36 → ⊥) → opening_of n mask ≡ itv0 ++ bytes_of (mask % 4294967296 ∷ mask / 4294967296 ∷ [])
unfolding opening_of
some_lines n mask d = rw (ne_eqb n 36 d)

-- what is stored behind them
pub behind : (n mask : ℕ) (b vs : List ℕ) → sets (sets b 0 (opening_of n mask)) (cond (eqb n 36) 4 12) vs ≡ sets b 0 (opening_of n mask ++ vs)
behind n mask b vs = then_at (opening_of n mask) vs b (cond (eqb n 36) 4 12) (opening_long n mask)

-- ---- lines

pub no_record : (s : List ℕ) (p : ℕ) → p ≡ 0 → line_for s p ≡ []
no_record s p e = rw (eq-eqb p 0 e)

pub a_record : (s : List ℕ) (p : ℕ) → (p ≡ 0 → ⊥) → line_for s p ≡ line_of (record64 s (p - 1))
a_record s p d = rw (ne_eqb p 0 d)

-- where the mask has no bit nothing is stored, and where it has one the line that is kept
pub kept_none : (s places : List ℕ) (mask i : ℕ) → bit_on mask i ≡ false → kept_line s mask places i ≡ []
kept_none s places mask i e = rw e

pub kept_some : (s places : List ℕ) (mask i : ℕ) → bit_on mask i ≡ true → kept_line s mask places i ≡ line_for s (get_or places i 0)
kept_some s places mask i e = rw e

-- the line of a bit that is set fits behind those before it
pub line_fits : (b s places : List ℕ) (start mask n : ℕ) → Room b start s places mask → n < 36 → bit_on mask n ≡ true
    → start + length (joined (kept_line s mask places) n) + 43 ≤ length b
line_fits b s places start mask n r h e =
    let f = kept_line s mask places in
    let z : get_or places n 0 ≡ 0 → ⊥ = λ q. omega (arith, r.named n e) in
    let w : length (f n) ≡ 43 = ap length (kept_some s places mask n e ∙ a_record s (get_or places n 0) z) ∙ length_line (record64 s (get_or places n 0 - 1)) in
    omega (arith, r.fits, w, joined_grows f (n + 1) 36 (omega arith), ap length (joined_more f n), length-append (joined f n) (f n))
