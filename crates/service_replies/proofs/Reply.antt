-- The answers read back: what is told is what was to be told, and an answer's own bytes bear out its union and its io size. Assumes nothing.
use mathlib.Core.Path.{◌≡◌, refl, sym, ap, ◌∙◌}
use mathlib.Core.Bool.{not}
use mathlib.Core.Logic.{◌≢◌}
use mathlib.Core.List.{List}
use Prim.Native.Nat.{ℕ, ◌+◌, ◌*◌, ◌^◌, ◌≤◌, ◌<◌}
use native.Mathlib.Omega.{arith}
use lib.ListN.{length, get_or, replicate, length-replicate}
use lib.Dec.{eqb}
use lib.Seq.{sets, length-sets}
use borrow.Author.Tests.{ne_eqb}
use Rattle.wire_read.specs.Words.{word_at, le32}
use Rattle.wire_read.proofs.Words.{word_before, word_back}
use Rattle.wire_read.proofs.Tabs.{tab_is, tab_length}
use Rattle.service_rules.specs.Negotiation.{negotiated_lines, fitting_at, union_of, io_size}
use Rattle.service_rules.proofs.Members.{set_most}
use Rattle.service_rules.proofs.Counts.{count_most}
use Rattle.service_rules.proofs.Laws.{fitting_most, answered_at_law, again_by_lines, again_by_set}
use Rattle.service_replies.specs.Halves.{half_at, le16, halves_of}
use Rattle.service_replies.specs.Services.{lines_at, asked_services, services_reply, services_capability_reply}
use Rattle.service_replies.proofs.Halves.{half_before, half_stored, half_of, half_back, length_halves_of}

-- ---- how long they are

pub services_length : (kind : ℕ) (lines : List ℕ) → length (services_reply kind lines) ≡ 204
unfolding services_reply
services_length kind lines = simp (length-sets, length-replicate)

pub capability_length : (kind : ℕ) → length (services_capability_reply kind) ≡ 116
unfolding services_capability_reply
capability_length kind = simp (length-sets, length-replicate)

-- ---- what an answer to a format call tells

-- a union of services has 16 bits, and an io size 32
union_most : (lines : List ℕ) → union_of lines ≤ 0x5401
unfolding union_of
union_most lines = set_most _

union_fits : (lines : List ℕ) → union_of lines < 65536
union_fits lines = omega (arith, union_most lines)

size_fits : (lines : List ℕ) → io_size lines < 4294967296
unfolding io_size
size_fits lines = omega (arith, count_most 48 (λ k. not (eqb (get_or lines k 0) 0)))

-- the answer as far as it is stored before the union, before the lines and before the io size
abbrev before_union : ℕ → List ℕ
before_union kind = sets (replicate 204 0) 0 (le32 kind)

abbrev before_lines : ℕ → List ℕ → List ℕ
before_lines kind lines = sets (before_union kind) 4 (le16 (union_of lines))

abbrev before_size : ℕ → List ℕ → List ℕ
before_size kind lines = sets (before_lines kind lines) 6 (halves_of lines)

-- the type
pub told_kind : (kind : ℕ) (lines : List ℕ) → kind < 2 ^ 32 → word_at (services_reply kind lines) 0 ≡ kind
unfolding services_reply
told_kind kind lines h =
    word_before (le32 (io_size lines)) (before_size kind lines) 104 0 (omega arith)
    ∙ word_before (halves_of lines) (before_lines kind lines) 6 0 (omega arith)
    ∙ word_before (le16 (union_of lines)) (before_union kind) 4 0 (omega arith)
    ∙ word_back (replicate 204 0) 0 kind (simp length-replicate (omega arith)) h

union_told : (kind : ℕ) (lines : List ℕ) → half_at (services_reply kind lines) 4 ≡ union_of lines
unfolding services_reply
union_told kind lines =
    half_before (le32 (io_size lines)) (before_size kind lines) 104 4 (omega arith)
    ∙ half_before (halves_of lines) (before_lines kind lines) 6 4 (omega arith)
    ∙ half_back (before_union kind) 4 (union_of lines) (simp (length-sets, length-replicate) (omega arith)) (union_fits lines)

size_told : (kind : ℕ) (lines : List ℕ) → word_at (services_reply kind lines) 104 ≡ io_size lines
unfolding services_reply
size_told kind lines = word_back (before_size kind lines) 104 (io_size lines) (simp (length-sets, length-replicate) (omega arith)) (size_fits lines)

module _ (kind : ℕ) (lines : List ℕ) (all : length lines ≡ 48) (fit : (k : ℕ) → k < 48 → get_or lines k 0 < 65536) where
  line_told : (k : ℕ) → k < 48 → half_at (services_reply kind lines) (6 + 2 * k) ≡ get_or lines k 0
  unfolding services_reply
  line_told k h =
      let n = length_halves_of lines in
      half_before (le32 (io_size lines)) (before_size kind lines) 104 (6 + 2 * k) (omega arith)
      ∙ half_stored (halves_of lines) (before_lines kind lines) 6 (2 * k) (omega arith) (simp (length-sets, length-replicate) (omega arith))
      ∙ half_of lines k (omega arith) (fit k h)

  -- the lines
  pub told_lines : lines_at (services_reply kind lines) 6 ≡ lines
  told_lines = sym (tab_is lines 0 (λ k. half_at (services_reply kind lines) (6 + 2 * k)) 48 all (λ k h. sym (line_told k h)))

  -- the union is that of the lines told
  pub told_union : half_at (services_reply kind lines) 4 ≡ union_of (lines_at (services_reply kind lines) 6)
  told_union = union_told kind lines ∙ ap union_of (sym told_lines)

  -- the io size is that of the lines told
  pub told_size : word_at (services_reply kind lines) 104 ≡ io_size (lines_at (services_reply kind lines) 6)
  told_size = size_told kind lines ∙ ap io_size (sym told_lines)

-- ---- an answer offered again

asked_of : (a : List ℕ) → asked_services a ≡ negotiated_lines (half_at a 4) (lines_at a 6)
unfolding asked_services
asked_of a = refl

-- what is answered is 48 lines, and each fits 16 bits
pub asked_length : (a : List ℕ) → length (asked_services a) ≡ 48
unfolding asked_services negotiated_lines
asked_length a = tab_length (fitting_at (half_at a 4) (lines_at a 6)) 48

pub asked_fit : (a : List ℕ) (k : ℕ) → k < 48 → get_or (asked_services a) k 0 < 65536
unfolding asked_services
asked_fit a k h = omega (arith, answered_at_law (half_at a 4) (lines_at a 6) k h, fitting_most (half_at a 4) (lines_at a 6) k)

module _ (kind : ℕ) (a : List ℕ) where
  asked_told : lines_at (services_reply kind (asked_services a)) 6 ≡ asked_services a
  asked_told = told_lines kind (asked_services a) (asked_length a) (asked_fit a)

  lines_again : negotiated_lines 0 (asked_services a) ≡ asked_services a
  unfolding asked_services
  lines_again = again_by_lines (half_at a 4) (lines_at a 6)

  -- the lines of an answer, asked for line by line, answer themselves
  pub told_again : negotiated_lines 0 (lines_at (services_reply kind (asked_services a)) 6) ≡ asked_services a
  told_again = ap (negotiated_lines 0) asked_told ∙ lines_again

  set_again : half_at a 4 ≢ 0 → negotiated_lines (union_of (asked_services a)) (asked_services a) ≡ asked_services a
  unfolding asked_services
  set_again given = again_by_set (half_at a 4) (lines_at a 6) (ne_eqb (half_at a 4) 0 given)

  -- an answer to a set of services, offered again whole, answers itself
  pub told_again_by_set : half_at a 4 ≢ 0 → asked_services (services_reply kind (asked_services a)) ≡ asked_services a
  told_again_by_set given =
      asked_of (services_reply kind (asked_services a))
      ∙ ap (λ (u : ℕ). negotiated_lines u (lines_at (services_reply kind (asked_services a)) 6)) (union_told kind (asked_services a))
      ∙ ap (negotiated_lines (union_of (asked_services a))) asked_told
      ∙ set_again given
