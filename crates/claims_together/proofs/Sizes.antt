-- The nearest sizes: of every session that meets demands 1 and 2. Assumes nothing.
use mathlib.Core.Path.{◌≡◌, refl, sym, ap, ◌∙◌, subst}
use mathlib.Core.Logic.{⊎_elim}
use mathlib.Core.Bool.{true, not}
use Prim.Native.Nat.{ℕ, ◌*◌, ◌≤◌, ◌<◌}
use native.Mathlib.Omega.{arith}
use native.Mathlib.Nat.{mul-le-mul_right, le_of_mul-le-mul_right, eq-or-lt_of_le}
use borrow.Author.Tests.{eqb-true}
use mathlib.Core.List.{List, [], ◌∷◌}
use lib.Dec.{eqb}
use lib.ListN.{length}
use Rattle.wire_read.specs.Words.{word_at}
use Rattle.ioctl_table.specs.Table.{request_of, call_of, known_words}
use Rattle.ioctl_table.specs.declared.table.Call.TheVariants.{SFmt, TryFmt}
use Rattle.ioctl_table.specs.declared.refusals.Refusal.TheVariants.{Closed, ArgumentLength, WrongType, BuffersExist as Buffers}
use Rattle.sheet_geometry.specs.Geometry.{widths_of, heights_of}
use Rattle.sheet_geometry.specs.declared.Range.{Range}
use Rattle.sheet_rules.specs.Rules.{good_sheet}
use Rattle.sheet_rules.proofs.Facts.{Sizes}
use Rattle.sheet_rules.proofs.Good.{geometry}
use Rattle.grid_rules.specs.Grid.{size_at, walk_sizes}
use Rattle.grid_rules.proofs.Sizes.{walk_stops}
use Rattle.stream_history.specs.Paper.{Paper}
use Rattle.claims.specs.Calls.{Kind, type_of, Call}
use Rattle.claims.specs.Machine.{Session, Given}
use Rattle.claims.specs.Words.{paper_in}
use Rattle.claims.specs.Table.{check, no_stream, first_number}
use Rattle.claims.specs.Demands.{Nearest, Demand1, Demand2}
use Rattle.claims_together.specs.Waiting.{BuffersExist}
use Rattle.claims_together.specs.Sizes.{Negotiates, NearestSizes}
use Rattle.claims_together.proofs.Waiting.{past, not_false, granted_by, by_call, paper_at_law}

-- a size of a good grid that is the nearest, the smaller on a tie, is what the walk gives
pub walk_nearest : (r : Range) → Sizes r → (asked got : ℕ) → Nearest r asked got → got ≡ walk_sizes r asked
walk_nearest r z asked got n =
    n.is
    ∙ sym (walk_stops r z.steps some z.whole asked n.place (record {
      within = cancel n.place z.steps (omega (arith, n.is, n.most, z.whole));
      near = λ j h. rw (← n.is) (n.near j (below j h));
      tie = λ j h e. cancel n.place j (omega (arith, n.is, n.tie j (below j h) (rw n.is e)));
    }))
  where
    some : 0 < r.step
    some = omega (arith, z.stride)

    cancel : (i j : ℕ) → i * r.step ≤ j * r.step → i ≤ j
    cancel i j h = le_of_mul-le-mul_right h some

    below : (j : ℕ) → j ≤ z.steps → size_at r j ≤ r.greatest
    below j h = omega (arith, mul-le-mul_right r.step h, z.whole)

-- the word of TRY_FMT
pub is_try : (request_of 0xC0CC5640).call ≡ TryFmt
unfolding request_of call_of known_words
is_try = refl

-- a device that accepts a request was opened, and with a good sheet
pub good : (s : List ℕ) (m : Kind → List ℕ) (S : Session) → Demand1 s m S → (cs : List Call) (w : ℕ) (a : List ℕ) → (S.request cs w a).number ≡ 0 → good_sheet s ≡ true
good s m S d cs w a z =
    let (opened, e) = past (not (eqb S.opening 0)) (λ n. omega (arith, n)) (sym (d.requests cs w a) ∙ z) in
    let zero = eqb-true S.opening 0 (not_false (eqb S.opening 0) opened) in
    let (sheet, f) = past (not (good_sheet s)) (λ n. omega (arith, n)) (sym d.opening ∙ zero) in
    not_false (good_sheet s) sheet

module _ (s : List ℕ) (m : Kind → List ℕ) (S : Session) (d1 : Demand1 s m S) (d2 : Demand2 s S) where
  module _ (cs : List Call) (w : ℕ) (a : List ℕ) (call : Negotiates (request_of w).call) (type : word_at a 0 ≡ type_of Kind.pictures) (z : (S.request cs w a).number ≡ 0) where
    -- what holds of every accepted TRY_FMT of this argument holds of an accepted S_FMT too, which answers what TRY_FMT answers
    as_tried : (P : Given → Type 0) → ((t : ℕ) → (request_of t).call ≡ TryFmt → (S.request cs t a).number ≡ 0 → P (S.request cs t a)) → P (S.request cs w a)
    as_tried P tried = ⊎_elim
        (λ e. tried w e z)
        (λ e.
        let same : S.request cs 0xC0CC5640 a ≡ S.request cs w a = d2.same cs 0xC0CC5640 w a is_try e (λ h. omega (arith, h, z)) in
        subst P same (tried 0xC0CC5640 is_try (ap (λ (g : Given). g.number) same ∙ z)))
        call

    -- so both answer the nearest sizes
    pub nearest_width : Nearest (widths_of s) (word_at a 4) (word_at (S.request cs w a).argument 4)
    nearest_width = as_tried (λ g. Nearest (widths_of s) (word_at a 4) (word_at g.argument 4)) (λ t e y. d2.widths cs t a e type y)

    pub nearest_height : Nearest (heights_of s) (word_at a 8) (word_at (S.request cs w a).argument 8)
    nearest_height = as_tried (λ g. Nearest (heights_of s) (word_at a 8) (word_at g.argument 8)) (λ t e y. d2.heights cs t a e type y)

  -- what S_FMT gives, by the opening, the length and the type of its argument, and the buffers that there are
  abbrev set_number : ℕ → ℕ → ℕ → ℕ → ℕ
  set_number o l t n = first_number (check (not (eqb o 0)) Closed ∷ check (not (eqb l 204)) ArgumentLength ∷ check (no_stream t) WrongType ∷ check (not (eqb n 0)) Buffers ∷ [])

  -- no buffers that were told of, none on paper
  none : (cs : List Call) → (BuffersExist S Kind.pictures cs → ⊥) → (paper_in s S Kind.pictures cs).granted ≡ 0
  none cs empty = ⊎_elim (λ e. sym e) (λ some. absurd (empty (granted_by s S Kind.pictures cs some))) (eq-or-lt_of_le (omega arith))

  pub nearest_sizes : NearestSizes s S
  nearest_sizes = record {
    tried = λ cs w a opened e long type. by_call s m Kind.pictures S d1 cs w a TryFmt e ∙ rw (opened, long, type);
    set = λ cs w a opened e long type empty.
        by_call s m Kind.pictures S d1 cs w a SFmt e
        ∙ ap (λ (n : ℕ). set_number S.opening (length a) (word_at a 0) n) (ap (λ (p : Paper). p.granted) (paper_at_law s m Kind.pictures S d1 cs a 0 type) ∙ none cs empty)
        ∙ rw (opened, long, type);
    widths = λ cs w a call type z. walk_nearest (widths_of s) (geometry s (good s m S d1 cs w a z)).widths (word_at a 4) _ (nearest_width cs w a call type z);
    heights = λ cs w a call type z. walk_nearest (heights_of s) (geometry s (good s m S d1 cs w a z)).heights (word_at a 8) _ (nearest_height cs w a call type z);
  }
