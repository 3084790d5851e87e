-- What holds of the table of known words, for upper layers to cite. Assumes nothing.
use mathlib.Core.Path.{◌≡◌, refl, sym, ap, subst, ◌∙◌}
use mathlib.Core.Logic.{◌⊎◌, ⊎_elim, ⊎_map}
use mathlib.Core.Bool.{Bool, true, false, false≢true}
use mathlib.Core.List.{map}
use Prim.Native.Nat.{ℕ, ◌<◌}
use lib.Dec.{ltb}
use Rattle.ioctl_table.specs.Table.{argument_size, Known, known_words, nothing, row_at, call_of, request_of}
use Rattle.ioctl_word.specs.Word.{direction_of, size_of, letter_of}
use Rattle.ioctl_table.specs.declared.table.Call.{Call}
use Rattle.ioctl_table.specs.declared.table.Request.{Request}
use Rattle.ioctl_table.specs.declared.table.Call.TheVariants.{Unknown}
use Rattle.ioctl_table.proofs.Columns.{at}
use Rattle.ioctl_table.proofs.Walk.{unknown_or_listed}

-- what there is to test of a row
record Facts : Type 0 where
  size : ℕ
  letter : ℕ
  direction : ℕ
  call : Call
  sized : Bool

-- as its word has it
abbrev in_word : Known → Facts
in_word r = record {
  size = size_of r.word;
  letter = letter_of r.word;
  direction = direction_of r.word;
  call = call_of r.word;
  sized = ltb 0 (size_of r.word);
}

-- as the rest of the row has it
abbrev in_row : Known → Facts
in_row r = record {
  size = argument_size r.call;
  letter = 0x56;
  direction = r.direction;
  call = r.call;
  sized = true;
}

-- the one test of the whole table
tested : map in_word known_words ≡ map in_row known_words
unfolding known_words call_of
tested = refl

-- the test, row by row
right : (k : ℕ) → k < 18 → in_word (row_at k) ≡ in_row (row_at k)
unfolding known_words
right k h = at in_word in_row nothing known_words tested k h

-- a row's word names the length of its call's argument, the letter V, and its direction
pub record LaidOut (r : Known) : Type 0 where
  pub size : size_of r.word ≡ argument_size r.call
  pub letter : letter_of r.word ≡ 0x56
  pub direction : direction_of r.word ≡ r.direction

-- every row is laid out so
pub laid_out : (k : ℕ) → k < 18 → LaidOut (row_at k)
laid_out k h = record {
  size = ap (λ (f : Facts). f.size) (right k h);
  letter = ap (λ (f : Facts). f.letter) (right k h);
  direction = ap (λ (f : Facts). f.direction) (right k h);
}

-- every row is found by its word: no row before it has the same word for another call
pub finds : (k : ℕ) → k < 18 → call_of (row_at k).word ≡ (row_at k).call
finds k h = ap (λ (f : Facts). f.call) (right k h)

-- every row has a call
pub never_unknown : (k : ℕ) → k < 18 → (row_at k).call ≡ Unknown → ⊥
never_unknown k h e =
    let none : ltb 0 (size_of (row_at k).word) ≡ false = ap (λ (n : ℕ). ltb 0 n) ((laid_out k h).size ∙ ap argument_size e) in
    false≢true (sym none ∙ ap (λ (f : Facts). f.sized) (right k h))

-- a word is unknown or some row's
pub only : (w : ℕ) → (call_of w ≡ Unknown) ⊎ ((k : ℕ) × (k < 18) × ((row_at k).word ≡ w))
unfolding known_words call_of
only w = unknown_or_listed w known_words

-- a word that no row has is unknown
pub unlisted : (w : ℕ) → ((k : ℕ) → k < 18 → (row_at k).word ≡ w → ⊥) → call_of w ≡ Unknown
unlisted w none = ⊎_elim (λ u. u) (λ p. absurd (none p.0 p.1 p.2)) (only w)

-- what holds of each row's word holds of every word that is not unknown
pub of_known : (P : ℕ → Type 0) → ((k : ℕ) → k < 18 → P (row_at k).word) → (w : ℕ) → (call_of w ≡ Unknown) ⊎ P w
of_known P each w = ⊎_map (λ u. u) (λ p. subst P p.2 (each p.0 p.1)) (only w)

-- the argument of a known word is as long as the word says
pub size_in_word : (w : ℕ) → (call_of w ≡ Unknown) ⊎ (argument_size (call_of w) ≡ size_of w)
size_in_word = of_known (λ (w : ℕ). argument_size (call_of w) ≡ size_of w) (λ k h. ap argument_size (finds k h) ∙ sym (laid_out k h).size)

-- of what a word asks for
pub sized_in_word : (w : ℕ) {r : Request} → r ≡ request_of w → (r.call ≡ Unknown) ⊎ (r.size ≡ size_of w)
unfolding request_of
sized_in_word w e = rw e (size_in_word w)

-- the letter of a known word is V
pub letter_in_word : (w : ℕ) → (call_of w ≡ Unknown) ⊎ (letter_of w ≡ 0x56)
letter_in_word = of_known (λ (w : ℕ). letter_of w ≡ 0x56) (λ k h. (laid_out k h).letter)
