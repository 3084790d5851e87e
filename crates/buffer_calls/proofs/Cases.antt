-- What the tests of a call answer, each way. Assumes nothing.
use mathlib.Core.Path.{◌≡◌, ◌∙◌, sym}
use mathlib.Core.Bool.{true, false, not}
use mathlib.Core.List.{List}
use Prim.Native.Nat.{ℕ}
use lib.Dec.{eqb}
use borrow.Author.Tests.{eq-eqb, ne_eqb}
use Rattle.stream_run.specs.Replies.{Reply}
use Rattle.stream_words.specs.Stream.{Stream}
use Rattle.stream_run.specs.Switches.{Step, answers}
use Rattle.stream_run.specs.Numbers.{reply_number}
use Rattle.buffer_calls.specs.Buffers.{stream_answer, stepped}

module _ {v w : ℕ} (e : v ≡ w) where
  -- a memory that is 1 passes the test
  pub is_one_law : v ≡ 1 → not (eqb w 1) ≡ false
  is_one_law h = simp (eq-eqb w 1 (sym e ∙ h))

  -- another does not
  pub not_one : (v ≡ 1 → ⊥) → not (eqb w 1) ≡ true
  not_one h = simp (ne_eqb w 1 (λ k. h (e ∙ k)))

-- a step that the stream has taken: its reply, which is this one, and the stream after it; the argument goes by both
pub step_told : {r : Reply} {z : Stream} {t : Step} → answers r z ≡ t → (f : Reply → Stream → List ℕ) (q : Reply) → r ≡ q → {n : ℕ} → n ≡ reply_number q → {x : List ℕ} → x ≡ f q z
    → stream_answer n z x ≡ stepped t (f t.reply t.stream)
step_told g f q e h i = rw (← g, e, h, i)
