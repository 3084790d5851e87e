-- What the definitions of specs/ say in each case.
use Prim.Native.Nat.{ℕ}
use mathlib.Core.Bool.{true, false, false≢true}
use mathlib.Core.List.{List}
use mathlib.Core.Path.{◌≡◌, refl, sym, ap, ◌∙◌}
use lib.Dec.{eqb}
use lib.ListN.{length}
use borrow.Author.Tests.{eq-eqb, ne_eqb}
use Rattle.std.specs.Prelude.{Some, None, is_some, Result, Ok, Err, IsErrAnd}
use Rattle.ioctl_table.specs.Refusal.{errno_of, number_of}
use Rattle.ioctl_table.specs.declared.refusals.Refusal.{Refusal}
use Rattle.ioctl_table.specs.declared.refusals.Refusal.TheVariants.{ArgumentLength, Closed, UnknownWord}
use Rattle.ioctl_table.specs.Table.{argument_size, request_of}
use Rattle.ioctl_table.specs.declared.table.Call.{Call}
use Rattle.ioctl_table.specs.declared.table.Call.TheVariants.{Unknown}
use Rattle.ioctl_table.specs.declared.table.Request.{Request}
use Rattle.device_state.specs.State.{State}
use Rattle.device_state.specs.Answers.{Answer, answer}
use Rattle.request_topics.specs.declared.About.{About}
use Rattle.request_topics.specs.declared.About.TheVariants.{Settings, Streams, Controls}
use Rattle.request_topics.specs.Request.{call_answer, checked_answer, on_topic, request_answer, topic_of, is_about}

about_itself : (t : About) → is_about t (Some t) ≡ true
about_itself Settings = refl
about_itself Streams = refl
about_itself Controls = refl

-- at the arm of the call k, which is about t; c is the call that the code was given
module _ (t : About) (k : Call) (s : List ℕ) (d : State) (a : List ℕ) {c : Call} (e : c ≡ k) (o : is_about t (topic_of k) ≡ true) (known : eqb (argument_size k) 0 ≡ false) where
  -- an argument of another length; r is the refusal that is handed on
  pub arm_length : {why : Refusal} → (length a ≡ argument_size k → ⊥) → why ≡ ArgumentLength → (r : Result Unit Refusal) → IsErrAnd r (λ y. y ≡ why) → answer (number_of r) d a ≡ on_topic t c s d a
  unfolding on_topic checked_answer
  arm_length l q (Ok done) h = absurd h
  arm_length l q (Err y) h = rw (h, q, e, o, known, ne_eqb (length a) (argument_size k) l)

  -- one of its own length
  pub arm_called : {x : Answer} → length a ≡ argument_size k → x ≡ call_answer k s d a → x ≡ on_topic t c s d a
  unfolding on_topic checked_answer
  arm_called l q = q ∙ rw (e, o, known, eq-eqb (length a) (argument_size k) l)

-- a call, by its topic
module _ (t : About) (c : Call) (s : List ℕ) (d : State) (a : List ℕ) where
  -- of another topic
  pub topic_other : is_about t (topic_of c) ≡ false → answer (errno_of UnknownWord) d a ≡ on_topic t c s d a
  unfolding on_topic
  topic_other h = rw h

  -- of this one
  pub topic_called : {x : Answer} → Some t ≡ topic_of c → x ≡ on_topic t c s d a → x ≡ checked_answer c s d a
  unfolding on_topic
  topic_called e q = q ∙ rw (sym e, about_itself t)

-- a call about nothing
pub topic_nothing : (c : Call) (s : List ℕ) (d : State) (a : List ℕ) → None ≡ topic_of c → answer (errno_of UnknownWord) d a ≡ checked_answer c s d a
unfolding checked_answer
topic_nothing Unknown s d a e = refl
topic_nothing _ s d a e = absurd (false≢true (ap is_some e))

-- a request
module _ (s : List ℕ) (d : State) (w : ℕ) (a : List ℕ) where
  -- of a closed device
  pub request_closed : d.ready ≡ 0 → answer (errno_of Closed) d a ≡ request_answer s d w a
  unfolding request_answer
  request_closed h = rw (eq-eqb d.ready 0 h)

  -- of an open one; r is what the word was found to ask for
  module _ {r : Request} (h : d.ready ≡ 0 → ⊥) (e : r ≡ request_of w) where
    -- it asks for a call, which tests the argument
    pub request_checked : {x : Answer} → x ≡ checked_answer r.call s d a → x ≡ request_answer s d w a
    unfolding request_answer checked_answer request_of
    request_checked q = q ∙ rw (ne_eqb d.ready 0 h, e)
