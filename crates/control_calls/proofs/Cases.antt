-- What a reading and a setting answer, as an exit of a handler takes them.
use Prim.Native.Nat.{ℕ}
use mathlib.Core.List.{List}
use mathlib.Core.Path.{◌≡◌, sym, ap, ◌∙◌}
use lib.ListN.{set}
use lib.Seq.{sets}
use Rattle.wire_read.specs.Words.{word_at}
use Rattle.ioctl_table.specs.Refusal.{errno_of}
use Rattle.ioctl_table.specs.declared.refusals.Refusal.{Refusal}
use Rattle.control_value_rules.specs.Values.{reading, setting_of}
use Rattle.std.specs.Prelude.{Result, Ok, Err}
use Rattle.control_value_rules.specs.declared.Setting.{Setting}
use Rattle.control_value_rules.specs.declared.Setting.TheVariants as settings
use Rattle.control_replies.specs.Replies.{value_reply}
use Rattle.device_state.specs.State.{State, with_values}
use Rattle.device_state.specs.Answers.{answer, done}
use Rattle.control_calls.specs.Controls.{read_as, g_ctrl_of, set_as, s_ctrl_of}

-- the reading x of the control with the id named in the argument
module _ (s : List ℕ) (d : State) (a : List ℕ) {id : ℕ} {x : Result ℕ Refusal} (i : id ≡ word_at a 0) (e : x ≡ reading s d.values id) where
  -- G_CTRL answers as the reading says
  g_ctrl_by : read_as x id d a ≡ g_ctrl_of s d a
  unfolding g_ctrl_of
  g_ctrl_by = rw (e, i)

  -- a value is shown
  pub read_value : (v : ℕ) → x ≡ Ok v → done d (sets a 0 (value_reply id v)) ≡ g_ctrl_of s d a
  read_value v h = ap (λ (y : Result ℕ Refusal). read_as y id d a) (sym h) ∙ g_ctrl_by

  -- a refused reading changes nothing
  pub read_refused : (why : Refusal) {n : ℕ} → x ≡ Err why → n ≡ errno_of why → answer n d a ≡ g_ctrl_of s d a
  read_refused why h q = rw q (ap (λ (y : Result ℕ Refusal). read_as y id d a) (sym h) ∙ g_ctrl_by)

-- the setting x of the control with the id named in the argument to the value named there
module _ (s : List ℕ) (d : State) (a : List ℕ) {id w : ℕ} {x : Result Setting Refusal} (i : id ≡ word_at a 0) (j : w ≡ word_at a 4) (e : x ≡ setting_of s id w) where
  -- S_CTRL answers as the setting says
  s_ctrl_by : set_as x id d a ≡ s_ctrl_of s d a
  unfolding s_ctrl_of
  s_ctrl_by = rw (e, i, j)

  -- a value is kept and shown
  pub set_stored : (k v : ℕ) {vs : List ℕ} → x ≡ (Ok (settings.Stored k v)) → vs ≡ set d.values k v → done (with_values d vs) (sets a 0 (value_reply id v)) ≡ s_ctrl_of s d a
  set_stored k v h q = rw q (ap (λ (y : Result Setting Refusal). set_as y id d a) (sym h) ∙ s_ctrl_by)

  -- a button changes nothing
  pub set_pressed : x ≡ (Ok settings.Pressed) → done d a ≡ s_ctrl_of s d a
  set_pressed h = ap (λ (y : Result Setting Refusal). set_as y id d a) (sym h) ∙ s_ctrl_by

  -- a refused setting changes nothing
  pub set_refused : (why : Refusal) {n : ℕ} → x ≡ Err why → n ≡ errno_of why → answer n d a ≡ s_ctrl_of s d a
  set_refused why h q = rw q (ap (λ (y : Result Setting Refusal). set_as y id d a) (sym h) ∙ s_ctrl_by)
