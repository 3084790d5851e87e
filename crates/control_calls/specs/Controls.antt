-- What the requests about the values of controls answer.
use Rattle.std.specs.Prelude.{ℕ, List, set}
use Rattle.std.proofs.lemmas.List.Edits.{sets}
use Rattle.wire_read.specs.Words.{word_at}
use Rattle.ioctl_table.specs.declared.refusals.Refusal.{Refusal}
use Rattle.control_value_rules.specs.Values.{reading, setting_of}
use Rattle.std.specs.Prelude.{Result, Ok, Err}
use Rattle.control_value_rules.specs.declared.Setting.{Setting}
use Rattle.control_value_rules.specs.declared.Setting.TheVariants as settings
use Rattle.control_replies.specs.Replies.{value_reply}
use Rattle.device_state.specs.State.{State, with_values}
use Rattle.device_state.specs.Answers.{Answer, done, refused}

-- what a reading answers
abbrev pub read_as : Result ℕ Refusal → ℕ → State → List ℕ → Answer
read_as (Ok v) id d a = done d (sets a 0 (value_reply id v))
read_as (Err why) id d a = refused why d a

-- G_CTRL
unfoldable pub g_ctrl_of : List ℕ → State → List ℕ → Answer
g_ctrl_of s d a = read_as (reading s d.values (word_at a 0)) (word_at a 0) d a

-- what a setting answers: a value is kept and shown, a button leaves the argument
abbrev pub set_as : Result Setting Refusal → ℕ → State → List ℕ → Answer
set_as (Ok (settings.Stored k v)) id d a = done (with_values d (set d.values k v)) (sets a 0 (value_reply id v))
set_as (Ok settings.Pressed) id d a = done d a
set_as (Err why) id d a = refused why d a

-- S_CTRL
unfoldable pub s_ctrl_of : List ℕ → State → List ℕ → Answer
s_ctrl_of s d a = set_as (setting_of s (word_at a 0) (word_at a 4)) (word_at a 0) d a
