-- What the request for what a control is like answers.
use Rattle.std.specs.Prelude.{ℕ, cond, List, leb}
use Rattle.std.proofs.lemmas.List.Edits.{sets}
use Rattle.wire_read.specs.Words.{word_at}
use Rattle.ioctl_table.specs.declared.refusals.Refusal.TheVariants.{NoSuchControl}
use Rattle.control_place_rules.specs.Find.{present, queried_place}
use Rattle.control_replies.specs.Replies.{control_reply}
use Rattle.device_state.specs.State.{State}
use Rattle.device_state.specs.Answers.{Answer, done, refused}

-- QUERYCTRL: an id that is there, or with bit 31 the next higher one
unfoldable pub queryctrl_of : List ℕ → State → List ℕ → Answer
queryctrl_of s d a =
    cond (leb (present s) (queried_place s (word_at a 0))) (refused NoSuchControl d a)
    (done d (sets a 0 (control_reply s (queried_place s (word_at a 0)))))
