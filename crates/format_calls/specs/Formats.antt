-- What QUERYCAP, ENUM_FMT and G_FMT answer.
use Rattle.std.specs.Prelude.{ℕ, cond, List, leb}
use Rattle.std.proofs.lemmas.List.Edits.{sets}
use Rattle.wire_read.specs.Words.{word_at}
use Rattle.ioctl_table.specs.declared.refusals.Refusal.TheVariants.{NoSuchIndex}
use Rattle.sheet_contents.specs.Contents.{format_count}
use Rattle.negotiation_rules.specs.Answer.{format_reply}
use Rattle.format_replies.specs.Replies.{capability_reply, description_reply}
use Rattle.device_state.specs.State.{State}
use Rattle.device_state.specs.Answers.{Answer, done, refused, typed}

-- QUERYCAP
unfoldable pub querycap_of : List ℕ → State → List ℕ → Answer
querycap_of s d a = done d (sets a 0 (capability_reply s))

-- ENUM_FMT: type, then an index that is there
unfoldable pub enum_fmt_of : List ℕ → State → List ℕ → Answer
enum_fmt_of s d a =
    typed 4 d a
    (cond (leb (format_count s) (word_at a 0)) (refused NoSuchIndex d a)
    (done d (sets a 0 (description_reply s (word_at a 0)))))

-- G_FMT of pictures: the format in force
unfoldable pub g_fmt_of : State → List ℕ → Answer
g_fmt_of d a = done d (sets a 0 (format_reply 1 d.format d.line d.size))
