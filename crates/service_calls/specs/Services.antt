-- What the calls about services answer: formats of sliced lines, and what the device can do there.
use Rattle.std.specs.Prelude.{ℕ, cond, not, List, eqb}
use Rattle.std.proofs.lemmas.List.Edits.{sets}
use Rattle.wire_read.specs.Words.{word_at}
use Rattle.ioctl_table.specs.Refusal.{errno_of}
use Rattle.ioctl_table.specs.declared.refusals.Refusal.TheVariants.{WrongType, BuffersExist}
use Rattle.service_replies.specs.Services.{asked_services, services_reply, services_capability_reply}

-- the number given back, the services in force after it, the argument after it
pub record ServicesAnswer : Type 0 where
  pub number : ℕ
  pub lines : List ℕ
  pub argument : List ℕ

abbrev pub services_answer : ℕ → List ℕ → List ℕ → ServicesAnswer
services_answer n l a = record { number = n; lines = l; argument = a }

-- G_FMT: the services in force
unfoldable pub g_services_of : ℕ → List ℕ → List ℕ → ServicesAnswer
g_services_of kind lines a = services_answer 0 lines (sets a 0 (services_reply kind lines))

-- S_FMT, with so many buffers granted: none may be
unfoldable pub s_services_of : ℕ → ℕ → List ℕ → List ℕ → ServicesAnswer
s_services_of kind granted lines a =
    cond (not (eqb granted 0)) (services_answer (errno_of BuffersExist) lines a)
    (services_answer 0 (asked_services a) (sets a 0 (services_reply kind (asked_services a))))

-- TRY_FMT
unfoldable pub try_services_of : ℕ → List ℕ → List ℕ → ServicesAnswer
try_services_of kind lines a = services_answer 0 lines (sets a 0 (services_reply kind (asked_services a)))

-- G_SLICED_VBI_CAP: only for type 6, sliced capture, named at 100
unfoldable pub services_capability_of : List ℕ → List ℕ → ServicesAnswer
services_capability_of lines a =
    cond (not (eqb (word_at a 100) 6)) (services_answer (errno_of WrongType) lines a)
    (services_answer 0 lines (sets a 0 (services_capability_reply 6)))
