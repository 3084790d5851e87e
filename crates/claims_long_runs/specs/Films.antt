-- Films of any length on the bench sheet, of each stream: one buffer is handed in, a run begins, and then frame after frame arrives, is handed
-- over, and its buffer is handed in again.
use Rattle.std.specs.Prelude.{ℕ, zero, suc, ◌+◌, ◌≤◌, ◌<◌, ◌≡◌, List, [], ◌∷◌, ◌++◌}
use Rattle.wire_read.specs.Words.{word_at}
use Rattle.ioctl_table.specs.declared.refusals.Refusal.TheVariants.{RunFull}
use Rattle.stream_run.specs.Stream.{reduced}
use Rattle.stream_arrival.specs.declared.Arrival.{Arrival}
use Rattle.stream_arrival.specs.declared.Arrival.TheVariants.{Refused, Stored}
use Rattle.stream_arrival.specs.Arrivals.{run_limit}
use Rattle.stream_verdict.specs.declared.Verdict.{Verdict}
use Rattle.stream_verdict.specs.declared.Verdict.TheVariants.{Gaps, Complete}
use Rattle.stream_history.specs.Claims.{times}
use Rattle.claims.specs.Calls.{Kind, type_of, Call}
use Rattle.claims.specs.Calls.Call.{request, arrival}
use Rattle.claims.specs.Machine.{Session, Machine, more}
use Rattle.claims.specs.Words.{paper_in, handed_in}
use Rattle.claims_together.specs.Meets.{Meets}
use Rattle.bench_sheet.specs.Bench.{bench_sheet}
use Rattle.claims_shut_out.specs.Calls.{dark, buffer_of, run_of, reqbufs, qbuf, streamon, white, sets, asks, hands, begins, line21}

-- ---- the calls

-- those with which a run of a stream begins, buffer 0 waiting
abbrev pub begun : Kind → List Call
begun Kind.pictures = reqbufs ∷ qbuf 0 ∷ streamon ∷ []
begun Kind.captions = reqbufs ∷ sets ∷ asks ∷ hands ∷ begins ∷ []

-- a whole frame
abbrev pub whole_frame : Kind → List ℕ
whole_frame Kind.pictures = white
whole_frame Kind.captions = line21

-- it arrives, and is lent the memory of its stream as it was left: what is named has that length
abbrev pub comes : Kind → Call
comes k = arrival (type_of k) (whole_frame k) 0 0 (dark k)

-- one of a single byte: it is damaged
abbrev pub torn : Kind → Call
torn k = arrival (type_of k) (0 ∷ []) 0 0 (dark k)

-- DQBUF, QBUF and STREAMOFF
abbrev pub takes : Kind → Call
takes k = request 0xC0445611 (buffer_of k 0)

abbrev pub gives : Kind → Call
gives k = request 0xC044560F (buffer_of k 0)

abbrev pub stops : Kind → Call
stops k = request 0x40045613 (run_of k)

-- ---- the films

-- calls, and then others n times
unfoldable pub repeated : List Call → List Call → ℕ → List Call
repeated cs ds zero = cs
repeated cs ds (suc n) = repeated cs ds n ++ ds

-- n frames, each handed over
abbrev pub film : Kind → ℕ → List Call
film k n = repeated (begun k) (comes k ∷ takes k ∷ gives k ∷ []) n

-- i frames, one that is damaged, n frames more
abbrev pub lossy : Kind → ℕ → ℕ → List Call
lossy k i n = repeated (more (film k i) (torn k)) (comes k ∷ takes k ∷ gives k ∷ []) n

-- what a session answers to the next frame, and tells of the film when the run has ended
module _ (S : Session) (k : Kind) where
  abbrev pub next_answer : List Call → Arrival
  next_answer cs = S.arrival cs (type_of k) (whole_frame k) 0 0 (dark k)

  -- the number in the answer of the DQBUF behind it
  abbrev pub next_returned : List Call → ℕ
  next_returned cs = word_at (S.request (more cs (comes k)) 0xC0445611 (buffer_of k 0)).argument 44

  abbrev pub verdict_on : List Call → Verdict
  verdict_on cs = S.verdict (more cs (stops k)) (type_of k)

-- ---- what holds of them

pub record Long (S : Session) (k : Kind) : Type 0 where
  -- a frame before which n were accepted has n reduced for its number, when it is stored and when it is handed over
  pub stored : (n : ℕ) → n < run_limit → next_answer S k (film k n) ≡ Stored 0 (reduced n)
  pub returned : (n : ℕ) → n < run_limit → next_returned S k (film k n) ≡ reduced n
  -- behind the last of a run comes 75
  pub full : next_answer S k (film k run_limit) ≡ Refused RunFull
  -- a film of which all was handed over is COMPLETE, however long
  pub complete : (n : ℕ) → 0 < n → n ≤ run_limit → verdict_on S k (film k n) ≡ Complete
  -- and one that lost a frame has GAPS, whichever it was
  pub lost : (i n : ℕ) → 0 < i + n → i + n < run_limit → verdict_on S k (lossy k i n) ≡ Gaps

-- the same around 2 ^ 32 and at the limit
pub record Edges (S : Session) (k : Kind) : Type 0 where
  pub last_but_one : next_answer S k (film k 4294967294) ≡ Stored 0 4294967294
  pub last : next_answer S k (film k 4294967295) ≡ Stored 0 4294967295
  pub back_to_zero : next_answer S k (film k 4294967296) ≡ Stored 0 0
  pub handed_as_zero : next_returned S k (film k 4294967296) ≡ 0
  pub last_of_all : next_answer S k (film k 9223372036854775806) ≡ Stored 0 4294967294
  pub no_more : next_answer S k (film k 9223372036854775807) ≡ Refused RunFull
  -- 2 ^ 32 + 5 frames, all handed over; and one less, because the frame with 2 ^ 32 before it was lost
  pub all_there : verdict_on S k (film k 4294967301) ≡ Complete
  pub one_lost : verdict_on S k (lossy k 4294967296 4) ≡ Gaps

-- where a film is COMPLETE, each arrival of the run was handed over, and once: whatever the calls were, and by its place in the run
abbrev pub EachOnce : Type 0
EachOnce = (M : Machine) → Meets M → (s : List ℕ) (m : Kind → List ℕ) (k : Kind) (cs : List Call) → (M s m).verdict cs (type_of k) ≡ Complete
    → (n : ℕ) → n < (paper_in s (M s m) k cs).run.accepted → times n (handed_in s (M s m) k cs) ≡ 1

-- of every machine that meets the demands, and of each stream
abbrev pub LongFilms : Type 0
LongFilms = (M : Machine) → Meets M → (k : Kind) → Long (M bench_sheet dark) k × Edges (M bench_sheet dark) k
