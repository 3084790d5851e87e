-- Any machine, seen from outside: what it gives back after the calls before, and what can then be read of it. No state is named here,
-- so whatever a claim says is said of calls and answers alone.
use Rattle.std.specs.Prelude.{ℕ, ◌≡◌, List, [], ◌∷◌, ◌++◌}
use Rattle.stream_words.specs.Stream.{Run}
use Rattle.plane_rules.specs.declared.Place.{Place}
use Rattle.stream_maps.specs.declared.Change.{Change}
use Rattle.stream_arrival.specs.declared.Arrival.{Arrival}
use Rattle.stream_verdict.specs.declared.Verdict.{Verdict}
use Rattle.claims.specs.Calls.{Call, Reply, Kind}
use Rattle.claims.specs.Calls.Call.{request, arrival, change}
use Rattle.claims.specs.Calls.Reply.{answered, taken, numbered}

-- What a request gives back: its number, and the argument as it is left.
pub record Given : Type 0 where
  pub number : ℕ
  pub argument : List ℕ

-- One opening and what follows it. Each list is that of the calls made since, oldest first.
pub record Session : Type 0 where
  -- the number that the opening gave back
  pub opening : ℕ
  -- what a request gives back: word and argument
  pub request : List Call → ℕ → List ℕ → Given
  -- what an arrival is answered: type, bytes, seconds, microseconds, and what is lent if not the memory of that stream
  pub arrival : List Call → ℕ → List ℕ → ℕ → ℕ → List ℕ → Arrival
  -- what it leaves of the memory that it is lent, whatever that is
  pub leaves : List Call → ℕ → List ℕ → ℕ → ℕ → List ℕ → List ℕ
  -- the number that a map or an unmap gives back: which it is, type, offset, length
  pub change : List Call → Change → ℕ → ℕ → ℕ → ℕ
  -- of each stream the memory and the counts of the last run; of each type the verdict
  pub memory : Kind → List Call → List ℕ
  pub counts : Kind → List Call → Run
  pub verdict : List Call → ℕ → Verdict
  -- where a plane lies in a frame: the frame's length, and which plane
  pub plane : List Call → ℕ → ℕ → Place

-- A machine: a session for every sheet, and every memory of each stream at opening.
abbrev pub Machine : Type 0
Machine = List ℕ → (Kind → List ℕ) → Session

-- one call more
abbrev pub more : List Call → Call → List Call
more h c = h ++ (c ∷ [])

-- what a call gives back
abbrev pub reply_in : Session → List Call → Call → Reply
reply_in S h (request w a) = answered (S.request h w a).number (S.request h w a).argument
reply_in S h (arrival t f x y other) = taken (S.arrival h t f x y other)
reply_in S h (change c t o l) = numbered (S.change h c t o l)

-- after these calls and after those everything that can be seen is the same
pub record Same (S : Session) (x y : List Call) : Type 0 where
  pub reply : (c : Call) → reply_in S x c ≡ reply_in S y c
  pub leaves : (t : ℕ) (f : List ℕ) (u v : ℕ) (other : List ℕ) → S.leaves x t f u v other ≡ S.leaves y t f u v other
  pub memory : (k : Kind) → S.memory k x ≡ S.memory k y
  pub counts : (k : Kind) → S.counts k x ≡ S.counts k y
  pub verdict : (t : ℕ) → S.verdict x t ≡ S.verdict y t
  pub plane : (n k : ℕ) → S.plane x n k ≡ S.plane y n k

-- a call leaves no trace: whatever follows is as if it had not been made
abbrev pub NoTrace : Session → List Call → Call → Type 0
NoTrace S cs c = (ds : List Call) → Same S (cs ++ c ∷ ds) (cs ++ ds)
