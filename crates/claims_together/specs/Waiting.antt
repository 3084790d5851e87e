-- A stopped stream told from an idle one: what a client may read from the number that DQBUF gives, told from the calls and their numbers
-- alone. Neither the table nor the paper is used here.
use Rattle.std.specs.Prelude.{ℕ, ◌<◌, ◌≡◌, ◌⊎◌, List, ◌∷◌, ◌++◌, length}
use Rattle.wire_read.specs.Words.{word_at}
use Rattle.ioctl_table.specs.Table.{request_of}
use Rattle.ioctl_table.specs.declared.table.Call.{Call as Asked}
use Rattle.ioctl_table.specs.declared.table.Call.TheVariants.{Reqbufs, Dqbuf, Streamon, Streamoff}
use Rattle.stream_history.specs.Claims.{◌⇔◌}
use Rattle.claims.specs.Calls.{Kind, type_of, Call}
use Rattle.claims.specs.Calls.Call.{request}
use Rattle.claims.specs.Machine.{Session, more}
use Rattle.claims.specs.Words.{type_at}

-- a run begins with a STREAMON
abbrev pub Starts : Asked → Type 0
Starts c = c ≡ Streamon

-- it ends with a stop, STREAMOFF, or a buffer request, REQBUFS
abbrev pub Ends : Asked → Type 0
Ends c = (c ≡ Streamoff) ⊎ (c ≡ Reqbufs)

-- a buffer request says how many buffers there are
abbrev pub Grants : Asked → Type 0
Grants c = c ≡ Reqbufs

module _ (S : Session) (k : Kind) where
  -- a request of this sort that names the stream, accepted after the calls of h
  abbrev pub Accepted : (Asked → Type 0) → List Call → ℕ → List ℕ → Type 0
  Accepted Sort h w a = Sort (request_of w).call × (word_at a (type_at (request_of w).call) ≡ type_of k) × ((S.request h w a).number ≡ 0)

  -- among calls that come after those of h none of this sort is accepted
  abbrev pub NoneOf : (Asked → Type 0) → List Call → List Call → Type 0
  NoneOf Sort h cs = (x : List Call) (w : ℕ) (a : List ℕ) (y : List Call) → cs ≡ x ++ request w a ∷ y → Accepted Sort (h ++ x) w a → ⊥

  -- A call of one sort was accepted, and none of the other since.
  pub record InForce (Sort Other : Asked → Type 0) (cs : List Call) : Type 0 where
    pub front : List Call
    pub word : ℕ
    pub argument : List ℕ
    pub back : List Call
    pub is : cs ≡ front ++ request word argument ∷ back
    pub accepted : Accepted Sort front word argument
    pub since : NoneOf Other (more front (request word argument)) back

  -- a run is on: a STREAMON was accepted, and no stop and no buffer request since
  abbrev pub RunOn : List Call → Type 0
  RunOn cs = InForce Starts Ends cs

  -- there are buffers: the last accepted buffer request was answered with some
  abbrev pub BuffersExist : List Call → Type 0
  BuffersExist cs = (r : InForce Grants Grants cs) × (0 < word_at (S.request r.front r.word r.argument).argument 0)

-- ---- the claim

pub record StoppedOrIdle (S : Session) (k : Kind) : Type 0 where
  -- 11 means "soon": a DQBUF is answered 11 only while a run is on and there are buffers
  pub soon : (cs : List Call) (w : ℕ) (a : List ℕ) → (request_of w).call ≡ Dqbuf → word_at a 4 ≡ type_of k → (S.request cs w a).number ≡ 11 → RunOn S k cs × BuffersExist S k cs
  -- after an accepted stop or buffer request every DQBUF, its argument of the right length, gives 22, until a STREAMON is accepted
  pub stopped : (cs : List Call) (w : ℕ) (a : List ℕ) → InForce S k Ends Starts cs → (request_of w).call ≡ Dqbuf → length a ≡ 68 → word_at a 4 ≡ type_of k → (S.request cs w a).number ≡ 22
  -- a DQBUF with nothing wrong in its argument gives 22 exactly while no run is on
  pub exactly : (cs : List Call) (w : ℕ) (a : List ℕ) → (request_of w).call ≡ Dqbuf → length a ≡ 68 → word_at a 4 ≡ type_of k → word_at a 48 ≡ 1
      → ((S.request cs w a).number ≡ 22) ⇔ (RunOn S k cs → ⊥)
  -- and while one is on it is accepted, or to be asked again
  pub running : (cs : List Call) (w : ℕ) (a : List ℕ) → RunOn S k cs → (request_of w).call ≡ Dqbuf → length a ≡ 68 → word_at a 4 ≡ type_of k → word_at a 48 ≡ 1
      → ((S.request cs w a).number ≡ 0) ⊎ ((S.request cs w a).number ≡ 11)
