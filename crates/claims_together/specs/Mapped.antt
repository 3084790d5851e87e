-- What is mapped is not granted anew: told from the calls and their answers alone. Neither the table nor the paper is used here: a place in the memory
-- of a stream is an offset and a length, as QUERYBUF tells them and as a map and an unmap name them.
use Rattle.std.specs.Prelude.{ℕ, ◌+◌, ◌%◌, ◌≤◌, ◌<◌, ◌≡◌, ◌⊎◌, Bool, false, cond, ◌&&◌, List, [], ◌∷◌, eqb, length}
use Rattle.wire_read.specs.Words.{word_at}
use Rattle.ioctl_table.specs.Table.{request_of}
use Rattle.ioctl_table.specs.declared.table.Call.{Call as Asked}
use Rattle.ioctl_table.specs.declared.table.Call.TheVariants.{Reqbufs, Querybuf, Qbuf, Dqbuf}
use Rattle.stream_maps.specs.declared.Change.{Change}
use Rattle.stream_maps.specs.declared.Change.TheVariants.{Map, Unmap}
use Rattle.stream_history.specs.Paper.{same_sort}
use Rattle.claims.specs.Calls.{Kind, type_of, Call}
use Rattle.claims.specs.Calls.Call.{request, arrival, change}
use Rattle.claims.specs.Machine.{Session, more}

module _ (S : Session) (k : Kind) (c : Change) (o l : ℕ) where
  -- a call made after those of h is a map of this place in the memory of the stream (or an unmap, whichever c is), and accepted
  abbrev pub is_one : List Call → Call → Bool
  is_one h (request w a) = false
  is_one h (arrival t f x y other) = false
  is_one h (change d t p n) = same_sort c d && (eqb t (type_of k) && (eqb p o && (eqb n l && eqb (S.change h d t p n) 0)))

  -- how many of these calls are, made after those of h
  abbrev pub accepted_from : List Call → List Call → ℕ
  accepted_from h [] = 0
  accepted_from h (x ∷ cs) = cond (is_one h x) 1 0 + accepted_from (more h x) cs

  -- how many of all calls since the opening
  abbrev pub accepted : List Call → ℕ
  accepted cs = accepted_from [] cs

-- QUERYBUF, QBUF and DQBUF answer with a buffer: its flags at 12, its place at 52 and 56
abbrev pub TellsBuffer : Asked → Type 0
TellsBuffer c = (c ≡ Querybuf) ⊎ ((c ≡ Qbuf) ⊎ (c ≡ Dqbuf))

pub record MapsKept (S : Session) (k : Kind) : Type 0 where
  -- a place is never unmapped more often than it was mapped, and mapped at most 255 times more often
  pub least : (cs : List Call) (o l : ℕ) → accepted S k Unmap o l cs ≤ accepted S k Map o l cs
  pub most : (cs : List Call) (o l : ℕ) → accepted S k Map o l cs ≤ accepted S k Unmap o l cs + 255
  -- NEVER GRANTED ANEW: when a buffer request is accepted, every place has been unmapped as often as it was mapped
  pub unmapped : (cs : List Call) (w : ℕ) (a : List ℕ) → (request_of w).call ≡ Reqbufs → word_at a 4 ≡ type_of k → (S.request cs w a).number ≡ 0
      → (o l : ℕ) → accepted S k Map o l cs ≡ accepted S k Unmap o l cs
  -- while one was mapped more often, a buffer request of any count gives 16, if nothing is wrong with its argument
  pub held : (cs : List Call) (w : ℕ) (a : List ℕ) (o l : ℕ) → accepted S k Unmap o l cs < accepted S k Map o l cs
      → (request_of w).call ≡ Reqbufs → length a ≡ 20 → word_at a 4 ≡ type_of k → word_at a 8 ≡ 1 → (S.request cs w a).number ≡ 16
  -- and one of count 0 gives 16 only then: maps of the other stream do not matter
  pub only : (cs : List Call) (w : ℕ) (a : List ℕ) → (request_of w).call ≡ Reqbufs → word_at a 4 ≡ type_of k → word_at a 0 ≡ 0 → (S.request cs w a).number ≡ 16
      → (o : ℕ) × (l : ℕ) × (accepted S k Unmap o l cs < accepted S k Map o l cs)
  -- a buffer that is told has flag 1 exactly while its place was mapped more often than unmapped
  pub flagged : (cs : List Call) (w : ℕ) (a : List ℕ) → TellsBuffer (request_of w).call → word_at a 4 ≡ type_of k → (S.request cs w a).number ≡ 0
      → word_at (S.request cs w a).argument 12 % 2
      ≡ cond (eqb (accepted S k Map (word_at (S.request cs w a).argument 52) (word_at (S.request cs w a).argument 56) cs)
      (accepted S k Unmap (word_at (S.request cs w a).argument 52) (word_at (S.request cs w a).argument 56) cs)) 0 1
  -- and the place that is told can be mapped, until it is mapped 255 times more often than unmapped: then it gives 75
  pub mappable : (cs : List Call) (w : ℕ) (a : List ℕ) → TellsBuffer (request_of w).call → word_at a 4 ≡ type_of k → (S.request cs w a).number ≡ 0
      → S.change cs Map (type_of k) (word_at (S.request cs w a).argument 52) (word_at (S.request cs w a).argument 56)
      ≡ cond (eqb (accepted S k Map (word_at (S.request cs w a).argument 52) (word_at (S.request cs w a).argument 56) cs)
      (accepted S k Unmap (word_at (S.request cs w a).argument 52) (word_at (S.request cs w a).argument 56) cs + 255)) 75 0
  -- no other place is ever mapped or unmapped: one that is accepted is told by QUERYBUF of some index below 32
  pub told : (cs : List Call) (c : Change) (o l : ℕ) → S.change cs c (type_of k) o l ≡ 0
      → (j : ℕ) × (j < 32) × ((w : ℕ) (a : List ℕ) → (request_of w).call ≡ Querybuf → length a ≡ 68 → word_at a 4 ≡ type_of k → word_at a 0 ≡ j
      → ((S.request cs w a).number ≡ 0) × (word_at (S.request cs w a).argument 52 ≡ o) × (word_at (S.request cs w a).argument 56 ≡ l))
