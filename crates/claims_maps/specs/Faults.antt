-- Faults of the maps, said of any machine by what it gives back; none that has one meets the demands.
use Rattle.std.specs.Prelude.{ℕ, ◌+◌, ◌%◌, ◌<◌, ◌≡◌, ◌≢◌, cond, List, eqb}
use Rattle.wire_read.specs.Words.{word_at}
use Rattle.ioctl_table.specs.Table.{request_of}
use Rattle.ioctl_table.specs.declared.table.Call.TheVariants.{Reqbufs}
use Rattle.stream_maps.specs.declared.Change.TheVariants.{Map, Unmap}
use Rattle.claims.specs.Calls.{Kind, type_of, Call}
use Rattle.claims.specs.Machine.{Session, Machine}
use Rattle.claims_together.specs.Mapped.{accepted, TellsBuffer}
use Rattle.claims_shut_out.specs.Faults.{Out}

-- the flag 1 that a buffer is to have whose bytes are told as b: 1 if its place was not unmapped as often as it was mapped
abbrev pub flag_of : Session → Kind → List Call → List ℕ → ℕ
flag_of S k cs b = cond (eqb (accepted S k Map (word_at b 52) (word_at b 56) cs) (accepted S k Unmap (word_at b 52) (word_at b 56) cs)) 0 1

module _ (M : Machine) where
  -- some buffer request is accepted while a place of its stream was mapped more often than unmapped
  abbrev pub GrantedAnew : Type 0
  GrantedAnew = (s : List ℕ) × (m : Kind → List ℕ) × (k : Kind) × (cs : List Call) × (w : ℕ) × (a : List ℕ) × (o : ℕ) × (l : ℕ)
      × ((request_of w).call ≡ Reqbufs) × (word_at a 4 ≡ type_of k) × (((M s m).request cs w a).number ≡ 0)
      × (accepted (M s m) k Unmap o l cs < accepted (M s m) k Map o l cs)

  -- some buffer request of count 0 gives 16 though no place of its stream was mapped more often than unmapped
  abbrev pub HeldByOther : Type 0
  HeldByOther = (s : List ℕ) × (m : Kind → List ℕ) × (k : Kind) × (cs : List Call) × (w : ℕ) × (a : List ℕ)
      × ((request_of w).call ≡ Reqbufs) × (word_at a 4 ≡ type_of k) × (word_at a 0 ≡ 0) × (((M s m).request cs w a).number ≡ 16)
      × ((o l : ℕ) → accepted (M s m) k Map o l cs ≡ accepted (M s m) k Unmap o l cs)

  -- some place is mapped 256 times more often than unmapped
  abbrev pub MappedTooOften : Type 0
  MappedTooOften = (s : List ℕ) × (m : Kind → List ℕ) × (k : Kind) × (cs : List Call) × (o : ℕ) × (l : ℕ)
      × (accepted (M s m) k Unmap o l cs + 255 < accepted (M s m) k Map o l cs)

  -- some buffer is told with a flag 1 that is not that of its place
  abbrev pub Misflagged : Type 0
  Misflagged = (s : List ℕ) × (m : Kind → List ℕ) × (k : Kind) × (cs : List Call) × (w : ℕ) × (a : List ℕ)
      × TellsBuffer (request_of w).call × (word_at a 4 ≡ type_of k) × (((M s m).request cs w a).number ≡ 0)
      × (word_at ((M s m).request cs w a).argument 12 % 2 ≢ flag_of (M s m) k cs ((M s m).request cs w a).argument)

  -- some place is mapped whose length no buffer has that is told
  abbrev pub AnyLength : Type 0
  AnyLength = (s : List ℕ) × (m : Kind → List ℕ) × (k : Kind) × (cs : List Call) × (o : ℕ) × (l : ℕ) × ((M s m).change cs Map (type_of k) o l ≡ 0)
      × ((w : ℕ) (a : List ℕ) → TellsBuffer (request_of w).call → word_at a 4 ≡ type_of k → ((M s m).request cs w a).number ≡ 0 → word_at ((M s m).request cs w a).argument 56 ≢ l)

pub record MapFaults : Type 0 where
  pub granted_anew : Out GrantedAnew
  pub held_by_other : Out HeldByOther
  pub mapped_too_often : Out MappedTooOften
  pub misflagged : Out Misflagged
  pub any_length_law : Out AnyLength
