-- Faults of the number, the limit and the verdict, said of any machine by what it gives back; and devices that have them, but only in a run that
-- outlasts the number of a frame, each like ours but for one thing.
use Rattle.std.specs.Prelude.{ℕ, ◌+◌, ◌%◌, ◌≤◌, ◌<◌, min, ◌≡◌, ◌≢◌, cond, List, eqb, leb}
use Rattle.ioctl_table.specs.declared.refusals.Refusal.TheVariants.{RunFull}
use Rattle.stream_words.specs.Stream.{Run}
use Rattle.stream_run.specs.Stream.{reduced}
use Rattle.stream_arrival.specs.declared.Arrival.{Arrival}
use Rattle.stream_arrival.specs.declared.Arrival.TheVariants.{Refused, Ignored, Damaged, Dropped, Stored}
use Rattle.stream_arrival.specs.Arrivals.{run_limit}
use Rattle.stream_verdict.specs.declared.Verdict.{Verdict}
use Rattle.stream_verdict.specs.declared.Verdict.TheVariants.{Running, Blank, Gaps, Complete}
use Rattle.claims.specs.Calls.{Kind, type_of, Call}
use Rattle.claims.specs.Calls.Call.{arrival}
use Rattle.claims.specs.Machine.{Machine, more}
use Rattle.claims.specs.Table.{kind_of, arrival_number}
use Rattle.claims_shut_out.specs.Faults.{Out}
use Rattle.claims_shut_out.specs.Wrong.{ours, with_arrival, telling, Wrong}

module _ (M : Machine) where
  -- some stored frame has another number than the count that is told, reduced
  abbrev pub Misnumbered : Type 0
  Misnumbered = (s : List ℕ) × (m : Kind → List ℕ) × (k : Kind) × (cs : List Call) × (f : List ℕ) × (x : ℕ) × (y : ℕ) × (other : List ℕ) × (j : ℕ) × (n : ℕ)
      × ((M s m).arrival cs (type_of k) f x y other ≡ Stored j n) × (n ≢ reduced ((M s m).counts k cs).accepted)

  -- some arrival is answered 75 before the limit
  abbrev pub FullTooSoon : Type 0
  FullTooSoon = (s : List ℕ) × (m : Kind → List ℕ) × (k : Kind) × (cs : List Call) × (f : List ℕ) × (x : ℕ) × (y : ℕ) × (other : List ℕ)
      × ((M s m).arrival cs (type_of k) f x y other ≡ Refused RunFull) × (((M s m).counts k cs).accepted < run_limit)

  -- some arrival of a run is not refused behind the limit
  abbrev pub FullTooLate : Type 0
  FullTooLate = (s : List ℕ) × (m : Kind → List ℕ) × (k : Kind) × (cs : List Call) × (f : List ℕ) × (x : ℕ) × (y : ℕ) × (other : List ℕ)
      × ((M s m).verdict cs (type_of k) ≡ Running) × (run_limit ≤ ((M s m).counts k cs).accepted) × (arrival_number ((M s m).arrival cs (type_of k) f x y other) ≡ 0)

  -- some film is COMPLETE though fewer were handed over than accepted
  abbrev pub LossOverlooked : Type 0
  LossOverlooked = (s : List ℕ) × (m : Kind → List ℕ) × (k : Kind) × (cs : List Call)
      × ((M s m).verdict cs (type_of k) ≡ Complete) × (((M s m).counts k cs).handed ≢ ((M s m).counts k cs).accepted)

  -- some arrival that is taken in a run does not raise the count that is told by one
  abbrev pub Miscounted : Type 0
  Miscounted = (s : List ℕ) × (m : Kind → List ℕ) × (k : Kind) × (cs : List Call) × (f : List ℕ) × (x : ℕ) × (y : ℕ) × (other : List ℕ)
      × ((M s m).verdict cs (type_of k) ≡ Running) × (arrival_number ((M s m).arrival cs (type_of k) f x y other) ≡ 0)
      × (((M s m).counts k (more cs (arrival (type_of k) f x y other))).accepted ≢ ((M s m).counts k cs).accepted + 1)

pub record LateFaults : Type 0 where
  pub misnumbered : Out Misnumbered
  pub full_too_soon : Out FullTooSoon
  pub full_too_late : Out FullTooLate
  pub loss_overlooked : Out LossOverlooked
  pub miscounted : Out Miscounted

-- ---- devices that have them

-- a stored frame with another number
abbrev pub numbered : (ℕ → ℕ) → Arrival → Run → Arrival
numbered g (Refused why) r = Refused why
numbered g Ignored r = Ignored
numbered g Damaged r = Damaged
numbered g Dropped r = Dropped
numbered g (Stored k n) r = Stored k (g r.accepted)

-- the number by another rule from the count
abbrev pub numbering : (ℕ → ℕ) → Machine
numbering g s m = with_arrival (ours s m) (λ cs t f x y other. numbered g ((ours s m).arrival cs t f x y other) ((ours s m).counts (kind_of t) cs))

-- it stays at the last
abbrev pub saturating : Machine
saturating = numbering (λ n. min n 4294967295)

-- it goes back a step early: 4,294,967,295 is never given
abbrev pub wraps_early : Machine
wraps_early = numbering (λ n. n % 4294967295)

-- what the run would accept is answered 75 once this many were
abbrev pub full_at : ℕ → Arrival → Run → Arrival
full_at l (Refused why) r = Refused why
full_at l Ignored r = Ignored
full_at l Damaged r = cond (leb l r.accepted) (Refused RunFull) Damaged
full_at l Dropped r = cond (leb l r.accepted) (Refused RunFull) Dropped
full_at l (Stored k n) r = cond (leb l r.accepted) (Refused RunFull) (Stored k n)

-- another limit, by the type of a stream
abbrev pub limiting : (ℕ → ℕ) → Machine
limiting l s m = with_arrival (ours s m) (λ cs t f x y other. full_at (l t) ((ours s m).arrival cs t f x y other) ((ours s m).counts (kind_of t) cs))

-- the captions have the old one
abbrev pub old_limit : Machine
old_limit = limiting (λ t. cond (eqb t 6) 4294967295 run_limit)

-- it is one less
abbrev pub one_less : Machine
one_less = limiting (λ t. 9223372036854775806)

-- there is none: what ours answers 75 is dropped
abbrev pub endless : Machine
endless s m = with_arrival (ours s m) (λ cs t f x y other. cond (eqb (arrival_number ((ours s m).arrival cs t f x y other)) 75) Dropped ((ours s m).arrival cs t f x y other))

-- the verdict by the counts reduced
abbrev pub judged : Verdict → Run → Verdict
judged Running r = Running
judged Blank r = Blank
judged Gaps r = cond (eqb (reduced r.handed) (reduced r.accepted)) Complete Gaps
judged Complete r = Complete

abbrev pub judged_reduced : Machine
judged_reduced s m = telling (ours s m) (ours s m).memory (λ cs t. judged ((ours s m).verdict cs t) ((ours s m).counts (kind_of t) cs)) (ours s m).counts

-- counts of 32 bits are told
abbrev pub short_run : Run → Run
short_run r =
    record {
      ran = r.ran;
      accepted = reduced r.accepted;
      handed = reduced r.handed;
      damaged = reduced r.damaged;
      dropped = reduced r.dropped;
      discarded = r.discarded;
    }

abbrev pub short_counts : Machine
short_counts s m = telling (ours s m) (ours s m).memory (ours s m).verdict (λ k cs. short_run ((ours s m).counts k cs))

pub record LateDevices : Type 0 where
  pub saturating : Wrong Misnumbered saturating
  pub wraps_early_law : Wrong Misnumbered wraps_early
  pub old_limit_law : Wrong FullTooSoon old_limit
  pub one_less_law : Wrong FullTooSoon one_less
  pub endless : Wrong FullTooLate endless
  pub judged_reduced_law : Wrong LossOverlooked judged_reduced
  pub short_counts_law : Wrong Miscounted short_counts
