-- The faults of long runs, refuted.
use mathlib.Core.Path.{◌≡◌, refl, sym, ap, ap₂, ◌∙◌}
use mathlib.Core.Bool.{Bool, true, false, cond, not, ◌&&◌}
use Prim.Native.Nat.{ℕ, ◌+◌, ◌≤◌}
use native.Mathlib.Omega.{arith}
use mathlib.Core.List.{List, [], ◌∷◌}
use lib.Dec.{eqb, leb}
use lib.ListN.{length}
use borrow.Author.Tests.{leb-true, le-leb}
use Rattle.ioctl_table.specs.declared.refusals.Refusal.TheVariants.{Closed, WrongType, MemoryLength, RunFull}
use Rattle.stream_words.specs.declared.Time.{Time}
use Rattle.stream_words.specs.Stream.{Run}
use Rattle.stream_run.specs.Stream.{reduced}
use Rattle.stream_arrival.specs.declared.Arrival.{Arrival}
use Rattle.stream_arrival.specs.declared.Arrival.TheVariants.{Refused, Ignored, Damaged, Dropped, Stored}
use Rattle.stream_arrival.specs.Arrivals.{run_limit}
use Rattle.stream_history.specs.Paper.{Paper, step}
use Rattle.stream_history.specs.Paper.Event.{whole, damaged, idle}
use Rattle.claims.specs.Calls.{Kind, type_of, Call, arrival_time}
use Rattle.claims.specs.Calls.Call.{arrival}
use Rattle.claims.specs.Machine.{Session, more}
use Rattle.claims.specs.Words.{arrival_told, told, seen_in, paper_in}
use Rattle.claims.specs.Desk.{desk_in}
use Rattle.claims.specs.Table.{Check, check, kind_of, no_stream, refused_by, placed_on, whole_on, arrived_on, arrival_number}
use Rattle.claims.specs.Demands.{Demand1}
use Rattle.claims.proofs.Sessions.{paper_more, told_arrival, arrived_number}
use Rattle.claims_shut_out.specs.Faults.{Out}
use Rattle.claims_long_runs.specs.Late.{Misnumbered, FullTooSoon, FullTooLate, LossOverlooked, Miscounted, LateFaults}

-- the number of a stored arrival, n for any other
abbrev number_or : ℕ → Arrival → ℕ
number_or n (Refused why) = n
number_or n Ignored = n
number_or n Damaged = n
number_or n Dropped = n
number_or n (Stored k m) = m

-- a refusal has none
refused_or : (n : ℕ) (cs : List Check) (r : Arrival) → number_or n r ≡ n → number_or n (refused_by cs r) ≡ n
refused_or n [] r h = h
refused_or n (c ∷ cs) r h = go c.holds (refused_or n cs r h)
  where
    go : (x : Bool) → number_or n (refused_by cs r) ≡ n → number_or n (cond x (Refused c.why) (refused_by cs r)) ≡ n
    go true on = refl
    go false on = on

-- what is stored has the count reduced
arrived_or : (k : Kind) (p : Paper) (services f : List ℕ) (t : Time) → number_or (reduced p.run.accepted) (arrived_on k p services f t) ≡ reduced p.run.accepted
arrived_or k p services f t = go p.running (whole_on k p.size services f t) p.incoming
  where
    go : (x y : Bool) (i : List ℕ) → number_or (reduced p.run.accepted) (cond (not x) Ignored (cond y (placed_on i (reduced p.run.accepted)) Damaged)) ≡ reduced p.run.accepted
    go false y i = refl
    go true false i = refl
    go true true [] = refl
    go true true (j ∷ i) = refl

-- the tests of an arrival, by what each finds
abbrev four : Bool → Bool → Bool → Bool → List Check
four a b c e = check a Closed ∷ check b WrongType ∷ check c MemoryLength ∷ check e RunFull ∷ []

-- 75 is given only by the last of them
by_last : (a b c x y : Bool) (r : Arrival) → arrival_number r ≡ 0 → arrival_number (refused_by (four a b c (x && y)) r) ≡ 75 → y ≡ true
by_last true b c x y r z h = absurd (omega (arith, h))
by_last false true c x y r z h = absurd (omega (arith, h))
by_last false false true x y r z h = absurd (omega (arith, h))
by_last false false false true true r z h = refl
by_last false false false true false r z h = absurd (omega (arith, h, z))
by_last false false false false y r z h = absurd (omega (arith, h, z))

-- and where it holds there is a refusal
is_refused : (a b c : Bool) (r : Arrival) → arrival_number (refused_by (four a b c true) r) ≡ 0 → ⊥
is_refused true b c r h = omega (arith, h)
is_refused false true c r h = omega (arith, h)
is_refused false false true r h = omega (arith, h)
is_refused false false false r h = omega (arith, h)

-- with 75 where it alone does
last_alone : (a b c e : Bool) (r : Arrival) → a ≡ false → b ≡ false → c ≡ false → e ≡ true → refused_by (four a b c e) r ≡ Refused RunFull
last_alone a b c e r h i j k = rw (h, i, j, k)

-- the stream of its type
same_kind : (k : Kind) → kind_of (type_of k) ≡ k
same_kind Kind.pictures = refl
same_kind Kind.captions = refl

pub is_stream : (k : Kind) → no_stream (type_of k) ≡ false
is_stream Kind.pictures = refl
is_stream Kind.captions = refl

-- an arrival at a stream is answered by the paper of that stream
module _ (s : List ℕ) (m : Kind → List ℕ) (S : Session) (d : Demand1 s m S) (k : Kind) (cs : List Call) (f : List ℕ) (x y : ℕ) (other : List ℕ) where
  -- the first three tests, and what is answered where none holds
  abbrev shut : Bool
  shut = not (eqb S.opening 0)

  abbrev none : Bool
  none = no_stream (type_of k)

  abbrev another : Kind → Bool
  another j = not (eqb (length other) (length (m j)))

  abbrev rest : Kind → Arrival
  rest j = arrived_on j (paper_in s S j cs) (desk_in s S cs).services f (arrival_time x y)

  -- with whether the run is full
  abbrev tested : Kind → Bool → Arrival
  tested j full = refused_by (four shut none (another j) full) (rest j)

  abbrev at_limit : Bool
  at_limit = leb run_limit (paper_in s S k cs).run.accepted

  by_paper : S.arrival cs (type_of k) f x y other ≡ tested k ((paper_in s S k cs).running && at_limit)
  by_paper =
      d.arrivals cs (type_of k) f x y other
      ∙ ap (λ (j : Kind). tested j ((paper_in s S j cs).running && leb run_limit (paper_in s S j cs).run.accepted)) (same_kind k)

  -- a stored one has the count reduced
  is_count : (j n : ℕ) → S.arrival cs (type_of k) f x y other ≡ Stored j n → n ≡ reduced (paper_in s S k cs).run.accepted
  is_count j n e =
      ap (number_or (reduced (paper_in s S k cs).run.accepted)) (sym e ∙ by_paper)
      ∙ refused_or (reduced (paper_in s S k cs).run.accepted) (four shut none (another k) ((paper_in s S k cs).running && at_limit)) (rest k) (arrived_or k (paper_in s S k cs) (desk_in s S cs).services f (arrival_time x y))

  -- 75 comes behind the limit
  is_full : S.arrival cs (type_of k) f x y other ≡ Refused RunFull → run_limit ≤ (paper_in s S k cs).run.accepted
  is_full e =
      leb-true run_limit (paper_in s S k cs).run.accepted
      (by_last shut none (another k) (paper_in s S k cs).running at_limit (rest k) (arrived_number k (paper_in s S k cs) (desk_in s S cs).services f (arrival_time x y)) (ap arrival_number (sym by_paper ∙ e)))

  -- in a run that is full an arrival gets it that passes the other tests
  pub full_there : shut ≡ false → none ≡ false → another k ≡ false → ((paper_in s S k cs).running && at_limit) ≡ true → S.arrival cs (type_of k) f x y other ≡ Refused RunFull
  full_there a b c e = by_paper ∙ last_alone shut none (another k) ((paper_in s S k cs).running && at_limit) (rest k) a b c e

  -- and no arrival is taken
  not_taken : (paper_in s S k cs).running ≡ true → run_limit ≤ (paper_in s S k cs).run.accepted → arrival_number (S.arrival cs (type_of k) f x y other) ≡ 0 → ⊥
  not_taken on l e =
      let full : ((paper_in s S k cs).running && at_limit) ≡ true = ap₂ (λ (u v : Bool). u && v) on (le-leb run_limit (paper_in s S k cs).run.accepted l) in
      is_refused shut none (another k) (rest k) (ap (λ (u : Bool). arrival_number (tested k u)) (sym full) ∙ ap arrival_number (sym by_paper) ∙ e)

misnumbered : Out Misnumbered
misnumbered M (s, m, k, cs, f, x, y, other, j, n, e, h) meets =
    h (is_count s m (M s m) (meets.demand_1 s m) k cs f x y other j n e ∙ ap (λ (r : Run). reduced r.accepted) (sym ((meets.counts s m k).counted cs)))

full_too_soon : Out FullTooSoon
full_too_soon M (s, m, k, cs, f, x, y, other, e, h) meets =
    omega (arith, h, is_full s m (M s m) (meets.demand_1 s m) k cs f x y other e, ap (λ (r : Run). r.accepted) ((meets.counts s m k).counted cs))

full_too_late : Out FullTooLate
full_too_late M (s, m, k, cs, f, x, y, other, on, h, e) meets =
    not_taken s m (M s m) (meets.demand_1 s m) k cs f x y other (((meets.counts s m k).running cs).0 on) (omega (arith, h, ap (λ (r : Run). r.accepted) ((meets.counts s m k).counted cs))) e

loss_overlooked : Out LossOverlooked
loss_overlooked M (s, m, k, cs, e, h) meets =
    let counted : (M s m).counts k cs ≡ (paper_in s (M s m) k cs).run = (meets.counts s m k).counted cs in
    h (ap (λ (r : Run). r.handed) counted ∙ (((meets.demand_3 s m k).complete cs).0 e).5 ∙ sym (ap (λ (r : Run). r.accepted) counted))

-- an arrival that is accepted is whole or damaged, and counts
counts_one : (k : Kind) (p : Paper) (services f : List ℕ) (x y : ℕ) → (step p (arrival_told k p services f x y)).run.accepted ≡ p.run.accepted + 1
counts_one k p services f x y = go (whole_on k p.size services f (arrival_time x y))
  where
    go : (v : Bool) → (step p (cond v (whole f (arrival_time x y)) damaged)).run.accepted ≡ p.run.accepted + 1
    go true = refl
    go false = refl

miscounted : Out Miscounted
miscounted M (s, m, k, cs, f, x, y, other, on, e, h) meets =
    let S : Session = M s m in
    let c : Call = arrival (type_of k) f x y other in
    let p : Paper = paper_in s S k cs in
    let running : p.running ≡ true = ((meets.counts s m k).running cs).0 on in
    let tells : told k p c (seen_in s S cs c) ≡ arrival_told k p (desk_in s S cs).services f x y =
    told_arrival s S k cs p f x y other e ∙ ap (λ (b : Bool). cond b (arrival_told k p (desk_in s S cs).services f x y) idle) running in
    h (ap (λ (r : Run). r.accepted) ((meets.counts s m k).counted (more cs c)) ∙ ap (λ (q : Paper). q.run.accepted) (paper_more s S k cs c ∙ ap (step p) tells)
    ∙ counts_one k p (desk_in s S cs).services f x y ∙ ap (λ (r : Run). r.accepted + 1) (sym ((meets.counts s m k).counted cs)))

pub late_faults : LateFaults
late_faults = record {
  misnumbered = misnumbered;
  full_too_soon = full_too_soon;
  full_too_late = full_too_late;
  loss_overlooked = loss_overlooked;
  miscounted = miscounted;
}
