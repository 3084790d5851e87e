-- A device for each fault of long runs: where it shows.
use mathlib.Core.Path.{◌≡◌, ap, ap₂, ◌∙◌}
use Prim.Native.Nat.{ℕ, ◌≤◌}
use mathlib.Core.Bool.{cond}
use lib.Dec.{eqb}
use native.Mathlib.Omega.{arith}
use mathlib.Core.List.{List, [], ◌∷◌}
use Rattle.stream_words.specs.Stream.{Run}
use Rattle.stream_arrival.specs.declared.Arrival.{Arrival}
use Rattle.stream_arrival.specs.declared.Arrival.TheVariants.{Dropped}
use Rattle.stream_arrival.specs.Arrivals.{run_limit}
use Rattle.stream_history.specs.Paper.{Paper, step}
use Rattle.stream_history.specs.Paper.Event.{ended}
use Rattle.claims.specs.Calls.{Kind, Call}
use Rattle.claims.specs.Machine.{Session, more}
use Rattle.claims.specs.Words.{paper_in}
use Rattle.claims.specs.Table.{arrival_number}
use Rattle.claims.specs.Demands.{Demand1, Answers, Counts}
use Rattle.claims_together.proofs.Meets.{device_meets}
use Rattle.bench_sheet.specs.Bench.{bench_sheet}
use Rattle.claims_shut_out.specs.Calls.{dark, white, line21}
use Rattle.claims_shut_out.specs.Wrong.{ours}
use Rattle.claims_shut_out.proofs.Instances.{wrong}
use Rattle.claims_long_runs.specs.Films.{begun, comes, torn, takes, gives, stops, repeated, film}
use Rattle.claims_long_runs.specs.Late.{Misnumbered, FullTooSoon, FullTooLate, LossOverlooked, Miscounted, numbered, full_at, judged, saturating, wraps_early, old_limit, one_less, endless, judged_reduced, short_counts, LateDevices}
use Rattle.claims_long_runs.proofs.Rounds.{in_run, At, after_comes, after_stops, at_first}
use Rattle.claims_long_runs.proofs.Films.{rounds, tears, filmed, some_lost, long_films}
use Rattle.claims_long_runs.proofs.Late.{late_faults}

-- our device, on the bench
abbrev S : Session
S = ours bench_sheet dark

one : Demand1 bench_sheet dark S
one = device_meets.demand_1 bench_sheet dark

answers : Answers bench_sheet dark S
answers = device_meets.answers bench_sheet dark

counts : (k : Kind) → Counts bench_sheet S k
counts = device_meets.counts bench_sheet dark

-- its counts after a film
counted : (k : Kind) (n : ℕ) → n ≤ run_limit → S.counts k (film k n) ≡ (in_run k n n 0).run
counted k n l = (counts k).counted (film k n) ∙ ap (λ (p : Paper). p.run) (filmed S one answers counts k n l).paper

accepted : (k : Kind) (n : ℕ) → n ≤ run_limit → (S.counts k (film k n)).accepted ≡ n
accepted k n l = ap (λ (r : Run). r.accepted) (counted k n l)

-- behind 2 ^ 32 arrivals the number would still be the last
saturates : Misnumbered saturating
saturates = (
  bench_sheet,
  dark,
  Kind.pictures,
  film Kind.pictures 4294967296,
  white,
  0,
  0,
  dark Kind.pictures,
  0,
  4294967295,
  ap₂ (numbered _) (long_films ours device_meets Kind.pictures).1.back_to_zero (counted Kind.pictures 4294967296 (omega arith)),
  λ e. omega (arith, e, accepted Kind.pictures 4294967296 (omega arith)),
)

-- behind 2 ^ 32 - 1 it would be 0 again
wraps_early_law : Misnumbered wraps_early
wraps_early_law = (
  bench_sheet,
  dark,
  Kind.pictures,
  film Kind.pictures 4294967295,
  white,
  0,
  0,
  dark Kind.pictures,
  0,
  0,
  ap₂ (numbered _) (long_films ours device_meets Kind.pictures).1.last (counted Kind.pictures 4294967295 (omega arith)),
  λ e. omega (arith, e, accepted Kind.pictures 4294967295 (omega arith)),
)

-- a caption frame behind 2 ^ 32 - 1 of them
old_limit_law : FullTooSoon old_limit
old_limit_law = (
  bench_sheet,
  dark,
  Kind.captions,
  film Kind.captions 4294967295,
  line21,
  0,
  0,
  dark Kind.captions,
  ap₂ (full_at _) (long_films ours device_meets Kind.captions).1.last (counted Kind.captions 4294967295 (omega arith)),
  omega (arith, accepted Kind.captions 4294967295 (omega arith)),
)

-- the last that a run takes
one_less_law : FullTooSoon one_less
one_less_law = (
  bench_sheet,
  dark,
  Kind.pictures,
  film Kind.pictures 9223372036854775806,
  white,
  0,
  0,
  dark Kind.pictures,
  ap₂ (full_at _) (long_films ours device_meets Kind.pictures).1.last_of_all (counted Kind.pictures 9223372036854775806 (omega arith)),
  omega (arith, accepted Kind.pictures 9223372036854775806 (omega arith)),
)

-- the first that it does not
has_no_end : FullTooLate endless
has_no_end = (
  bench_sheet,
  dark,
  Kind.pictures,
  film Kind.pictures run_limit,
  white,
  0,
  0,
  dark Kind.pictures,
  ((counts Kind.pictures).running (film Kind.pictures run_limit)).1 (ap (λ (p : Paper). p.running) (filmed S one answers counts Kind.pictures run_limit (omega arith)).paper),
  omega (arith, accepted Kind.pictures run_limit (omega arith)),
  ap (λ (r : Arrival). arrival_number (cond (eqb (arrival_number r) 75) Dropped r)) (long_films ours device_meets Kind.pictures).1.no_more,
)

-- 2 ^ 32 torn frames, and one that is handed over
abbrev almost_all : List Call
almost_all = repeated (repeated (begun Kind.pictures) (torn Kind.pictures ∷ []) 4294967296) (comes Kind.pictures ∷ takes Kind.pictures ∷ gives Kind.pictures ∷ []) 1

-- the paper after them, and after a stop
lossy_run : At S one Kind.pictures almost_all 4294967297 1 4294967296
lossy_run = rounds S one Kind.pictures 1 _ 4294967296 0 4294967296 (tears S one Kind.pictures 4294967296 (begun Kind.pictures) 0 0 0 (at_first S one answers Kind.pictures) (omega arith)) (omega arith)

lossy_end : paper_in bench_sheet S Kind.pictures (more almost_all (stops Kind.pictures)) ≡ step (in_run Kind.pictures 4294967297 1 4294967296) (ended 4)
lossy_end = after_stops S one 4294967297 1 4294967296 Kind.pictures almost_all lossy_run.paper

overlooks : LossOverlooked judged_reduced
overlooks =
    let cs : List Call = more almost_all (stops Kind.pictures) in
    let run : S.counts Kind.pictures cs ≡ (step (in_run Kind.pictures 4294967297 1 4294967296) (ended 4)).run = (counts Kind.pictures).counted cs ∙ ap (λ (p : Paper). p.run) lossy_end in (
      bench_sheet,
      dark,
      Kind.pictures,
      cs,
      ap₂ judged (some_lost S Kind.pictures cs (counts Kind.pictures) 4294967297 1 4294967296 (omega arith) (omega arith) lossy_end) run,
      λ e. omega (arith, e, ap (λ (r : Run). r.handed) run, ap (λ (r : Run). r.accepted) run),
    )

-- the arrival with which the count comes to 2 ^ 32
counts_short : Miscounted short_counts
counts_short =
    let cs : List Call = film Kind.pictures 4294967295 in
    let e : At S one Kind.pictures cs 4294967295 4294967295 0 = filmed S one answers counts Kind.pictures 4294967295 (omega arith) in
    let more-one : (S.counts Kind.pictures (more cs (comes Kind.pictures))).accepted ≡ 4294967296 =
    ap (λ (r : Run). r.accepted) ((counts Kind.pictures).counted (more cs (comes Kind.pictures)))
    ∙ ap (λ (p : Paper). p.run.accepted) (after_comes S one Kind.pictures cs 4294967295 4294967295 0 e (omega arith)) in (
      bench_sheet,
      dark,
      Kind.pictures,
      cs,
      white,
      0,
      0,
      dark Kind.pictures,
      ((counts Kind.pictures).running cs).1 (ap (λ (p : Paper). p.running) e.paper),
      ap arrival_number (long_films ours device_meets Kind.pictures).1.last,
      λ z. omega (arith, z, more-one, accepted Kind.pictures 4294967295 (omega arith)),
    )

pub late_devices : LateDevices
late_devices = record {
  saturating = wrong late_faults.misnumbered saturating saturates;
  wraps_early_law = wrong late_faults.misnumbered wraps_early wraps_early_law;
  old_limit_law = wrong late_faults.full_too_soon old_limit old_limit_law;
  one_less_law = wrong late_faults.full_too_soon one_less one_less_law;
  endless = wrong late_faults.full_too_late endless has_no_end;
  judged_reduced_law = wrong late_faults.loss_overlooked judged_reduced overlooks;
  short_counts_law = wrong late_faults.miscounted short_counts counts_short;
}
