-- Films of every length: numbers, end and verdict.
use mathlib.Core.Path.{◌≡◌, refl, sym, ap, ◌∙◌, subst}
use mathlib.Core.Bool.{not, ◌&&◌, true≢false}
use Prim.Native.Nat.{ℕ, zero, suc, ◌+◌, ◌≤◌, ◌<◌}
use native.Mathlib.Omega.{arith}
use mathlib.Core.List.{List, [], ◌∷◌, ◌++◌}
use lib.Dec.{eqb, leb}
use lib.ListN.{length}
use borrow.Author.Tests.{le-leb, eq-eqb}
use Rattle.wire_read.specs.Words.{word_at, le32, bytes_of}
use Rattle.ioctl_table.specs.Table.{request_of, call_of, known_words}
use Rattle.ioctl_table.specs.declared.refusals.Refusal.TheVariants.{RunFull}
use Rattle.buffer_replies.specs.Replies.{buffer_reply}
use Rattle.buffer_replies.proofs.Lengths.{buffer_number}
use Rattle.stream_run.specs.Stream.{reduced}
use Rattle.stream_maps.specs.Maps.{no_maps}
use Rattle.stream_status.specs.Buffer.{described_of, returned_of}
use Rattle.stream_arrival.specs.declared.Arrival.TheVariants.{Refused, Stored}
use Rattle.stream_arrival.specs.Arrivals.{run_limit}
use Rattle.stream_verdict.specs.declared.Verdict.{Verdict}
use Rattle.stream_verdict.specs.declared.Verdict.TheVariants.{Running, Blank, Gaps, Complete}
use Rattle.stream_history.specs.Paper.{Paper, step}
use Rattle.stream_history.specs.Paper.Event.{ended}
use Rattle.claims.specs.Calls.{Kind, type_of, Call}
use Rattle.claims.specs.Machine.{Session, more}
use Rattle.claims.specs.Words.{paper_in}
use Rattle.claims.specs.Answers.{first_on}
use Rattle.claims.specs.Demands.{Demand1, Counts, Answers}
use Rattle.bench_sheet.specs.Bench.{bench_sheet}
use Rattle.claims_shut_out.specs.Calls.{dark, buffer_of}
use Rattle.claims_shut_out.proofs.Played.{opens, On}
use Rattle.claims_long_runs.specs.Films.{begun, whole_frame, comes, torn, takes, gives, stops, repeated, film, lossy, next_answer, next_returned, verdict_on, Long, Edges, LongFilms}
use Rattle.claims_long_runs.proofs.Late.{is_stream, full_there}
use Rattle.claims_long_runs.proofs.Rounds.{in_run, filled_run, At, stores, after_comes, after_torn, taken, round, after_stops, at_first}

module _ (S : Session) (d : Demand1 bench_sheet dark S) (k : Kind) where
  -- the same place by other counts
  counted_as : (cs : List Call) (a h t b i u : ℕ) → a ≡ b → h ≡ i → t ≡ u → At S d k cs a h t → At S d k cs b i u
  counted_as cs a h t b i u e f g x = subst (λ (n : ℕ). At S d k cs n i u) e (subst (λ (n : ℕ). At S d k cs a n u) f (subst (λ (n : ℕ). At S d k cs a h n) g x))

  -- n frames more
  pub rounds : (n : ℕ) (cs : List Call) (a h t : ℕ) → At S d k cs a h t → a + n ≤ run_limit → At S d k (repeated cs (comes k ∷ takes k ∷ gives k ∷ []) n) (a + n) (h + n) t
  unfolding repeated
  rounds zero cs a h t e l = counted_as cs a h t (a + 0) (h + 0) t (omega arith) (omega arith) refl e
  rounds (suc n) cs a h t e l =
      let ds : List Call = comes k ∷ takes k ∷ gives k ∷ [] in
      counted_as (repeated cs ds n ++ ds) (a + n + 1) (h + n + 1) t (a + suc n) (h + suc n) t (omega arith) (omega arith) refl
      (round S d (a + n) (h + n) t k (repeated cs ds n) (rounds n cs a h t e (omega (arith, l))) (omega (arith, l)))

  -- n torn ones
  pub tears : (n : ℕ) (cs : List Call) (a h t : ℕ) → At S d k cs a h t → a + n ≤ run_limit → At S d k (repeated cs (torn k ∷ []) n) (a + n) h (t + n)
  unfolding repeated
  tears zero cs a h t e l = counted_as cs a h t (a + 0) h (t + 0) (omega arith) refl (omega arith) e
  tears (suc n) cs a h t e l =
      counted_as (repeated cs (torn k ∷ []) n ++ torn k ∷ []) (a + n + 1) h (t + n + 1) (a + suc n) h (t + suc n) (omega arith) refl (omega arith)
      (after_torn S d k (repeated cs (torn k ∷ []) n) (a + n) h (t + n) (tears n cs a h t e (omega (arith, l))) (omega (arith, l)))

-- ---- the verdict

-- the run is over, all was handed over and there was something: no other verdict is left
all_there : (S : Session) (k : Kind) (cs : List Call) → Counts bench_sheet S k → (n t : ℕ) → 0 < n → paper_in bench_sheet S k cs ≡ step (in_run k n n t) (ended 4)
    → S.verdict cs (type_of k) ≡ Complete
all_there S k cs c n t some e = go (S.verdict cs (type_of k)) refl
  where
    go : (v : Verdict) → S.verdict cs (type_of k) ≡ v → v ≡ Complete
    go Running f = absurd (true≢false (sym ((c.running cs).0 f) ∙ ap (λ (p : Paper). p.running) e))
    go Blank f = absurd (omega (arith, some, ((c.blank cs).0 f).1, ap (λ (p : Paper). p.run.handed) e))
    go Gaps f = absurd (omega (arith, ((c.gaps cs).0 f).2, ap (λ (p : Paper). p.run.handed) e, ap (λ (p : Paper). p.run.accepted) e))
    go Complete f = refl

-- some were handed over, and not all
pub some_lost : (S : Session) (k : Kind) (cs : List Call) → Counts bench_sheet S k → (a h t : ℕ) → 0 < h → h < a → paper_in bench_sheet S k cs ≡ step (in_run k a h t) (ended 4)
    → S.verdict cs (type_of k) ≡ Gaps
some_lost S k cs c a h t some fewer e =
    let handed : (paper_in bench_sheet S k cs).run.handed ≡ h = ap (λ (p : Paper). p.run.handed) e in
    let accepted : (paper_in bench_sheet S k cs).run.accepted ≡ a = ap (λ (p : Paper). p.run.accepted) e in
    (c.gaps cs).1 (ap (λ (p : Paper). p.running) e, omega (arith, handed, some), omega (arith, handed, accepted, fewer))

-- ---- of a session

module _ (S : Session) (d : Demand1 bench_sheet dark S) (n : Answers bench_sheet dark S) (c : (k : Kind) → Counts bench_sheet S k) where
  -- after a film of so many frames
  pub filmed : (k : Kind) (m : ℕ) → m ≤ run_limit → At S d k (film k m) m m 0
  filmed k m l = counted_as S d k (film k m) (0 + m) (0 + m) 0 m m 0 (omega arith) (omega arith) refl (rounds S d k m (begun k) 0 0 0 (at_first S d n k) (omega (arith, l)))

  -- an arrival behind the last is answered 75
  pub refused : (k : Kind) (cs : List Call) (a h t : ℕ) → At S d k cs a h t → run_limit ≤ a → next_answer S k cs ≡ Refused RunFull
  refused k cs a h t e l =
      full_there bench_sheet dark S d k cs (whole_frame k) 0 0 (dark k)
      (ap (λ (n : ℕ). not (eqb n 0)) (opens S d)) (is_stream k) (ap not (eq-eqb (length (dark k)) (length (dark k)) refl))
      (ap (λ (p : Paper). p.running && leb run_limit p.run.accepted) e.paper ∙ le-leb run_limit a l)

  -- the number that the DQBUF behind a frame answers
  returns : (k : Kind) (cs : List Call) (a h t : ℕ) → On S d k cs (filled_run k a h t) → word_at (S.request cs 0xC0445611 (buffer_of k 0)).argument 44 ≡ reduced a
  unfolding request_of call_of known_words word_at le32 bytes_of returned_of described_of
  returns Kind.pictures cs a h t e =
      ap (λ (b : List ℕ). word_at b 44) (n.arguments cs 0xC0445611 (buffer_of Kind.pictures 0) (taken S d a h t Kind.pictures cs e))
      ∙ ap (λ (p : Paper). word_at (buffer_reply 1 (returned_of p.maps (first_on p.outgoing) p.size)) 44) e
      ∙ buffer_number 1 (returned_of no_maps (first_on (filled_run Kind.pictures a h t).outgoing) 614400) (omega arith)
  returns Kind.captions cs a h t e =
      ap (λ (b : List ℕ). word_at b 44) (n.arguments cs 0xC0445611 (buffer_of Kind.captions 0) (taken S d a h t Kind.captions cs e))
      ∙ ap (λ (p : Paper). word_at (buffer_reply 6 (returned_of p.maps (first_on p.outgoing) p.size)) 44) e
      ∙ buffer_number 6 (returned_of no_maps (first_on (filled_run Kind.captions a h t).outgoing) 128) (omega arith)

  module _ (k : Kind) where
    stored : (m : ℕ) → m < run_limit → next_answer S k (film k m) ≡ Stored 0 (reduced m)
    stored m l = stores S d k (film k m) m m 0 (filmed k m (omega (arith, l))) l

    returned : (m : ℕ) → m < run_limit → next_returned S k (film k m) ≡ reduced m
    returned m l = returns k (more (film k m) (comes k)) m m 0 (after_comes S d k (film k m) m m 0 (filmed k m (omega (arith, l))) l)

    complete : (m : ℕ) → 0 < m → m ≤ run_limit → verdict_on S k (film k m) ≡ Complete
    complete m some l = all_there S k (more (film k m) (stops k)) (c k) m 0 some (after_stops S d m m 0 k (film k m) (filmed k m l).paper)

    -- i frames, a torn one, m frames
    lost : (i m : ℕ) → 0 < i + m → i + m < run_limit → verdict_on S k (lossy k i m) ≡ Gaps
    lost i m some l =
        let e : At S d k (lossy k i m) (i + 1 + m) (i + m) 1 =
        rounds S d k m (more (film k i) (torn k)) (i + 1) i 1 (after_torn S d k (film k i) i i 0 (filmed k i (omega (arith, l))) (omega (arith, l))) (omega (arith, l)) in
        some_lost S k (more (lossy k i m) (stops k)) (c k) (i + 1 + m) (i + m) 1 some (omega arith) (after_stops S d (i + 1 + m) (i + m) 1 k (lossy k i m) e.paper)

    pub long : Long S k
    long = record {
      stored = stored;
      returned = returned;
      full = refused k (film k run_limit) run_limit run_limit 0 (filmed k run_limit (omega arith)) (omega arith);
      complete = complete;
      lost = lost;
    }

    pub edges : Edges S k
    edges = record {
      last_but_one = stored 4294967294 (omega arith);
      last = stored 4294967295 (omega arith);
      back_to_zero = stored 4294967296 (omega arith);
      handed_as_zero = returned 4294967296 (omega arith);
      last_of_all = stored 9223372036854775806 (omega arith);
      no_more = long.full;
      all_there = complete 4294967301 (omega arith) (omega arith);
      one_lost = lost 4294967296 4 (omega arith) (omega arith);
    }

pub long_films : LongFilms
long_films M meets k =
    let S : Session = M bench_sheet dark in
    let d : Demand1 bench_sheet dark S = meets.demand_1 bench_sheet dark in
    (long S d (meets.answers bench_sheet dark) (meets.counts bench_sheet dark) k, edges S d (meets.answers bench_sheet dark) (meets.counts bench_sheet dark) k)
