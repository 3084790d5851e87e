-- The wrong devices have the faults.
use mathlib.Core.Path.{◌≡◌, refl, sym, ap, ap₂, ◌∙◌, fun_ext}
use mathlib.Core.Logic.{◌≢◌, inr}
use mathlib.Core.Bool.{Bool, true, false, cond, not, ◌&&◌, false≢true}
use Prim.Native.Nat.{ℕ, ◌+◌, ◌-◌}
use native.Mathlib.Omega.{arith}
use borrow.Author.Tests.{eqb-false}
use mathlib.Core.List.{List, [], ◌∷◌, ◌++◌, map, append-nil, append_assoc}
use lib.Dec.{eqb}
use lib.ListN.{replicate, drop}
use lib.IntN.{pos}
use lib.Signed.{lt_z}
use Rattle.wire_read.specs.Words.{word_at, le32, bytes_of}
use Rattle.wire_signed.specs.Signed.{signed, signed_at}
use Rattle.ioctl_table.specs.Table.{request_of, call_of, known_words}
use Rattle.ioctl_table.specs.declared.table.Call.{Call as Asked}
use Rattle.ioctl_table.specs.declared.table.Call.TheVariants.{Unknown, SFmt, TryFmt, Reqbufs, Qbuf, Dqbuf, SCrop}
use Rattle.wire_read.specs.Lists.{any}
use Rattle.stream_words.specs.Stream.{Run}
use Rattle.stream_run.specs.Stream.{fresh_run}
use Rattle.stream_arrival.specs.declared.Arrival.{Arrival}
use Rattle.stream_arrival.specs.declared.Arrival.TheVariants.{Refused, Ignored, Damaged, Dropped, Stored}
use Rattle.stream_verdict.specs.declared.Verdict.{Verdict}
use Rattle.stream_verdict.specs.declared.Verdict.TheVariants.{Running, Blank, Gaps, Complete}
use Rattle.stream_history.specs.Paper.{Paper, blank, noted, tells}
use Rattle.claims.specs.Calls.{Kind, Call, Reply}
use Rattle.claims.specs.Calls.Call.{request, arrival, change}
use Rattle.claims.specs.Machine.{Session, Machine, Given, more, reply_in}
use Rattle.claims.specs.Words.{told, opening_size, paper_in}
use Rattle.claims.specs.Desk.{Desk, choice, opening_desk, desk_from}
use Rattle.claims.specs.Demands.{Demand1, Answers}
use Rattle.claims_together.specs.Waiting.{Starts, Ends}
use Rattle.claims_together.proofs.Meets.{device_meets}
use Rattle.claims_together.proofs.InForce.{now_in_force}
use Rattle.bench_sheet.specs.Bench.{bench_sheet}
use Rattle.claims_shut_out.specs.Calls.{ten_buffers, buffer, reqbufs, streamon, dqbuf, dark, services, caption_buffer, sets, asks, hands, begins, line21}
use Rattle.claims_shut_out.specs.Faults.{left_zero, AlwaysComplete, NeverComplete, LaterPretend, OddRefused, FailedCounted, StoredNumbered, YoungestFirst, SoonWhenStopped, NeverSoon, StreamsMixed, HeldUp, TwiceTaken, AllTypes, Out}
use Rattle.claims_shut_out.specs.Wrong.{ours, raised, left_raised, telling, place, only, refused, none_in, echoed, odd_out, answering, stored_by, filled_by, youngest, praised, blamed, failed_in, with_failed, renumbered, flooded, if_stored, filled_once, never_opens, all_refusing, grants_none, grants_fewer, always_running, always_blank, always_gaps, always_complete, stopped_complete, never_complete, idle, later_pretend, uncounted, try_echoes, odd_tried, odd_set, failed_counted, stored_numbered, youngest_first, called_off, soon_when_stopped, never_soon, unknown_invalid, tie_up, greatest_missed, from_above, opening_left_out, not_rounded, rounded_first, top_itself, rounded_up, crop_forgotten, also_waiting, streams_mixed, busy, held_up, twice_taken, all_types, one_verdict, Wrong, WrongDevices}
use Rattle.claims_shut_out.proofs.Played.{dark_long, at_first, came, asked, asks_ten, four, at_four}
use Rattle.claims_shut_out.proofs.Shut.{never_opens_law, all_refusing_law, grants_none_law, grants_fewer_law, constant_verdict, always_complete_law, invented_totals, try_echoes_law, odd_tried_law, odd_set_law, left_raised_law, failed_counted_law}
use Rattle.claims_shut_out.proofs.Film.{idle_arrival, later_pretend_law, stored_numbered_law, youngest_first_law}
use Rattle.claims_shut_out.proofs.Complete.{never_complete_law}
use Rattle.claims_shut_out.proofs.Streams.{no_captions, streams_mixed_law, held_up_law, twice_taken_law, all_types_law, one_verdict_law}
use Rattle.claims_shut_out.proofs.Captions.{C1, C2, C3, sets_them, pictures_2, at_2, at_3, stores}
use Rattle.claims_shut_out.proofs.Sizes.{tie_up_law, greatest_missed_law, from_above_law, goes_up, misses, stays_above}
use Rattle.claims_shut_out.proofs.Crops.{fields_mixed, top_lowered, crop_moved, leaves_opening_out, does_not_round, rounds_first, rounds_itself, rounds_up, forgets}
use Rattle.claims_shut_out.proofs.Stopped.{soon_when_stopped_law, waits, never_soon_law, unknown_invalid_law}

-- ---- requests

no_buffers : word_at (replicate 20 0) 0 ≡ 0
unfolding word_at
no_buffers = refl

refuses_odd : (call : Asked) → eqb (place call) (place call) ≡ true → OddRefused (answering call odd_out) call
refuses_odd call same s m cs w a e type odd off z =
    let r : Given = (ours s m).request cs w a in
    let q : (only call odd_out (request_of w).call a r).number ≡ 22 =
    rw (e, same, type, odd) in
    omega (arith, q, z)

raised_same : (cs : List Call) (c e : Call) → raised c ≡ raised e → map raised (more cs c) ≡ map raised (more cs e)
raised_same [] c e h = ap (λ (x : Call). x ∷ []) h
raised_same (d ∷ cs) c e h = ap (λ (l : List Call). raised d ∷ l) (raised_same cs c e h)

-- left 0 is not negative, and stays
once_raised : (w : ℕ) (a : List ℕ) → (request_of w).call ≡ SCrop → lt_z (signed_at a 4) (pos 0) ≡ true → raised (request w a) ≡ raised (request w (left_zero a))
unfolding word_at le32 bytes_of signed signed_at
once_raised w a call below = ap₂ (λ (c : Asked) (b : Bool). request w (cond (eqb (place c) (place SCrop) && b) (left_zero a) a)) call below
    ∙ sym (ap (λ (c : Asked). request w (cond (eqb (place c) (place SCrop) && false) (left_zero (left_zero a)) (left_zero a))) call)

-- ---- the youngest

youngest_more : (t : ℕ) (S : Session) (cs h : List Call) (c : Call) (k : ℕ) → youngest t S h (more cs c) k ≡ filled_by t S (h ++ cs) c (youngest t S h cs k)
youngest_more t S [] h c k = ap (λ (l : List Call). filled_by t S l c k) (sym (append-nil h))
youngest_more t S (d ∷ cs) h c k =
    youngest_more t S cs (more h d) c (filled_by t S h d k)
    ∙ ap (λ (l : List Call). filled_by t S l c (youngest t S (more h d) cs (filled_by t S h d k))) (append_assoc h (d ∷ []) cs)

one_byte : (k : ℕ) (l : List ℕ) → word_at (k ∷ 0 ∷ 0 ∷ 0 ∷ l) 0 ≡ k
unfolding word_at
one_byte k l = omega arith

gives_youngest : YoungestFirst youngest_first
gives_youngest s m cs f x y other k n w a e call type h =
    let S : Session = ours s m in
    let l : List Call = more cs (arrival 1 f x y other) in
    ap₂ (λ (c : Asked) (t : ℕ). word_at (only Dqbuf (λ b r. record { number = r.number; argument = youngest t S [] l 0 ∷ 0 ∷ 0 ∷ 0 ∷ drop 4 r.argument }) c a (S.request l w a)).argument 0) call type
    ∙ one_byte (youngest 1 S [] l 0) (drop 4 (S.request l w a).argument)
    ∙ youngest_more 1 S cs [] (arrival 1 f x y other) 0 ∙ ap (λ (r : Arrival). stored_by r (youngest 1 S [] cs 0)) e

-- ---- the verdict

-- the paper is told by the answers alone
module _ (s : List ℕ) (S : Session) (memory : Kind → List Call → List ℕ) (verdict : List Call → ℕ → Verdict) (counts : Kind → List Call → Run) where
  replies : (h : List Call) (c : Call) → reply_in (telling S memory verdict counts) h c ≡ reply_in S h c
  replies h (request w a) = refl
  replies h (arrival t f x y other) = refl
  replies h (change c t o l) = refl

  same_desk : (cs h : List Call) (q : Desk) → desk_from s (telling S memory verdict counts) h q cs ≡ desk_from s S h q cs
  same_desk [] h q = refl
  same_desk (c ∷ cs) h q =
      same_desk cs (more h c) (choice s q c (reply_in (telling S memory verdict counts) h c)) ∙ ap (λ (r : Reply). desk_from s S (more h c) (choice s q c r) cs) (replies h c)

  same_paper : (k : Kind) (cs : List Call) → paper_in s (telling S memory verdict counts) k cs ≡ paper_in s S k cs
  same_paper k cs =
      ap (λ (r : List Call → Call → Reply × List ℕ). noted (blank (opening_size s k)) (tells r more (told k) [] (blank (opening_size s k)) cs))
      (fun_ext λ h. fun_ext λ c. ap₂ (λ (r : Reply) (q : Desk). (r, q.services)) (replies h c) (same_desk h [] (opening_desk s)))

praised_stopped : (v : Verdict) → v ≢ Running → praised v ≡ Complete
praised_stopped Running h = absurd (h refl)
praised_stopped Blank h = refl
praised_stopped Gaps h = refl
praised_stopped Complete h = refl

praises : AlwaysComplete stopped_complete
praises = (
  Kind.pictures,
  λ s m cs stopped.
      let S : Session = ours s m in
      let e = sym (ap (λ (p : Paper). p.running) (same_paper s S S.memory (λ cs t. praised (S.verdict cs t)) S.counts Kind.pictures cs)) ∙ stopped in
      praised_stopped (S.verdict cs 1) (λ v. false≢true (sym e ∙ ((device_meets.counts s m Kind.pictures).running cs).0 v)),
)

abbrev is_complete : Verdict → Bool
is_complete Running = false
is_complete Blank = false
is_complete Gaps = false
is_complete Complete = true

unfair : (v : Verdict) → is_complete (blamed v) ≡ false
unfair Running = refl
unfair Blank = refl
unfair Gaps = refl
unfair Complete = refl

blames : NeverComplete never_complete
blames s m cs e = false≢true (sym (unfair ((ours s m).verdict cs 1)) ∙ ap is_complete e)

-- ---- the counts

-- in a run with none outgoing a DQBUF gives 11, and is counted
module _ (S : Session) (d : Demand1 bench_sheet dark S) where
  is_refused : (S.request (reqbufs ∷ streamon ∷ []) 0xC0445611 (buffer 0)).number ≢ 0
  is_refused z = omega (arith, waits S d, z)

  one_failed : failed_in S Kind.pictures [] (reqbufs ∷ streamon ∷ dqbuf ∷ []) ≡ 1
  unfolding request_of call_of known_words word_at le32 bytes_of
  one_failed = ap (λ (n : ℕ). 0 + (0 + (cond (not (eqb n 0)) 1 0 + 0))) (waits S d)

  none_failed : failed_in S Kind.pictures [] (reqbufs ∷ streamon ∷ []) ≡ 0
  unfolding request_of call_of known_words
  none_failed = refl

  miscounts : with_failed (S.counts Kind.pictures (reqbufs ∷ streamon ∷ dqbuf ∷ [])) (failed_in S Kind.pictures [] (reqbufs ∷ streamon ∷ dqbuf ∷ []))
      ≢ with_failed (S.counts Kind.pictures (reqbufs ∷ streamon ∷ [])) (failed_in S Kind.pictures [] (reqbufs ∷ streamon ∷ []))
  miscounts e =
      let same = ap (λ (r : Run). r.handed) (((d.kept (reqbufs ∷ streamon ∷ []) 0xC0445611 (buffer 0) is_refused).1 []).counts Kind.pictures) in
      let h = ap (λ (r : Run). r.handed) e in
      omega (arith, same, h, one_failed, none_failed)

counts_failed : FailedCounted failed_counted
unfolding request_of call_of known_words
counts_failed =
    let d : Demand1 bench_sheet dark (ours bench_sheet dark) = device_meets.demand_1 bench_sheet dark in
    (bench_sheet, dark, Kind.pictures, reqbufs ∷ streamon ∷ [], 0xC0445611, buffer 0, refl, is_refused (ours bench_sheet dark) d, miscounts (ours bench_sheet dark) d)

-- ---- stopped and idle

-- buffers and no run: ours gives 22, and this one 11
puts_off : SoonWhenStopped soon_when_stopped
unfolding request_of call_of known_words word_at le32 bytes_of
puts_off =
    let S : Session = ours bench_sheet dark in
    let d : Demand1 bench_sheet dark S = device_meets.demand_1 bench_sheet dark in
    let is : (S.request (reqbufs ∷ []) 0xC0445611 (buffer 0)).number ≡ 22 = asked S d (reqbufs ∷ []) (four S d) 0xC0445611 (buffer 0) (at_four S d) refl in (
      bench_sheet,
      dark,
      Kind.pictures,
      reqbufs ∷ [],
      0xC0445611,
      buffer 0,
      now_in_force (soon_when_stopped bench_sheet dark) Kind.pictures Ends Starts [] 0xC0145608 ten_buffers (inr refl, refl, asks_ten S d),
      refl,
      refl,
      ap (λ (n : ℕ). cond (eqb n 22) 11 n) is,
    )

-- a number that 22 stands for where it is 11
never_11 : (n : ℕ) (x : Bool) → eqb n 11 ≡ x → cond x 22 n ≢ 11
never_11 n true e h = omega (arith, h)
never_11 n false e h = eqb-false n 11 e h

calls_off : NeverSoon never_soon
calls_off s m cs w a e h =
    let r : Given = (ours s m).request cs w a in
    never_11 r.number (eqb r.number 11) refl (sym (ap (λ (c : Asked). (only Dqbuf called_off c a r).number) e) ∙ h)

-- ---- arrivals

-- the number of a stored arrival, else n
abbrev number_in : Arrival → ℕ → ℕ
number_in (Refused why) n = n
number_in Ignored n = n
number_in Damaged n = n
number_in Dropped n = n
number_in (Stored k j) n = j

renumbers : (x : Arrival) (r : Run) → number_in (renumbered x r) (r.accepted - (r.damaged + r.dropped)) ≡ r.accepted - (r.damaged + r.dropped)
renumbers (Refused why) r = refl
renumbers Ignored r = refl
renumbers Damaged r = refl
renumbers Dropped r = refl
renumbers (Stored k j) r = refl

numbers_stored : StoredNumbered stored_numbered
numbers_stored s m cs f x y other k n e =
    let r : Run = (ours s m).counts Kind.pictures cs in
    sym (ap (λ (v : Arrival). number_in v (r.accepted - (r.damaged + r.dropped))) e) ∙ renumbers ((ours s m).arrival cs 1 f x y other) r

-- what comes behind a stored picture is not looked at
module _ (s : List ℕ) (S : Session) (m f : List ℕ) (x y : ℕ) (other : List ℕ) (k n : ℕ) where
  -- every buffer filled
  abbrev full : List Call → List ℕ → List ℕ
  full h g = flooded (paper_in s S Kind.pictures h).granted (paper_in s S Kind.pictures h).size m g

  first_only : (cs h ds : List Call) → S.arrival (h ++ cs) 1 f x y other ≡ Stored k n
      → filled_once s S m h (cs ++ arrival 1 f x y other ∷ ds) ≡ filled_once s S m h (cs ++ arrival 1 f x y other ∷ [])
  first_only [] h ds e = ap (λ (r : Arrival). if_stored r (full h f) (filled_once s S m (more h (arrival 1 f x y other)) ds)) at_h
      ∙ sym (ap (λ (r : Arrival). if_stored r (full h f) m) at_h)
    where
      at_h : S.arrival h 1 f x y other ≡ Stored k n
      at_h = ap (λ (l : List Call). S.arrival l 1 f x y other) (sym (append-nil h)) ∙ e
  first_only (request w a ∷ cs) h ds e =
      first_only cs (more h (request w a)) ds (ap (λ (l : List Call). S.arrival l 1 f x y other) (append_assoc h (request w a ∷ []) cs) ∙ e)
  first_only (change c t i l ∷ cs) h ds e =
      first_only cs (more h (change c t i l)) ds (ap (λ (z : List Call). S.arrival z 1 f x y other) (append_assoc h (change c t i l ∷ []) cs) ∙ e)
  first_only (arrival t g u v lent ∷ cs) h ds e =
      ap (λ (l : List ℕ). cond (eqb t 1) (if_stored (S.arrival h t g u v lent) (full h g) l) l)
      (first_only cs (more h (arrival t g u v lent)) ds (ap (λ (l : List Call). S.arrival l 1 f x y other) (append_assoc h (arrival t g u v lent ∷ []) cs) ∙ e))

pretends : LaterPretend later_pretend
pretends s m cs f x y other k n ds g u v lent e =
    let S : Session = ours s m in
    ap (filled_once s S (m Kind.pictures) []) (append_assoc cs (arrival 1 f x y other ∷ ds) (arrival 1 g u v lent ∷ []))
    ∙ first_only s S (m Kind.pictures) f x y other k n cs [] (ds ++ (arrival 1 g u v lent ∷ [])) e ∙ sym (first_only s S (m Kind.pictures) f x y other k n cs [] ds e)

-- ---- two streams

-- a QBUF of pictures is accepted, until the captions have that index waiting
mixes : StreamsMixed streams_mixed
unfolding C1 C2 C3 request_of call_of known_words word_at le32 bytes_of any
mixes =
    let S : Session = ours bench_sheet dark in
    let d : Demand1 bench_sheet dark S = device_meets.demand_1 bench_sheet dark in
    let k : Answers bench_sheet dark S = device_meets.answers bench_sheet dark in
    let before : (S.request (reqbufs ∷ sets ∷ asks ∷ []) 0xC044560F (buffer 0)).number ≡ 0 =
    asked S d (reqbufs ∷ sets ∷ asks ∷ []) (four S d) 0xC044560F (buffer 0) (pictures_2 S d k) refl in
    let clash : (also_waiting (paper_in bench_sheet S Kind.captions (reqbufs ∷ sets ∷ asks ∷ hands ∷ [])) (buffer 0) (S.request (reqbufs ∷ sets ∷ asks ∷ hands ∷ []) 0xC044560F (buffer 0))).number ≡ 22 =
    ap (λ (p : Paper). (also_waiting p (buffer 0) (S.request (reqbufs ∷ sets ∷ asks ∷ hands ∷ []) 0xC044560F (buffer 0))).number) (at_3 S d k) in (
      bench_sheet,
      dark,
      reqbufs ∷ sets ∷ asks ∷ [],
      0xC044560F,
      caption_buffer 0,
      0xC044560F,
      buffer 0,
      refl,
      refl,
      refl,
      refl,
      ap (λ (p : Paper). (also_waiting p (buffer 0) (S.request (reqbufs ∷ sets ∷ asks ∷ []) 0xC044560F (buffer 0))).number) (at_2 S d k) ∙ before,
      λ z. omega (arith, clash, z),
    )

-- the pictures have buffers, the captions none
holds_up : HeldUp held_up
unfolding request_of call_of known_words word_at le32 bytes_of
holds_up =
    let S : Session = ours bench_sheet dark in
    let d : Demand1 bench_sheet dark S = device_meets.demand_1 bench_sheet dark in (
      bench_sheet,
      dark,
      reqbufs ∷ [],
      0xC0CC5605,
      services,
      refl,
      refl,
      ap (λ (p : Paper). p.granted) (no_captions S d),
      ap₂ (λ (p : Paper) (n : ℕ). (busy p services (record { number = n; argument = (S.request (reqbufs ∷ []) 0xC0CC5605 services).argument })).number) (at_four S d)
          (sets_them S d (device_meets.answers bench_sheet dark)),
    )

-- two records of one line: the first alone would be stored
takes_twice : TwiceTaken twice_taken
unfolding word_at le32 bytes_of
takes_twice =
    let S : Session = ours bench_sheet dark in (
      bench_sheet,
      dark,
      reqbufs ∷ sets ∷ asks ∷ hands ∷ begins ∷ [],
      line21 ++ line21,
      0,
      0,
      dark Kind.captions,
      0,
      1,
      0,
      0,
      omega arith,
      omega arith,
      refl,
      stores S (device_meets.demand_1 bench_sheet dark) (device_meets.answers bench_sheet dark),
    )

-- a frame of type 2 passes for a picture, outside a run
takes_all_law : AllTypes all_types
takes_all_law =
    let S : Session = ours bench_sheet dark in
    let d : Demand1 bench_sheet dark S = device_meets.demand_1 bench_sheet dark in (
      bench_sheet,
      dark,
      [],
      2,
      [],
      0,
      0,
      dark Kind.pictures,
      (λ e. omega (arith, e)),
      (λ e. omega (arith, e)),
      came S d Kind.pictures [] (blank 614400) [] 0 0 (dark Kind.pictures) (at_first S d) (rw (dark_long Kind.pictures)),
    )

-- ---- all of them

-- who has a fault that is shut out does not meet the demands
pub wrong : {Fault : Machine → Type 0} → Out Fault → (M : Machine) → Fault M → Wrong Fault M
wrong out M fault = (fault, out M fault)

pub wrong_devices : WrongDevices
wrong_devices = record {
  never_opens_law = wrong never_opens_law never_opens (λ s m e. omega (arith, e));
  all_refusing_law = wrong all_refusing_law all_refusing (λ s m cs w a e. omega (arith, e));
  grants_none_law = wrong grants_none_law grants_none (λ s m cs w a e. ap (λ (call : Asked). word_at (only Reqbufs none_in call a ((ours s m).request cs w a)).argument 0) e ∙ no_buffers);
  grants_fewer_law = wrong grants_fewer_law grants_fewer (λ s m cs w a v b e g same h z.
      let q : (only Qbuf refused (request_of v).call b ((ours s m).request (more cs (request w a)) v b)).number ≡ 22 =
      ap (λ (call : Asked). (only Qbuf refused call b ((ours s m).request (more cs (request w a)) v b)).number) g in
      omega (arith, q, z));
  always_running_law = wrong constant_verdict always_running (Running, λ s m cs. refl);
  always_blank_law = wrong constant_verdict always_blank (Blank, λ s m cs. refl);
  always_gaps_law = wrong constant_verdict always_gaps (Gaps, λ s m cs. refl);
  always_complete_law = wrong constant_verdict always_complete (Complete, λ s m cs. refl);
  stopped_complete_law = wrong always_complete_law stopped_complete praises;
  never_complete_law = wrong never_complete_law never_complete blames;
  idle_arrival = wrong idle_arrival idle (λ s m cs f x y other. refl);
  later_pretend_law = wrong later_pretend_law later_pretend pretends;
  invented_totals = wrong invented_totals uncounted (fresh_run 0, λ s m cs. refl);
  try_echoes_law = wrong try_echoes_law try_echoes (λ s m cs t a e type. ap (λ (call : Asked). (only TryFmt echoed call a ((ours s m).request cs t a)).argument) e);
  odd_tried_law = wrong odd_tried_law odd_tried (refuses_odd TryFmt refl);
  odd_set_law = wrong odd_set_law odd_set (refuses_odd SFmt refl);
  left_raised_law = wrong left_raised_law left_raised (λ s m cs w a v b set get below.
      ap (λ (l : List Call). (ours s m).request l v b) (raised_same cs (request w a) (request w (left_zero a)) (once_raised w a set below)));
  failed_counted_law = wrong failed_counted_law failed_counted counts_failed;
  stored_numbered_law = wrong stored_numbered_law stored_numbered numbers_stored;
  youngest_first_law = wrong youngest_first_law youngest_first gives_youngest;
  soon_when_stopped_law = wrong soon_when_stopped_law soon_when_stopped puts_off;
  never_soon_law = wrong never_soon_law never_soon calls_off;
  unknown_invalid_law = wrong unknown_invalid_law unknown_invalid (λ s m cs w a e. ap (λ (call : Asked). (only Unknown refused call a ((ours s m).request cs w a)).number) e);
  tie_up_law = wrong tie_up_law tie_up goes_up;
  greatest_missed_law = wrong greatest_missed_law greatest_missed misses;
  from_above_law = wrong from_above_law from_above stays_above;
  opening_left_out_law = wrong fields_mixed opening_left_out leaves_opening_out;
  not_rounded_law = wrong fields_mixed not_rounded does_not_round;
  rounded_first_law = wrong fields_mixed rounded_first rounds_first;
  top_itself_law = wrong fields_mixed top_itself rounds_itself;
  rounded_up_law = wrong top_lowered rounded_up rounds_up;
  crop_forgotten_law = wrong crop_moved crop_forgotten forgets;
  streams_mixed_law = wrong streams_mixed_law streams_mixed mixes;
  held_up_law = wrong held_up_law held_up holds_up;
  twice_taken_law = wrong twice_taken_law twice_taken takes_twice;
  all_types_law = wrong all_types_law all_types takes_all_law;
  one_verdict_law = wrong one_verdict_law one_verdict (λ s m cs. refl);
}
