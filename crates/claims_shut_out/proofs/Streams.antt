-- The faults of a device with two streams.
use mathlib.Core.Path.{◌≡◌, refl, sym, ap, ◌∙◌}
use mathlib.Core.Bool.{Bool, true, false, cond, not, false≢true}
use Prim.Native.Nat.{ℕ}
use native.Mathlib.Omega.{arith}
use borrow.Author.Tests.{ne_eqb}
use mathlib.Core.List.{List, [], ◌∷◌}
use lib.Dec.{eqb}
use lib.ListN.{length}
use Rattle.wire_read.specs.Words.{word_at, le32, bytes_of}
use Rattle.ioctl_table.specs.Refusal.{errno_of}
use Rattle.ioctl_table.specs.declared.refusals.Refusal.TheVariants.{Closed, UnknownWord, ArgumentLength, WrongType}
use Rattle.ioctl_table.specs.Table.{request_of, call_of, known_words}
use Rattle.ioctl_table.specs.declared.table.Call.TheVariants.{Qbuf}
use Rattle.stream_run.specs.Stream.{reduced}
use Rattle.stream_arrival.specs.declared.Arrival.{Arrival}
use Rattle.stream_arrival.specs.declared.Arrival.TheVariants.{Refused, Ignored, Damaged, Dropped, Stored}
use Rattle.stream_verdict.specs.declared.Verdict.TheVariants.{Running}
use Rattle.caption_rules.specs.Caption.{whole_caption}
use Rattle.caption_rules.proofs.Whole.{whole_means}
use Rattle.stream_history.specs.Paper.{Paper, blank, step}
use Rattle.stream_history.specs.Paper.Event.{idle}
use Rattle.claims.specs.Calls.{Kind, Call, arrival_time}
use Rattle.claims.specs.Calls.Call.{request}
use Rattle.claims.specs.Machine.{Session, more}
use Rattle.claims.specs.Words.{paper_in, papers_in}
use Rattle.claims.specs.Desk.{desk_in}
use Rattle.claims.specs.Table.{Check, kind_of, first_number, request_tests, arrival_tests, refused_by, placed_on, arrived_on, arrival_number}
use Rattle.claims.specs.Demands.{Demand1}
use Rattle.claims.proofs.Sessions.{paper_more}
use Rattle.bench_sheet.specs.Bench.{bench_sheet}
use Rattle.claims_shut_out.specs.Calls.{ten_buffers, video, reqbufs, streamon, dark}
use Rattle.claims_shut_out.specs.Faults.{StreamsMixed, HeldUp, TwiceTaken, AllTypes, OneVerdict, Out}
use Rattle.claims_shut_out.proofs.Played.{On, then, asks_ten}
use Rattle.claims_shut_out.proofs.Shut.{starts, runs}

-- ---- mixed

-- a QBUF of captions tells the pictures nothing
module _ (s : List ℕ) (S : Session) (cs : List Call) (w : ℕ) (a : List ℕ) where
  quiet : (p : Paper) (x : Bool) → step p (cond x idle idle) ≡ p
  quiet p true = refl
  quiet p false = refl

  same_pictures : (request_of w).call ≡ Qbuf → word_at a 4 ≡ 6 → paper_in s S Kind.pictures (more cs (request w a)) ≡ paper_in s S Kind.pictures cs
  same_pictures call type =
      paper_more s S Kind.pictures cs (request w a) ∙ rw (call, type) (quiet (paper_in s S Kind.pictures cs) (eqb (S.request cs w a).number 0))

-- and one of pictures is tested by the paper of the pictures alone
by_one : (n : ℕ) (s : List ℕ) (P : Kind → Paper) (v : ℕ) (b : List ℕ) → (request_of v).call ≡ Qbuf
    → first_number (request_tests n s P v b) ≡ first_number (request_tests n s (λ k. P (kind_of (word_at b 4))) v b)
by_one n s P v b call = rw call

by_pictures : (n : ℕ) (s : List ℕ) (P : Kind → Paper) (v : ℕ) (b : List ℕ) → (request_of v).call ≡ Qbuf → word_at b 4 ≡ 1
    → first_number (request_tests n s P v b) ≡ first_number (request_tests n s (λ k. P Kind.pictures) v b)
by_pictures n s P v b call type = by_one n s P v b call ∙ ap (λ (t : ℕ). first_number (request_tests n s (λ k. P (kind_of t)) v b)) type

pub streams_mixed_law : Out StreamsMixed
streams_mixed_law M (s, m, cs, w, a, v, b, puts, type, hands, other, before, behind) meets =
    let S : Session = M s m in
    let d : Demand1 s m S = meets.demand_1 s m in
    behind (d.requests (more cs (request w a)) v b ∙ by_pictures S.opening s (papers_in s S (more cs (request w a))) v b hands other
    ∙ ap (λ (p : Paper). first_number (request_tests S.opening s (λ k. p) v b)) (same_pictures s S cs w a puts type)
    ∙ sym (by_pictures S.opening s (papers_in s S cs) v b hands other) ∙ sym (d.requests cs v b) ∙ before)

-- ---- held up

-- with no buffers of their own the numbers that are left
not_busy : (x y z : Bool) → cond x (errno_of Closed) (cond y (errno_of UnknownWord) (cond z (errno_of ArgumentLength) 0)) ≡ 16 → ⊥
not_busy true y z h = omega (arith, h)
not_busy false true z h = omega (arith, h)
not_busy false false true h = omega (arith, h)
not_busy false false false h = omega (arith, h)

pub held_up_law : Out HeldUp
held_up_law M (s, m, cs, w, a, call, type, none, e) meets =
    let S : Session = M s m in
    let h : first_number (request_tests S.opening s (papers_in s S cs) w a) ≡ 16 = sym ((meets.demand_1 s m).requests cs w a) ∙ e in
    not_busy (not (eqb S.opening 0)) (eqb (request_of w).size 0) (not (eqb (length a) (request_of w).size)) (rw (call, type, none) at h)

-- ---- twice

abbrev is_stored : Arrival → Bool
is_stored (Refused why) = false
is_stored Ignored = false
is_stored Damaged = false
is_stored Dropped = false
is_stored (Stored k n) = true

-- a stored arrival was not refused
was_stored : (cs : List Check) (r : Arrival) → is_stored (refused_by cs r) ≡ true → is_stored r ≡ true
was_stored [] r h = h
was_stored (c ∷ cs) r h = go c.holds (was_stored cs r) h
  where
    go : (x : Bool) → (is_stored (refused_by cs r) ≡ true → is_stored r ≡ true) → is_stored (cond x (Refused c.why) (refused_by cs r)) ≡ true → is_stored r ≡ true
    go true on h = absurd (false≢true h)
    go false on h = on h

-- and is whole
was_whole : (x y : Bool) (r : Arrival) → is_stored (cond (not x) Ignored (cond y r Damaged)) ≡ true → y ≡ true
was_whole false y r h = absurd (false≢true h)
was_whole true false r h = absurd (false≢true h)
was_whole true true r h = refl

pub twice_taken_law : Out TwiceTaken
twice_taken_law M (s, m, cs, f, x, y, other, i, j, k, n, before, inside, same, stored) meets =
    let S : Session = M s m in
    let p : Paper = paper_in s S Kind.captions cs in
    let l : List ℕ = (desk_in s S cs).services in
    let r : is_stored (refused_by (arrival_tests S.opening (λ j. length (m j)) (papers_in s S cs) 6 (length other)) (arrived_on Kind.captions p l f (arrival_time x y))) ≡ true =
    ap is_stored (sym ((meets.demand_1 s m).arrivals cs 6 f x y other) ∙ stored) in
    let w : whole_caption l f (arrival_time x y) ≡ true =
    was_whole p.running (whole_caption l f (arrival_time x y)) (placed_on p.incoming (reduced p.run.accepted))
    (was_stored (arrival_tests S.opening (λ j. length (m j)) (papers_in s S cs) 6 (length other)) (arrived_on Kind.captions p l f (arrival_time x y)) r) in
    (whole_means l f (arrival_time x y) w).distinct i j before inside same

-- ---- other types

no_type : (x : Bool) → arrival_number (cond x (Refused Closed) (Refused WrongType)) ≡ 0 → ⊥
no_type true h = omega (arith, h)
no_type false h = omega (arith, h)

pub all_types_law : Out AllTypes
all_types_law M (s, m, cs, t, f, x, y, other, one, six, e) meets =
    let S : Session = M s m in
    let h = sym (ap arrival_number ((meets.demand_1 s m).arrivals cs t f x y other)) ∙ e in
    no_type (not (eqb S.opening 0)) (rw (ne_eqb t 1 one, ne_eqb t 6 six) at h)

-- ---- one verdict

-- pictures run, captions do not
module _ (S : Session) (d : Demand1 bench_sheet dark S) where
  pub no_captions : On S d Kind.captions (reqbufs ∷ []) (blank 0)
  unfolding request_of call_of known_words word_at le32 bytes_of
  no_captions = then S d Kind.captions [] (blank 0) 0xC0145608 ten_buffers refl (asks_ten S d)

  still_none : On S d Kind.captions (reqbufs ∷ streamon ∷ []) (blank 0)
  unfolding request_of call_of known_words word_at le32 bytes_of
  still_none = then S d Kind.captions (reqbufs ∷ []) (blank 0) 0x40045612 video no_captions (starts S d)

pub one_verdict_law : Out OneVerdict
one_verdict_law M same meets =
    let S : Session = M bench_sheet dark in
    let d : Demand1 bench_sheet dark S = meets.demand_1 bench_sheet dark in
    let on : S.verdict (reqbufs ∷ streamon ∷ []) 1 ≡ Running = ((meets.counts bench_sheet dark Kind.pictures).running (reqbufs ∷ streamon ∷ [])).1 (ap (λ (p : Paper). p.running) (runs S d)) in
    false≢true (sym (ap (λ (p : Paper). p.running) (still_none S d))
    ∙ ((meets.counts bench_sheet dark Kind.captions).running (reqbufs ∷ streamon ∷ [])).0 (sym (same bench_sheet dark (reqbufs ∷ streamon ∷ [])) ∙ on))
