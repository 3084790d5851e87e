-- A few calls on the bench sheet: what every machine that keeps the refusal table answers to them, and the paper after each.
use mathlib.Core.Path.{◌≡◌, refl, ap, ap₂, ◌∙◌, fun_ext}
use mathlib.Core.Bool.{cond}
use Prim.Native.Nat.{ℕ, zero, suc, ◌<◌}
use mathlib.Core.List.{List, [], ◌∷◌}
use lib.ListN.{length, get_or, replicate, length-replicate, get_or-replicate}
use Rattle.wire_read.specs.Lists.{any}
use Rattle.stream_maps.specs.Maps.{any_mapped, no_maps}
use Rattle.wire_read.specs.Words.{word_at, le32, bytes_of}
use Rattle.ioctl_table.specs.Table.{request_of, call_of, known_words}
use Rattle.sheet_contents.specs.Contents.{formats_at, format_at, geometry_at}
use Rattle.sheet_records.specs.Records.{format_code}
use Rattle.sheet_geometry.specs.Geometry.{range_at, widths_of, heights_of, line_alignment}
use Rattle.format_rules.specs.Code.{bytes_per_pixel, half_chroma}
use Rattle.format_rules.specs.Size.{round_up, bytes_per_line, held_height, first_plane, image_size}
use Rattle.negotiation_rules.specs.Negotiation.{opening_format}
use Rattle.stream_slots.specs.Slot.{slot_size}
use Rattle.stream_run.specs.Switches.{grant_of}
use Rattle.stream_history.specs.Paper.{Paper, Event, blank, step}
use Rattle.stream_history.specs.Paper.Event.{ended, idle}
use Rattle.claims.specs.Calls.{Kind, type_of, Call, arrival_time}
use Rattle.claims.specs.Calls.Call.{request, arrival}
use Rattle.claims.specs.Machine.{Session, more}
use Rattle.claims.specs.Words.{told_by, arrival_told, told, seen_in, opening_size, events_in, paper_in, papers_in}
use Rattle.claims.specs.Desk.{desk_in}
use Rattle.claims.specs.Table.{first_number, request_tests, arrival_tests, refused_by, arrived_on, arrival_number}
use Rattle.claims.specs.Demands.{Demand1}
use Rattle.claims.proofs.Sessions.{paper_more, events_cons, told_request, told_arrival, none_refuses, arrived_number}
use Rattle.bench_sheet.specs.Bench.{bench_sheet}
use Rattle.bench_sheet.proofs.Good.{bench_good}
use Rattle.claims_shut_out.specs.Calls.{ten_buffers, reqbufs, plain, room, dark}

-- ---- the memories

pub plain_long : (n v : ℕ) → length (plain n v) ≡ n
unfolding plain
plain_long n v = length-replicate n v

pub plain_first : (n v : ℕ) → 0 < n → get_or (plain n v) 0 0 ≡ v
unfolding plain
plain_first n v h = get_or-replicate n 0 v 0 h

all_zero : (n j : ℕ) → get_or {A = ℕ} (replicate n 0) j 0 ≡ 0
all_zero zero j = refl
all_zero (suc n) zero = refl
all_zero (suc n) (suc j) = all_zero n j

pub plain_zero : (n j : ℕ) → get_or (plain n 0) j 0 ≡ 0
unfolding plain
plain_zero = all_zero

pub dark_long : (k : Kind) → length (dark k) ≡ room k
dark_long k = plain_long (room k) 0

-- ---- the sheet

-- the image size that opening sets
pub opening_size_law : opening_size bench_sheet Kind.pictures ≡ 614400
unfolding bench_sheet word_at le32 bytes_of formats_at format_at format_code geometry_at range_at widths_of heights_of line_alignment bytes_per_pixel half_chroma round_up bytes_per_line held_height first_plane image_size opening_format
opening_size_law = refl

-- the events of calls, the first of them known
pub goes : {e : Event} (s : List ℕ) (S : Session) (k : Kind) (h : List Call) (c : Call) (cs : List Call) → told k (paper_in s S k h) c (seen_in s S h c) ≡ e
    → events_in s S k h (paper_in s S k h) (c ∷ cs) ≡ e ∷ events_in s S k (more h c) (paper_in s S k (more h c)) cs
goes s S k h c cs p = events_cons s S k h c cs ∙ ap (λ (v : Event). v ∷ events_in s S k (more h c) (paper_in s S k (more h c)) cs) p

-- the papers, one by one
abbrev pub both : Paper → Paper → Kind → Paper
both P Q Kind.pictures = P
both P Q Kind.captions = Q

as_both : (F : Kind → Paper) → F ≡ both (F Kind.pictures) (F Kind.captions)
as_both F = fun_ext λ k. each k
  where
    each : (k : Kind) → F k ≡ both (F Kind.pictures) (F Kind.captions) k
    each Kind.pictures = refl
    each Kind.captions = refl

module _ (S : Session) (d : Demand1 bench_sheet dark S) where
  pub opens : S.opening ≡ 0
  opens = d.opening ∙ rw (bench_good, dark_long Kind.pictures, dark_long Kind.captions)

  -- the paper of a stream after these calls
  abbrev pub On : Kind → List Call → Paper → Type 0
  On k cs P = paper_in bench_sheet S k cs ≡ P

  pub at_first : On Kind.pictures [] (blank 614400)
  at_first = ap blank opening_size_law

  -- a request gives the number of the first test that holds, and is accepted where none does
  pub asked_both : {n : ℕ} (cs : List Call) (P Q : Paper) (w : ℕ) (a : List ℕ) → On Kind.pictures cs P → On Kind.captions cs Q
      → first_number (request_tests 0 bench_sheet (both P Q) w a) ≡ n → (S.request cs w a).number ≡ n
  asked_both cs P Q w a e f h =
      d.requests cs w a
      ∙ ap₂ (λ (n : ℕ) (F : Kind → Paper). first_number (request_tests n bench_sheet F w a)) opens (as_both (papers_in bench_sheet S cs) ∙ ap₂ both e f) ∙ h

  -- one that asks nothing of the captions
  pub asked : {n : ℕ} (cs : List Call) (P : Paper) (w : ℕ) (a : List ℕ) → On Kind.pictures cs P
      → first_number (request_tests 0 bench_sheet (both P (paper_in bench_sheet S Kind.captions cs)) w a) ≡ n → (S.request cs w a).number ≡ n
  asked cs P w a e h = asked_both cs P (paper_in bench_sheet S Kind.captions cs) w a e refl h

  -- an arrival is answered as the paper says
  pub arrives : (k : Kind) (cs : List Call) (P : Paper) (f : List ℕ) (x y : ℕ) (other : List ℕ) → On k cs P
      → first_number (arrival_tests 0 (λ j. length (dark j)) (λ j. P) (type_of k) (length other)) ≡ 0
      → S.arrival cs (type_of k) f x y other ≡ arrived_on k P (desk_in bench_sheet S cs).services f (arrival_time x y)
  arrives Kind.pictures cs P f x y other e h =
      let l : List ℕ = (desk_in bench_sheet S cs).services in
      d.arrivals cs 1 f x y other
      ∙ ap₂ (λ (n : ℕ) (p : Paper). refused_by (arrival_tests n (λ j. length (dark j)) (λ j. p) 1 (length other)) (arrived_on Kind.pictures p l f (arrival_time x y))) opens e
      ∙ none_refuses (arrival_tests 0 (λ j. length (dark j)) (λ j. P) 1 (length other)) (arrived_on Kind.pictures P l f (arrival_time x y)) h
  arrives Kind.captions cs P f x y other e h =
      let l : List ℕ = (desk_in bench_sheet S cs).services in
      d.arrivals cs 6 f x y other
      ∙ ap₂ (λ (n : ℕ) (p : Paper). refused_by (arrival_tests n (λ j. length (dark j)) (λ j. p) 6 (length other)) (arrived_on Kind.captions p l f (arrival_time x y))) opens e
      ∙ none_refuses (arrival_tests 0 (λ j. length (dark j)) (λ j. P) 6 (length other)) (arrived_on Kind.captions P l f (arrival_time x y)) h

  pub came : (k : Kind) (cs : List Call) (P : Paper) (f : List ℕ) (x y : ℕ) (other : List ℕ) → On k cs P
      → first_number (arrival_tests 0 (λ j. length (dark j)) (λ j. P) (type_of k) (length other)) ≡ 0 → arrival_number (S.arrival cs (type_of k) f x y other) ≡ 0
  came k cs P f x y other e h = ap arrival_number (arrives k cs P f x y other e h) ∙ arrived_number k P (desk_in bench_sheet S cs).services f (arrival_time x y)

  -- what each call tells a stream, and the paper after it
  module _ (k : Kind) (cs : List Call) (P : Paper) where
    pub tells : (w : ℕ) (a : List ℕ) → On k cs P → (S.request cs w a).number ≡ 0
        → told k (paper_in bench_sheet S k cs) (request w a) (seen_in bench_sheet S cs (request w a)) ≡ told_by k P (request_of w).call a (S.request cs w a).argument
    tells w a e h = ap (λ (p : Paper). told k p (request w a) (seen_in bench_sheet S cs (request w a))) e ∙ told_request bench_sheet S k cs P w a h

    pub then : (w : ℕ) (a : List ℕ) → On k cs P → (S.request cs w a).number ≡ 0
        → On k (more cs (request w a)) (step P (told_by k P (request_of w).call a (S.request cs w a).argument))
    then w a e h = paper_more bench_sheet S k cs (request w a) ∙ ap₂ step e (tells w a e h)

    pub tells_came : (f : List ℕ) (x y : ℕ) (other : List ℕ) → On k cs P → arrival_number (S.arrival cs (type_of k) f x y other) ≡ 0
        → told k (paper_in bench_sheet S k cs) (arrival (type_of k) f x y other) (seen_in bench_sheet S cs (arrival (type_of k) f x y other))
        ≡ cond P.running (arrival_told k P (desk_in bench_sheet S cs).services f x y) idle
    tells_came f x y other e h =
        ap (λ (p : Paper). told k p (arrival (type_of k) f x y other) (seen_in bench_sheet S cs (arrival (type_of k) f x y other))) e ∙ told_arrival bench_sheet S k cs P f x y other h

    pub then_came : (f : List ℕ) (x y : ℕ) (other : List ℕ) → On k cs P → arrival_number (S.arrival cs (type_of k) f x y other) ≡ 0
        → On k (more cs (arrival (type_of k) f x y other)) (step P (cond P.running (arrival_told k P (desk_in bench_sheet S cs).services f x y) idle))
    then_came f x y other e h = paper_more bench_sheet S k cs (arrival (type_of k) f x y other) ∙ ap₂ step e (tells_came f x y other e h)

  -- ---- ten asked, four granted
  pub asks_ten : (S.request [] 0xC0145608 ten_buffers).number ≡ 0
  unfolding request_of call_of known_words word_at le32 bytes_of any any_mapped no_maps
  asks_ten = asked [] (blank 614400) 0xC0145608 ten_buffers at_first refl

  pub gets_four : word_at (S.request [] 0xC0145608 ten_buffers).argument 0 ≡ 4
  unfolding request_of call_of known_words word_at le32 bytes_of grant_of slot_size
  gets_four = d.grants [] 0xC0145608 ten_buffers refl asks_ten ∙ rw (dark_long Kind.pictures, opening_size_law)

  -- a paper with four buffers, then with these waiting, then in a run
  abbrev pub four : Paper
  four = step (blank 614400) (ended 4)

  pub at_four : On Kind.pictures (reqbufs ∷ []) four
  unfolding request_of call_of known_words word_at le32 bytes_of
  at_four = then Kind.pictures [] (blank 614400) 0xC0145608 ten_buffers at_first asks_ten ∙ ap (λ (n : ℕ). step (blank 614400) (ended n)) gets_four
