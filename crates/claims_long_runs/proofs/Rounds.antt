-- One frame more of a run on the bench: the paper after it, by the paper before it. Of every machine that keeps the refusal table.
use mathlib.Core.Path.{◌≡◌, refl, sym, ◌∙◌, subst}
use mathlib.Core.Bool.{true, false}
use Prim.Native.Nat.{ℕ, ◌+◌, ◌<◌}
use mathlib.Core.List.{List, [], ◌∷◌, ◌++◌, append_assoc}
use lib.ListN.{length}
use borrow.Author.Tests.{lt-leb}
use Rattle.wire_read.specs.Words.{word_at, le32, bytes_of}
use Rattle.wire_read.specs.Lists.{any}
use Rattle.wire_signed.specs.Signed.{signed}
use Rattle.ioctl_table.specs.Table.{request_of, call_of, known_words}
use Rattle.picture_rules.specs.Picture.{whole_picture}
use Rattle.caption_rules.specs.Caption.{whole_caption}
use Rattle.stream_maps.specs.Maps.{no_maps}
use Rattle.stream_run.specs.Stream.{reduced}
use Rattle.stream_arrival.specs.declared.Arrival.TheVariants.{Stored}
use Rattle.stream_arrival.specs.Arrivals.{run_limit}
use Rattle.stream_history.specs.Paper.{Paper, step}
use Rattle.stream_history.specs.Paper.Event.{whole, handed, ended}
use Rattle.claims.specs.Calls.{Kind, type_of, Call, arrival_time}
use Rattle.claims.specs.Machine.{Session, more, reply_in}
use Rattle.claims.specs.Words.{paper_in}
use Rattle.claims.specs.Desk.{Desk, choice, desk_in}
use Rattle.claims.specs.Table.{first_number, arrival_tests, whole_on}
use Rattle.claims.specs.Demands.{Demand1, Answers}
use Rattle.claims.proofs.Sessions.{desk_more}
use Rattle.bench_sheet.specs.Bench.{bench_sheet}
use Rattle.claims_shut_out.specs.Calls.{dark, buffer_of, run_of, video, reqbufs, qbuf}
use Rattle.claims_shut_out.proofs.Played.{plain_long, dark_long, On, asked_both, asked, arrives, came, then, then_came}
use Rattle.claims_shut_out.proofs.Film.{P1, at_1}
use Rattle.claims_shut_out.proofs.Captions.{C1, C2, C3, C4, at_4, in_force, is_whole_law}
use Rattle.claims_long_runs.specs.Films.{begun, whole_frame, comes, torn, takes, gives, stops}

-- the frame size on the bench
abbrev size_for : Kind → ℕ
size_for Kind.pictures = 614400
size_for Kind.captions = 128

-- a run is on and buffer 0 waits: so many were accepted, handed over, damaged
abbrev pub in_run : Kind → ℕ → ℕ → ℕ → Paper
in_run k a h t = record {
  size = size_for k;
  granted = 4;
  running = true;
  run = record { ran = 1; accepted = a; handed = h; damaged = t; dropped = 0; discarded = 0 };
  incoming = 0 ∷ [];
  outgoing = [];
  maps = no_maps;
}

-- the same when a whole frame has come
abbrev pub filled_run : Kind → ℕ → ℕ → ℕ → Paper
filled_run k a h t = step (in_run k a h t) (whole (whole_frame k) (arrival_time 0 0))

-- an arrival before the limit passes the tests
admits : (k : Kind) (a h t : ℕ) → a < run_limit → first_number (arrival_tests 0 (λ j. length (dark j)) (λ j. in_run k a h t) (type_of k) (length (dark k))) ≡ 0
admits Kind.pictures a h t l = rw (dark_long Kind.pictures, lt-leb _ _ l)
admits Kind.captions a h t l = rw (dark_long Kind.captions, lt-leb _ _ l)

-- a frame of one byte is damaged
one_byte : (k : Kind) (l : List ℕ) → whole_on k (size_for k) l (0 ∷ []) (arrival_time 0 0) ≡ false
unfolding whole_picture whole_caption signed
one_byte Kind.pictures l = refl
one_byte Kind.captions l = refl

-- what becomes of the calls of a frame
module _ (S : Session) (d : Demand1 bench_sheet dark S) where
  -- the services that are in force take the frame as whole
  abbrev pub Whole : Kind → List Call → Type 0
  Whole k cs = whole_on k (size_for k) (desk_in bench_sheet S cs).services (whole_frame k) (arrival_time 0 0) ≡ true

  -- after these calls the run is on, and takes a whole frame
  pub record At (k : Kind) (cs : List Call) (a h t : ℕ) : Type 0 where
    pub paper : On S d k cs (in_run k a h t)
    pub whole : Whole k cs

  -- a call that chooses nothing leaves the services
  still : (k : Kind) (cs : List Call) (c : Call) → choice bench_sheet (desk_in bench_sheet S cs) c (reply_in S cs c) ≡ desk_in bench_sheet S cs → Whole k cs → Whole k (more cs c)
  still k cs c e w = subst (λ (q : Desk). whole_on k (size_for k) q.services (whole_frame k) (arrival_time 0 0) ≡ true) (sym (desk_more bench_sheet S cs c ∙ e)) w

  module _ (k : Kind) (cs : List Call) (a h t : ℕ) where
    -- ---- a frame comes

    -- it is stored in buffer 0, under the count reduced
    pub stores : At k cs a h t → a < run_limit → S.arrival cs (type_of k) (whole_frame k) 0 0 (dark k) ≡ Stored 0 (reduced a)
    stores e l = arrives S d k cs (in_run k a h t) (whole_frame k) 0 0 (dark k) e.paper (admits k a h t l) ∙ rw e.whole

    pub after_comes : At k cs a h t → a < run_limit → On S d k (more cs (comes k)) (filled_run k a h t)
    after_comes e l =
        then_came S d k cs (in_run k a h t) (whole_frame k) 0 0 (dark k) e.paper (came S d k cs (in_run k a h t) (whole_frame k) 0 0 (dark k) e.paper (admits k a h t l))
        ∙ rw e.whole

    -- a torn one is damaged
    pub after_torn : At k cs a h t → a < run_limit → At k (more cs (torn k)) (a + 1) h (t + 1)
    after_torn e l = record {
      paper =
          then_came S d k cs (in_run k a h t) (0 ∷ []) 0 0 (dark k) e.paper (came S d k cs (in_run k a h t) (0 ∷ []) 0 0 (dark k) e.paper (admits k a h t l))
          ∙ rw (one_byte k (desk_in bench_sheet S cs).services);
      whole = still k cs (torn k) refl e.whole;
    }

  -- ---- it is handed over, and its buffer handed in again
  module _ (a h t : ℕ) where
    pub taken : (k : Kind) (cs : List Call) → On S d k cs (filled_run k a h t) → (S.request cs 0xC0445611 (buffer_of k 0)).number ≡ 0
    unfolding request_of call_of known_words word_at le32 bytes_of
    taken Kind.pictures cs e = asked S d cs (filled_run Kind.pictures a h t) 0xC0445611 (buffer_of Kind.pictures 0) e refl
    taken Kind.captions cs e =
        asked_both S d cs (paper_in bench_sheet S Kind.pictures cs) (filled_run Kind.captions a h t) 0xC0445611 (buffer_of Kind.captions 0) refl e refl

    after_takes : (k : Kind) (cs : List Call) → On S d k cs (filled_run k a h t) → On S d k (more cs (takes k)) (step (filled_run k a h t) handed)
    unfolding request_of call_of known_words word_at le32 bytes_of
    after_takes Kind.pictures cs e = then S d Kind.pictures cs (filled_run Kind.pictures a h t) 0xC0445611 (buffer_of Kind.pictures 0) e (taken Kind.pictures cs e)
    after_takes Kind.captions cs e = then S d Kind.captions cs (filled_run Kind.captions a h t) 0xC0445611 (buffer_of Kind.captions 0) e (taken Kind.captions cs e)

    given : (k : Kind) (cs : List Call) → On S d k cs (step (filled_run k a h t) handed) → (S.request cs 0xC044560F (buffer_of k 0)).number ≡ 0
    unfolding request_of call_of known_words word_at le32 bytes_of any
    given Kind.pictures cs e = asked S d cs (step (filled_run Kind.pictures a h t) handed) 0xC044560F (buffer_of Kind.pictures 0) e refl
    given Kind.captions cs e =
        asked_both S d cs (paper_in bench_sheet S Kind.pictures cs) (step (filled_run Kind.captions a h t) handed) 0xC044560F (buffer_of Kind.captions 0) refl e refl

    after_gives : (k : Kind) (cs : List Call) → On S d k cs (step (filled_run k a h t) handed) → On S d k (more cs (gives k)) (in_run k (a + 1) (h + 1) t)
    unfolding request_of call_of known_words word_at le32 bytes_of
    after_gives Kind.pictures cs e = then S d Kind.pictures cs (step (filled_run Kind.pictures a h t) handed) 0xC044560F (buffer_of Kind.pictures 0) e (given Kind.pictures cs e)
    after_gives Kind.captions cs e = then S d Kind.captions cs (step (filled_run Kind.captions a h t) handed) 0xC044560F (buffer_of Kind.captions 0) e (given Kind.captions cs e)

    -- neither chooses anything
    still_taken : (k : Kind) (cs : List Call) → On S d k cs (filled_run k a h t) → Whole k cs → Whole k (more cs (takes k))
    unfolding request_of call_of known_words
    still_taken k cs e w = still k cs (takes k) (rw (taken k cs e)) w

    still_given : (k : Kind) (cs : List Call) → On S d k cs (step (filled_run k a h t) handed) → Whole k cs → Whole k (more cs (gives k))
    unfolding request_of call_of known_words
    still_given k cs e w = still k cs (gives k) (rw (given k cs e)) w

    -- ---- all three
    pub round : (k : Kind) (cs : List Call) → At k cs a h t → a < run_limit → At k (cs ++ comes k ∷ takes k ∷ gives k ∷ []) (a + 1) (h + 1) t
    round k cs e l =
        let one : On S d k (more cs (comes k)) (filled_run k a h t) = after_comes k cs a h t e l in
        let two : On S d k (more (more cs (comes k)) (takes k)) (step (filled_run k a h t) handed) = after_takes k (more cs (comes k)) one in
        let joined : more (more (more cs (comes k)) (takes k)) (gives k) ≡ cs ++ comes k ∷ takes k ∷ gives k ∷ [] =
        append_assoc (more cs (comes k)) (takes k ∷ []) (gives k ∷ []) ∙ append_assoc cs (comes k ∷ []) (takes k ∷ gives k ∷ []) in
        subst (λ (x : List Call). At k x (a + 1) (h + 1) t) joined record {
          paper = after_gives k (more (more cs (comes k)) (takes k)) two;
          whole = still_given k (more (more cs (comes k)) (takes k)) two (still_taken k (more cs (comes k)) one (still k cs (comes k) refl e.whole));
        }

    -- ---- the run ends
    ends : (k : Kind) (cs : List Call) → On S d k cs (in_run k a h t) → (S.request cs 0x40045613 (run_of k)).number ≡ 0
    unfolding request_of call_of known_words word_at le32 bytes_of
    ends Kind.pictures cs e = asked S d cs (in_run Kind.pictures a h t) 0x40045613 (run_of Kind.pictures) e refl
    ends Kind.captions cs e = asked_both S d cs (paper_in bench_sheet S Kind.pictures cs) (in_run Kind.captions a h t) 0x40045613 (run_of Kind.captions) refl e refl

    pub after_stops : (k : Kind) (cs : List Call) → On S d k cs (in_run k a h t) → On S d k (more cs (stops k)) (step (in_run k a h t) (ended 4))
    unfolding request_of call_of known_words word_at le32 bytes_of
    after_stops Kind.pictures cs e = then S d Kind.pictures cs (in_run Kind.pictures a h t) 0x40045613 (run_of Kind.pictures) e (ends Kind.pictures cs e)
    after_stops Kind.captions cs e = then S d Kind.captions cs (in_run Kind.captions a h t) 0x40045613 (run_of Kind.captions) e (ends Kind.captions cs e)

  -- ---- the run begins
  switched : (S.request (reqbufs ∷ qbuf 0 ∷ []) 0x40045612 video).number ≡ 0
  unfolding P1 request_of call_of known_words word_at le32 bytes_of
  switched = asked S d (reqbufs ∷ qbuf 0 ∷ []) (P1 S d) 0x40045612 video (at_1 S d) refl

  pub at_first : Answers bench_sheet dark S → (k : Kind) → At k (begun k) 0 0 0
  unfolding P1 C1 C2 C3 C4 request_of call_of known_words word_at le32 bytes_of whole_picture signed
  at_first n Kind.pictures = record {
    paper = then S d Kind.pictures (reqbufs ∷ qbuf 0 ∷ []) (P1 S d) 0x40045612 video (at_1 S d) switched;
    whole = rw (plain_long 614400 1);
  }
  at_first n Kind.captions = record { paper = at_4 S d n; whole = rw (in_force S d n) is_whole_law }
