-- The faults of arrivals: two buffers are handed in, a run begins, two frames arrive.
use mathlib.Core.Path.{◌≡◌, refl, sym, ap, ap₂, ◌∙◌}
use mathlib.Core.Bool.{true, cond}
use Prim.Native.Nat.{ℕ, ◌+◌, ◌-◌, ◌<◌}
use native.Mathlib.Omega.{arith}
use mathlib.Core.List.{List, [], ◌∷◌}
use lib.ListN.{length, get_or, take, drop}
use lib.Seq.{sets, get_or-take, get_or-drop}
use Rattle.wire_read.specs.Words.{word_at, le32, bytes_of}
use Rattle.wire_signed.specs.Signed.{signed}
use Rattle.wire_read.proofs.Stores.{sets_behind}
use Rattle.ioctl_table.specs.Table.{request_of, call_of, known_words}
use Rattle.wire_read.specs.Lists.{any}
use Rattle.stream_words.specs.Stream.{Run}
use Rattle.stream_slots.specs.Slot.{slot_size, slot_offset}
use Rattle.stream_run.specs.Stream.{reduced}
use Rattle.stream_arrival.specs.declared.Arrival.{Arrival}
use Rattle.stream_arrival.specs.declared.Arrival.TheVariants.{Stored}
use Rattle.stream_arrival.specs.Arrivals.{written_by}
use Rattle.picture_rules.specs.Picture.{whole_picture}
use Rattle.stream_history.specs.Paper.{Paper, Event, step, count, wholes, dequeues}
use Rattle.stream_history.specs.Paper.Event.{put, whole, damaged, begun, idle}
use Rattle.claims.specs.Calls.{Kind, Call, arrival_time}
use Rattle.claims.specs.Calls.Call.{arrival}
use Rattle.claims.specs.Machine.{Session, more}
use Rattle.claims.specs.Words.{arrival_told, told, seen_in, events_in, paper_in}
use Rattle.claims.specs.Desk.{desk_in}
use Rattle.claims.specs.Table.{arrival_number}
use Rattle.claims.specs.Demands.{Demand1, Demand3, Counts, since}
use Rattle.bench_sheet.specs.Bench.{bench_sheet}
use Rattle.claims_shut_out.specs.Calls.{ten_buffers, buffer, video, reqbufs, qbuf, streamon, dark, white, comes}
use Rattle.claims_shut_out.specs.Faults.{IdleArrival, LaterPretend, StoredNumbered, YoungestFirst, Out}
use Rattle.claims_shut_out.proofs.Played.{plain_long, plain_first, plain_zero, dark_long, On, asked, then, arrives, came, then_came, tells, tells_came, goes, four, at_four}

-- a frame of no bytes
abbrev torn : Call
torn = arrival 1 [] 0 0 (dark Kind.pictures)

module _ (S : Session) (d : Demand1 bench_sheet dark S) where
  -- the paper after each call
  unfoldable pub P1 : Paper
  P1 = step (four S d) (put 0)

  unfoldable pub P2 : Paper
  P2 = step P1 (put 1)

  unfoldable pub P3 : Paper
  P3 = step P2 begun

  hand_0 : (S.request (reqbufs ∷ []) 0xC044560F (buffer 0)).number ≡ 0
  unfolding request_of call_of known_words word_at le32 bytes_of any
  hand_0 = asked S d (reqbufs ∷ []) (four S d) 0xC044560F (buffer 0) (at_four S d) refl

  pub at_1 : On S d Kind.pictures (reqbufs ∷ qbuf 0 ∷ []) P1
  unfolding P1 request_of call_of known_words word_at le32 bytes_of
  at_1 = then S d Kind.pictures (reqbufs ∷ []) (four S d) 0xC044560F (buffer 0) (at_four S d) hand_0

  hand_1 : (S.request (reqbufs ∷ qbuf 0 ∷ []) 0xC044560F (buffer 1)).number ≡ 0
  unfolding P1 request_of call_of known_words word_at le32 bytes_of any
  hand_1 = asked S d (reqbufs ∷ qbuf 0 ∷ []) P1 0xC044560F (buffer 1) at_1 refl

  at_2 : On S d Kind.pictures (reqbufs ∷ qbuf 0 ∷ qbuf 1 ∷ []) P2
  unfolding P2 request_of call_of known_words word_at le32 bytes_of
  at_2 = then S d Kind.pictures (reqbufs ∷ qbuf 0 ∷ []) P1 0xC044560F (buffer 1) at_1 hand_1

  start : (S.request (reqbufs ∷ qbuf 0 ∷ qbuf 1 ∷ []) 0x40045612 video).number ≡ 0
  unfolding P1 P2 request_of call_of known_words word_at le32 bytes_of
  start = asked S d (reqbufs ∷ qbuf 0 ∷ qbuf 1 ∷ []) P2 0x40045612 video at_2 refl

  at_3 : On S d Kind.pictures (reqbufs ∷ qbuf 0 ∷ qbuf 1 ∷ streamon ∷ []) P3
  unfolding P1 P2 P3 request_of call_of known_words word_at le32 bytes_of
  at_3 = then S d Kind.pictures (reqbufs ∷ qbuf 0 ∷ qbuf 1 ∷ []) P2 0x40045612 video at_2 start

  -- a white frame is whole
  is_whole_law : (P : Paper) (l : List ℕ) → P.size ≡ 614400 → P.running ≡ true → cond P.running (arrival_told Kind.pictures P l white 0 0) idle ≡ whole white (arrival_time 0 0)
  unfolding whole_picture signed
  is_whole_law P l e r = rw (r, e, plain_long 614400 1)

  first : arrival_number (S.arrival (reqbufs ∷ qbuf 0 ∷ qbuf 1 ∷ streamon ∷ []) 1 white 0 0 (dark Kind.pictures)) ≡ 0
  unfolding P1 P2 P3
  first = came S d Kind.pictures (reqbufs ∷ qbuf 0 ∷ qbuf 1 ∷ streamon ∷ []) P3 white 0 0 (dark Kind.pictures) at_3 (rw (dark_long Kind.pictures))

  unfoldable pub P4 : Paper
  P4 = step P3 (whole white (arrival_time 0 0))

  pub at_4 : On S d Kind.pictures (reqbufs ∷ qbuf 0 ∷ qbuf 1 ∷ streamon ∷ comes ∷ []) P4
  unfolding P1 P2 P3 P4
  at_4 = then_came S d Kind.pictures (reqbufs ∷ qbuf 0 ∷ qbuf 1 ∷ streamon ∷ []) P3 white 0 0 (dark Kind.pictures) at_3 first ∙ ap (step P3) (is_whole_law P3 (desk_in bench_sheet S (reqbufs ∷ qbuf 0 ∷ qbuf 1 ∷ streamon ∷ [])).services refl refl)

  second : arrival_number (S.arrival (reqbufs ∷ qbuf 0 ∷ qbuf 1 ∷ streamon ∷ comes ∷ []) 1 white 0 0 (dark Kind.pictures)) ≡ 0
  unfolding P1 P2 P3 P4
  second = came S d Kind.pictures (reqbufs ∷ qbuf 0 ∷ qbuf 1 ∷ streamon ∷ comes ∷ []) P4 white 0 0 (dark Kind.pictures) at_4 (rw (dark_long Kind.pictures))

  -- what each of these calls tells, whatever calls follow
  pub tells_0 : (cs : List Call) → events_in bench_sheet S Kind.pictures (reqbufs ∷ []) (paper_in bench_sheet S Kind.pictures (reqbufs ∷ [])) (qbuf 0 ∷ cs)
      ≡ put 0 ∷ events_in bench_sheet S Kind.pictures (reqbufs ∷ qbuf 0 ∷ []) (paper_in bench_sheet S Kind.pictures (reqbufs ∷ qbuf 0 ∷ [])) cs
  unfolding request_of call_of known_words word_at le32 bytes_of
  tells_0 cs = goes bench_sheet S Kind.pictures (reqbufs ∷ []) (qbuf 0) cs (tells S d Kind.pictures (reqbufs ∷ []) (four S d) 0xC044560F (buffer 0) (at_four S d) hand_0)

  pub tells_1 : (cs : List Call) → events_in bench_sheet S Kind.pictures (reqbufs ∷ qbuf 0 ∷ []) (paper_in bench_sheet S Kind.pictures (reqbufs ∷ qbuf 0 ∷ [])) (qbuf 1 ∷ cs)
      ≡ put 1 ∷ events_in bench_sheet S Kind.pictures (reqbufs ∷ qbuf 0 ∷ qbuf 1 ∷ []) (paper_in bench_sheet S Kind.pictures (reqbufs ∷ qbuf 0 ∷ qbuf 1 ∷ [])) cs
  unfolding P1 request_of call_of known_words word_at le32 bytes_of
  tells_1 cs = goes bench_sheet S Kind.pictures (reqbufs ∷ qbuf 0 ∷ []) (qbuf 1) cs (tells S d Kind.pictures (reqbufs ∷ qbuf 0 ∷ []) P1 0xC044560F (buffer 1) at_1 hand_1)

  pub tells_2 : (cs : List Call) → events_in bench_sheet S Kind.pictures (reqbufs ∷ qbuf 0 ∷ qbuf 1 ∷ []) (paper_in bench_sheet S Kind.pictures (reqbufs ∷ qbuf 0 ∷ qbuf 1 ∷ [])) (streamon ∷ cs)
      ≡ begun ∷ events_in bench_sheet S Kind.pictures (reqbufs ∷ qbuf 0 ∷ qbuf 1 ∷ streamon ∷ []) (paper_in bench_sheet S Kind.pictures (reqbufs ∷ qbuf 0 ∷ qbuf 1 ∷ streamon ∷ [])) cs
  unfolding P1 P2 request_of call_of known_words word_at le32 bytes_of
  tells_2 cs = goes bench_sheet S Kind.pictures (reqbufs ∷ qbuf 0 ∷ qbuf 1 ∷ []) streamon cs (tells S d Kind.pictures (reqbufs ∷ qbuf 0 ∷ qbuf 1 ∷ []) P2 0x40045612 video at_2 start)

  whole_1 : told Kind.pictures (paper_in bench_sheet S Kind.pictures (reqbufs ∷ qbuf 0 ∷ qbuf 1 ∷ streamon ∷ [])) comes (seen_in bench_sheet S (reqbufs ∷ qbuf 0 ∷ qbuf 1 ∷ streamon ∷ []) comes) ≡ whole white (arrival_time 0 0)
  unfolding P1 P2 P3
  whole_1 = tells_came S d Kind.pictures (reqbufs ∷ qbuf 0 ∷ qbuf 1 ∷ streamon ∷ []) P3 white 0 0 (dark Kind.pictures) at_3 first ∙ is_whole_law P3 (desk_in bench_sheet S (reqbufs ∷ qbuf 0 ∷ qbuf 1 ∷ streamon ∷ [])).services refl refl

  whole_2 : told Kind.pictures (paper_in bench_sheet S Kind.pictures (reqbufs ∷ qbuf 0 ∷ qbuf 1 ∷ streamon ∷ comes ∷ [])) comes (seen_in bench_sheet S (reqbufs ∷ qbuf 0 ∷ qbuf 1 ∷ streamon ∷ comes ∷ []) comes) ≡ whole white (arrival_time 0 0)
  unfolding P1 P2 P3 P4
  whole_2 = tells_came S d Kind.pictures (reqbufs ∷ qbuf 0 ∷ qbuf 1 ∷ streamon ∷ comes ∷ []) P4 white 0 0 (dark Kind.pictures) at_4 second ∙ is_whole_law P4 (desk_in bench_sheet S (reqbufs ∷ qbuf 0 ∷ qbuf 1 ∷ streamon ∷ comes ∷ [])).services refl refl

  pub tells_3 : (cs : List Call) → events_in bench_sheet S Kind.pictures (reqbufs ∷ qbuf 0 ∷ qbuf 1 ∷ streamon ∷ []) (paper_in bench_sheet S Kind.pictures (reqbufs ∷ qbuf 0 ∷ qbuf 1 ∷ streamon ∷ [])) (comes ∷ cs)
      ≡ whole white (arrival_time 0 0) ∷ events_in bench_sheet S Kind.pictures (reqbufs ∷ qbuf 0 ∷ qbuf 1 ∷ streamon ∷ comes ∷ []) (paper_in bench_sheet S Kind.pictures (reqbufs ∷ qbuf 0 ∷ qbuf 1 ∷ streamon ∷ comes ∷ [])) cs
  tells_3 cs = goes bench_sheet S Kind.pictures (reqbufs ∷ qbuf 0 ∷ qbuf 1 ∷ streamon ∷ []) comes cs whole_1

  -- what is told from each of the two buffers on
  after_0 : since bench_sheet S Kind.pictures (reqbufs ∷ []) 0xC044560F (buffer 0) (qbuf 1 ∷ streamon ∷ []) ≡ put 1 ∷ begun ∷ []
  after_0 = tells_1 (streamon ∷ []) ∙ ap (λ (es : List Event). put 1 ∷ es) (tells_2 [])

  after_1 : since bench_sheet S Kind.pictures (reqbufs ∷ qbuf 0 ∷ []) 0xC044560F (buffer 1) (streamon ∷ comes ∷ []) ≡ begun ∷ whole white (arrival_time 0 0) ∷ []
  after_1 = tells_2 (comes ∷ []) ∙ ap (λ (es : List Event). begun ∷ es) (tells_3 [])

  both_full : since bench_sheet S Kind.pictures (reqbufs ∷ []) 0xC044560F (buffer 0) (qbuf 1 ∷ streamon ∷ comes ∷ comes ∷ [])
      ≡ put 1 ∷ begun ∷ whole white (arrival_time 0 0) ∷ whole white (arrival_time 0 0) ∷ []
  both_full =
      tells_1 (streamon ∷ comes ∷ comes ∷ [])
      ∙ ap (λ (es : List Event). put 1 ∷ es) (tells_2 (comes ∷ comes ∷ [])
      ∙ ap (λ (es : List Event). begun ∷ es) (tells_3 (comes ∷ [])
      ∙ ap (λ (es : List Event). whole white (arrival_time 0 0) ∷ es) (goes bench_sheet S Kind.pictures (reqbufs ∷ qbuf 0 ∷ qbuf 1 ∷ streamon ∷ comes ∷ []) comes [] whole_2)))

  -- the second frame gets buffer 1; with both outgoing a DQBUF is accepted
  second_1 : S.arrival (reqbufs ∷ qbuf 0 ∷ qbuf 1 ∷ streamon ∷ comes ∷ []) 1 white 0 0 (dark Kind.pictures) ≡ Stored 1 1
  unfolding P1 P2 P3 P4 whole_picture signed
  second_1 = arrives S d Kind.pictures (reqbufs ∷ qbuf 0 ∷ qbuf 1 ∷ streamon ∷ comes ∷ []) P4 white 0 0 (dark Kind.pictures) at_4 (rw (dark_long Kind.pictures)) ∙ rw (plain_long 614400 1)

  takes : (S.request (reqbufs ∷ qbuf 0 ∷ qbuf 1 ∷ streamon ∷ comes ∷ comes ∷ []) 0xC0445611 (buffer 0)).number ≡ 0
  unfolding P1 P2 P3 P4 request_of call_of known_words word_at le32 bytes_of
  takes = asked S d (reqbufs ∷ qbuf 0 ∷ qbuf 1 ∷ streamon ∷ comes ∷ comes ∷ []) (step P4 (whole white (arrival_time 0 0))) 0xC0445611 (buffer 0)
      (then_came S d Kind.pictures (reqbufs ∷ qbuf 0 ∷ qbuf 1 ∷ streamon ∷ comes ∷ []) P4 white 0 0 (dark Kind.pictures) at_4 second ∙ ap (step P4) (is_whole_law P4 (desk_in bench_sheet S (reqbufs ∷ qbuf 0 ∷ qbuf 1 ∷ streamon ∷ comes ∷ [])).services refl refl)) refl

  -- a frame of no bytes is damaged, and takes number 0: the next is stored as number 1
  at_torn : On S d Kind.pictures (reqbufs ∷ qbuf 0 ∷ qbuf 1 ∷ streamon ∷ torn ∷ []) (step P3 damaged)
  unfolding P1 P2 P3 whole_picture signed
  at_torn = then_came S d Kind.pictures (reqbufs ∷ qbuf 0 ∷ qbuf 1 ∷ streamon ∷ []) P3 [] 0 0 (dark Kind.pictures) at_3
      (came S d Kind.pictures (reqbufs ∷ qbuf 0 ∷ qbuf 1 ∷ streamon ∷ []) P3 [] 0 0 (dark Kind.pictures) at_3 (rw (dark_long Kind.pictures)))

  second_0 : S.arrival (reqbufs ∷ qbuf 0 ∷ qbuf 1 ∷ streamon ∷ torn ∷ []) 1 white 0 0 (dark Kind.pictures) ≡ Stored 0 1
  unfolding P1 P2 P3 whole_picture signed
  second_0 = arrives S d Kind.pictures (reqbufs ∷ qbuf 0 ∷ qbuf 1 ∷ streamon ∷ torn ∷ []) (step P3 damaged) white 0 0 (dark Kind.pictures) at_torn (rw (dark_long Kind.pictures)) ∙ rw (plain_long 614400 1)

  torn_counts : Counts bench_sheet S Kind.pictures → (S.counts Kind.pictures (reqbufs ∷ qbuf 0 ∷ qbuf 1 ∷ streamon ∷ torn ∷ [])) ≡ count P3 damaged
  torn_counts k = k.counted (reqbufs ∷ qbuf 0 ∷ qbuf 1 ∷ streamon ∷ torn ∷ []) ∙ ap (λ (p : Paper). p.run) at_torn

  module _ (k : Demand3 bench_sheet dark S Kind.pictures) where
    -- no request writes
    unwritten : S.memory Kind.pictures (reqbufs ∷ qbuf 0 ∷ qbuf 1 ∷ streamon ∷ []) ≡ dark Kind.pictures
    unwritten =
        k.asks (reqbufs ∷ qbuf 0 ∷ qbuf 1 ∷ []) 0x40045612 video ∙ k.asks (reqbufs ∷ qbuf 0 ∷ []) 0xC044560F (buffer 1)
        ∙ k.asks (reqbufs ∷ []) 0xC044560F (buffer 0) ∙ k.asks [] 0xC0145608 ten_buffers ∙ k.begins

    -- the first frame is stored in buffer 0, the second in buffer 1
    stored_0 : (S.arrival (reqbufs ∷ qbuf 0 ∷ qbuf 1 ∷ streamon ∷ []) 1 white 0 0 (dark Kind.pictures) ≡ Stored 0 0)
        × (take (length white) (drop (slot_offset 0 (paper_in bench_sheet S Kind.pictures (reqbufs ∷ qbuf 0 ∷ qbuf 1 ∷ streamon ∷ [])).size) (S.memory Kind.pictures (reqbufs ∷ qbuf 0 ∷ qbuf 1 ∷ streamon ∷ comes ∷ []))) ≡ white)
    unfolding P1 P2 P3 request_of call_of known_words word_at le32 bytes_of
    stored_0 =
        let (x, y) = k.stored (reqbufs ∷ []) 0xC044560F (buffer 0) (qbuf 1 ∷ streamon ∷ []) white 0 0 (dark Kind.pictures)
        (refl, refl, hand_0, rw after_0 tt)
        (ap wholes after_0 ∙ sym (ap (λ (p : Paper). length p.incoming) (at_four S d)))
        whole_1 in
        (x ∙ ap (λ (p : Paper). Stored 0 (reduced p.run.accepted)) at_3, y)

    stored_1 : take (length white) (drop (slot_offset 1 614400) (S.memory Kind.pictures (reqbufs ∷ qbuf 0 ∷ qbuf 1 ∷ streamon ∷ comes ∷ comes ∷ []))) ≡ white
    unfolding P1 P2 P3 P4 request_of call_of known_words word_at le32 bytes_of
    stored_1 =
        let (x, y) = k.stored (reqbufs ∷ qbuf 0 ∷ []) 0xC044560F (buffer 1) (streamon ∷ comes ∷ []) white 0 0 (dark Kind.pictures)
        (refl, refl, hand_1, rw after_1 tt)
        (ap wholes after_1 ∙ sym (ap (λ (p : Paper). length p.incoming) at_1))
        whole_2 in
        ap (λ (p : Paper). take (length white) (drop (slot_offset 1 p.size) (S.memory Kind.pictures (reqbufs ∷ qbuf 0 ∷ qbuf 1 ∷ streamon ∷ comes ∷ comes ∷ [])))) (sym at_4) ∙ y

    -- buffer 0 was handed in first, so the first DQBUF answers it
    oldest : word_at (S.request (reqbufs ∷ qbuf 0 ∷ qbuf 1 ∷ streamon ∷ comes ∷ comes ∷ []) 0xC0445611 (buffer 0)).argument 0 ≡ 0
    unfolding request_of call_of known_words word_at le32 bytes_of
    oldest =
        let (r, index, number, used, seconds, microseconds, bytes) = k.returned (reqbufs ∷ []) 0xC044560F (buffer 0) (qbuf 1 ∷ streamon ∷ comes ∷ comes ∷ []) 0xC0445611 (buffer 0)
        (refl, refl, hand_0, rw both_full tt)
        (ap dequeues both_full ∙ sym (ap (λ (p : Paper). length p.outgoing + length p.incoming) (at_four S d)))
        refl refl takes in
        index

-- a white frame does not stand where there is a zero
no_white : (m : List ℕ) (n : ℕ) → get_or m (n + 0) 0 ≡ 0 → take (length white) (drop n m) ≡ white → ⊥
no_white m n z h =
    let some : 0 < length white = omega (arith, plain_long 614400 1) in
    let e : get_or (take (length white) (drop n m)) 0 0 ≡ 0 = get_or-take (length white) (drop n m) 0 0 some ∙ get_or-drop n m 0 0 ∙ z in
    let o : get_or white 0 0 ≡ 1 = plain_first 614400 1 (omega arith) in
    let q : get_or (take (length white) (drop n m)) 0 0 ≡ get_or white 0 0 = ap (λ (l : List ℕ). get_or l 0 0) h in
    omega (arith, e, o, q)

pub idle_arrival : Out IdleArrival
idle_arrival M fault meets =
    let S : Session = M bench_sheet dark in
    let d : Demand1 bench_sheet dark S = meets.demand_1 bench_sheet dark in
    let k : Demand3 bench_sheet dark S Kind.pictures = meets.demand_3 bench_sheet dark Kind.pictures in
    let same : S.memory Kind.pictures (reqbufs ∷ qbuf 0 ∷ qbuf 1 ∷ streamon ∷ comes ∷ []) ≡ dark Kind.pictures = fault bench_sheet dark (reqbufs ∷ qbuf 0 ∷ qbuf 1 ∷ streamon ∷ []) white 0 0 (dark Kind.pictures) ∙ unwritten S d k in
    let n : ℕ = slot_offset 0 (paper_in bench_sheet S Kind.pictures (reqbufs ∷ qbuf 0 ∷ qbuf 1 ∷ streamon ∷ [])).size in
    no_white (dark Kind.pictures) n (plain_zero 2457600 (n + 0)) (ap (λ (m : List ℕ). take (length white) (drop n m)) (sym same) ∙ (stored_0 S d k).1)

pub later_pretend_law : Out LaterPretend
unfolding slot_size
later_pretend_law M fault meets =
    let S : Session = M bench_sheet dark in
    let d : Demand1 bench_sheet dark S = meets.demand_1 bench_sheet dark in
    let k : Demand3 bench_sheet dark S Kind.pictures = meets.demand_3 bench_sheet dark Kind.pictures in
    let cs : List Call = reqbufs ∷ qbuf 0 ∷ qbuf 1 ∷ streamon ∷ [] in
    let one : S.memory Kind.pictures (more cs comes) ≡ sets (dark Kind.pictures) (slot_offset 0 (paper_in bench_sheet S Kind.pictures cs).size) white =
    k.writes cs white 0 0 (dark Kind.pictures) ∙ ap₂ (λ (r : Arrival) (m : List ℕ). written_by r (paper_in bench_sheet S Kind.pictures cs).size m white) (stored_0 S d k).0 (unwritten S d k) in
    let two : S.memory Kind.pictures (more (more cs comes) comes) ≡ S.memory Kind.pictures (more cs comes) = fault bench_sheet dark cs white 0 0 (dark Kind.pictures) 0 0 [] white 0 0 (dark Kind.pictures) (stored_0 S d k).0 in
    let zero : get_or (sets (dark Kind.pictures) (slot_offset 0 (paper_in bench_sheet S Kind.pictures cs).size) white) (slot_offset 1 614400 + 0) 0 ≡ 0 =
    sets_behind white (dark Kind.pictures) (slot_offset 0 (paper_in bench_sheet S Kind.pictures cs).size) (slot_offset 1 614400 + 0) 0 (omega (arith, plain_long 614400 1)) ∙ plain_zero 2457600 (slot_offset 1 614400 + 0) in
    no_white (sets (dark Kind.pictures) (slot_offset 0 (paper_in bench_sheet S Kind.pictures cs).size) white) (slot_offset 1 614400) zero
    (ap (λ (m : List ℕ). take (length white) (drop (slot_offset 1 614400) m)) (sym (two ∙ one)) ∙ stored_1 S d k)

pub stored_numbered_law : Out StoredNumbered
unfolding P1 P2 P3
stored_numbered_law M fault meets =
    let S : Session = M bench_sheet dark in
    let d : Demand1 bench_sheet dark S = meets.demand_1 bench_sheet dark in
    let e = fault bench_sheet dark (reqbufs ∷ qbuf 0 ∷ qbuf 1 ∷ streamon ∷ torn ∷ []) white 0 0 (dark Kind.pictures) 0 1 (second_0 S d) in
    let n = ap (λ (r : Run). r.accepted - (r.damaged + r.dropped)) (torn_counts S d (meets.counts bench_sheet dark Kind.pictures)) in
    omega (arith, e, n)

pub youngest_first_law : Out YoungestFirst
unfolding request_of call_of known_words word_at le32 bytes_of
youngest_first_law M fault meets =
    let S : Session = M bench_sheet dark in
    let d : Demand1 bench_sheet dark S = meets.demand_1 bench_sheet dark in
    let e = fault bench_sheet dark (reqbufs ∷ qbuf 0 ∷ qbuf 1 ∷ streamon ∷ comes ∷ []) white 0 0 (dark Kind.pictures) 1 1 0xC0445611 (buffer 0) (second_1 S d) refl refl (takes S d) in
    let o = oldest S d (meets.demand_3 bench_sheet dark Kind.pictures) in
    omega (arith, e, o)
