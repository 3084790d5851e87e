-- A film that has to be COMPLETE: one frame, stored and handed over, and a stop.
use mathlib.Core.Path.{◌≡◌, refl, ap, ◌∙◌}
use native.Mathlib.Omega.{arith}
use mathlib.Core.List.{List, [], ◌∷◌}
use Rattle.wire_read.specs.Words.{word_at, le32, bytes_of}
use Rattle.ioctl_table.specs.Table.{request_of, call_of, known_words}
use Rattle.stream_history.specs.Paper.{Paper, Event, blank, step, handed_over}
use Rattle.stream_history.specs.Paper.Event.{put, whole, handed, begun, ended}
use Rattle.stream_history.specs.Claims.{AllHandedOver}
use Rattle.claims.specs.Calls.{Kind, Call, arrival_time}
use Rattle.claims.specs.Machine.{Session, more}
use Rattle.claims.specs.Words.{opening_size, events_in, handed_in, paper_in}
use Rattle.claims.specs.Demands.{Demand1}
use Rattle.bench_sheet.specs.Bench.{bench_sheet}
use Rattle.claims_shut_out.specs.Calls.{ten_buffers, buffer, video, reqbufs, qbuf, streamon, dqbuf, streamoff, dark, white, comes}
use Rattle.claims_shut_out.specs.Faults.{NeverComplete, Out}
use Rattle.claims_shut_out.proofs.Played.{On, at_first, asked, then, tells, goes, asks_ten, gets_four}
use Rattle.claims_shut_out.proofs.Film.{P1, P2, P3, P4, at_4, tells_0, tells_1, tells_2, tells_3}

abbrev film : List Call
film = reqbufs ∷ qbuf 0 ∷ qbuf 1 ∷ streamon ∷ comes ∷ dqbuf ∷ streamoff ∷ []

module _ (S : Session) (d : Demand1 bench_sheet dark S) where
  P5 : Paper
  P5 = step (P4 S d) handed

  take_1 : (S.request (reqbufs ∷ qbuf 0 ∷ qbuf 1 ∷ streamon ∷ comes ∷ []) 0xC0445611 (buffer 0)).number ≡ 0
  unfolding P1 P2 P3 P4 request_of call_of known_words word_at le32 bytes_of
  take_1 = asked S d (reqbufs ∷ qbuf 0 ∷ qbuf 1 ∷ streamon ∷ comes ∷ []) (P4 S d) 0xC0445611 (buffer 0) (at_4 S d) refl

  at_5 : On S d Kind.pictures (reqbufs ∷ qbuf 0 ∷ qbuf 1 ∷ streamon ∷ comes ∷ dqbuf ∷ []) P5
  unfolding P5 request_of call_of known_words word_at le32 bytes_of
  at_5 = then S d Kind.pictures (reqbufs ∷ qbuf 0 ∷ qbuf 1 ∷ streamon ∷ comes ∷ []) (P4 S d) 0xC0445611 (buffer 0) (at_4 S d) take_1

  ends : (S.request (reqbufs ∷ qbuf 0 ∷ qbuf 1 ∷ streamon ∷ comes ∷ dqbuf ∷ []) 0x40045613 video).number ≡ 0
  unfolding P1 P2 P3 P4 P5 request_of call_of known_words word_at le32 bytes_of
  ends = asked S d (reqbufs ∷ qbuf 0 ∷ qbuf 1 ∷ streamon ∷ comes ∷ dqbuf ∷ []) P5 0x40045613 video at_5 refl

  at_6 : On S d Kind.pictures film (step P5 (ended 4))
  unfolding P1 P2 P3 P4 P5 request_of call_of known_words word_at le32 bytes_of
  at_6 = then S d Kind.pictures (reqbufs ∷ qbuf 0 ∷ qbuf 1 ∷ streamon ∷ comes ∷ dqbuf ∷ []) P5 0x40045613 video at_5 ends

  -- all that is told
  all_told : events_in bench_sheet S Kind.pictures [] (blank (opening_size bench_sheet Kind.pictures)) film ≡ ended 4 ∷ put 0 ∷ put 1 ∷ begun ∷ whole white (arrival_time 0 0) ∷ handed ∷ ended 4 ∷ []
  unfolding P1 P2 P3 P4 P5 request_of call_of known_words word_at le32 bytes_of
  all_told =
      let c0 : List Call = reqbufs ∷ qbuf 0 ∷ qbuf 1 ∷ streamon ∷ comes ∷ [] in
      goes bench_sheet S Kind.pictures [] reqbufs (qbuf 0 ∷ qbuf 1 ∷ streamon ∷ comes ∷ dqbuf ∷ streamoff ∷ [])
      (tells S d Kind.pictures [] (blank 614400) 0xC0145608 ten_buffers (at_first S d) (asks_ten S d) ∙ ap ended (gets_four S d))
      ∙ behind (ended 4) (tells_0 S d (qbuf 1 ∷ streamon ∷ comes ∷ dqbuf ∷ streamoff ∷ [])
      ∙ behind (put 0) (tells_1 S d (streamon ∷ comes ∷ dqbuf ∷ streamoff ∷ [])
      ∙ behind (put 1) (tells_2 S d (comes ∷ dqbuf ∷ streamoff ∷ [])
      ∙ behind begun (tells_3 S d (dqbuf ∷ streamoff ∷ [])
      ∙ behind (whole white (arrival_time 0 0)) (goes bench_sheet S Kind.pictures c0 dqbuf (streamoff ∷ []) (tells S d Kind.pictures c0 (P4 S d) 0xC0445611 (buffer 0) (at_4 S d) take_1)
      ∙ behind handed (goes bench_sheet S Kind.pictures (more c0 dqbuf) streamoff [] (tells S d Kind.pictures (more c0 dqbuf) P5 0x40045613 video at_5 ends)))))))
    where
      behind : (e : Event) {x y : List Event} → x ≡ y → e ∷ x ≡ e ∷ y
      behind e q = ap (λ (es : List Event). e ∷ es) q

  all_handed : AllHandedOver (paper_in bench_sheet S Kind.pictures film) (handed_in bench_sheet S Kind.pictures film)
  unfolding P1 P2 P3 P4 P5
  all_handed = rw (at_6, ap (handed_over (blank (opening_size bench_sheet Kind.pictures)) []) all_told) (refl, refl, omega arith, refl, refl, refl, refl)

pub never_complete_law : Out NeverComplete
never_complete_law M fault meets =
    let S : Session = M bench_sheet dark in
    fault bench_sheet dark film (((meets.demand_3 bench_sheet dark Kind.pictures).complete film).1 (all_handed S (meets.demand_1 bench_sheet dark)))
