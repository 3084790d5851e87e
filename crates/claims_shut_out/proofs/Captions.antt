-- A run of captions on the bench: Caption 525 is asked for, four buffers are granted, one is handed in, a run begins.
use mathlib.Core.Path.{◌≡◌, refl, ap, ◌∙◌}
use mathlib.Core.Bool.{true}
use Prim.Native.Nat.{ℕ}
use mathlib.Core.List.{List, [], ◌∷◌}
use Rattle.stream_maps.specs.Maps.{any_mapped, no_maps}
use Rattle.wire_read.specs.Words.{word_at, le32, bytes_of}
use Rattle.wire_signed.specs.Signed.{signed}
use Rattle.ioctl_table.specs.Table.{request_of, call_of, known_words}
use Rattle.wire_read.specs.Lists.{tab, any}
use Rattle.stream_slots.specs.Slot.{slot_size}
use Rattle.stream_run.specs.Switches.{grant_of}
use Rattle.stream_arrival.specs.declared.Arrival.TheVariants.{Stored}
use Rattle.sheet_rules.specs.Folds.{all_below, any_below}
use Rattle.service_rules.specs.Services.{has, set_of, offered_at}
use Rattle.service_rules.specs.Negotiation.{common, fitting_at, negotiated_lines, count_below, io_size}
use Rattle.service_replies.specs.Halves.{half_at}
use Rattle.service_replies.specs.Services.{lines_at, asked_services, services_reply}
use Rattle.service_replies.proofs.Reply.{told_lines, told_size, asked_length, asked_fit}
use Rattle.caption_rules.specs.Caption.{negotiated_at, seen_before, good_records, whole_caption}
use Rattle.stream_history.specs.Paper.{Paper, blank, step}
use Rattle.stream_history.specs.Paper.Event.{put, begun, ended, sized}
use Rattle.claims.specs.Calls.{Kind, arrival_time}
use Rattle.claims.specs.Machine.{Session}
use Rattle.claims.specs.Desk.{desk_in}
use Rattle.claims.specs.Demands.{Demand1, Answers}
use Rattle.bench_sheet.specs.Bench.{bench_sheet}
use Rattle.claims_shut_out.specs.Calls.{reqbufs, dark, services, caption_buffers, caption_buffer, caption_type, sets, asks, hands, begins, line21}
use Rattle.claims_shut_out.proofs.Played.{dark_long, On, asked_both, arrives, then, asks_ten, four, at_four}
use Rattle.claims_shut_out.proofs.Streams.{no_captions}

-- ---- the services

-- two lines, of 64 bytes each
two_lines : io_size (asked_services services) ≡ 128
unfolding asked_services negotiated_lines fitting_at common offered_at set_of has tab count_below io_size half_at le32 bytes_of
two_lines = refl

answered_size_law : word_at (services_reply 6 (asked_services services)) 104 ≡ 128
answered_size_law =
    told_size 6 (asked_services services) (asked_length services) (asked_fit services)
    ∙ ap io_size (told_lines 6 (asked_services services) (asked_length services) (asked_fit services)) ∙ two_lines

pub is_whole_law : whole_caption (asked_services services) line21 (arrival_time 0 0) ≡ true
unfolding whole_caption good_records seen_before negotiated_at asked_services negotiated_lines fitting_at common offered_at set_of has all_below any_below tab any half_at word_at le32 bytes_of signed
is_whole_law = refl

-- ---- the run

-- the paper of the captions after each call
unfoldable pub C1 : Paper
C1 = step (blank 0) (sized 128)

unfoldable pub C2 : Paper
C2 = step C1 (ended 4)

unfoldable pub C3 : Paper
C3 = step C2 (put 0)

unfoldable pub C4 : Paper
C4 = step C3 begun

module _ (S : Session) (d : Demand1 bench_sheet dark S) (k : Answers bench_sheet dark S) where
  pub sets_them : (S.request (reqbufs ∷ []) 0xC0CC5605 services).number ≡ 0
  unfolding request_of call_of known_words word_at le32 bytes_of
  sets_them = asked_both S d (reqbufs ∷ []) (four S d) (blank 0) 0xC0CC5605 services (at_four S d) (no_captions S d) refl

  answers : (S.request (reqbufs ∷ []) 0xC0CC5605 services).argument ≡ services_reply 6 (asked_services services)
  unfolding request_of call_of known_words word_at le32 bytes_of
  answers = k.arguments (reqbufs ∷ []) 0xC0CC5605 services sets_them

  pictures_1 : On S d Kind.pictures (reqbufs ∷ sets ∷ []) (four S d)
  unfolding request_of call_of known_words word_at le32 bytes_of
  pictures_1 = then S d Kind.pictures (reqbufs ∷ []) (four S d) 0xC0CC5605 services (at_four S d) sets_them

  sized_so : On S d Kind.captions (reqbufs ∷ sets ∷ []) (step (blank 0) (sized (word_at (S.request (reqbufs ∷ []) 0xC0CC5605 services).argument 104)))
  unfolding request_of call_of known_words word_at le32 bytes_of
  sized_so = then S d Kind.captions (reqbufs ∷ []) (blank 0) 0xC0CC5605 services (no_captions S d) sets_them

  at_1 : On S d Kind.captions (reqbufs ∷ sets ∷ []) C1
  unfolding C1
  at_1 = sized_so ∙ ap (λ (b : List ℕ). step (blank 0) (sized (word_at b 104))) answers ∙ ap (λ (n : ℕ). step (blank 0) (sized n)) answered_size_law

  asks_them : (S.request (reqbufs ∷ sets ∷ []) 0xC0145608 caption_buffers).number ≡ 0
  unfolding C1 request_of call_of known_words word_at le32 bytes_of any any_mapped no_maps
  asks_them = asked_both S d (reqbufs ∷ sets ∷ []) (four S d) C1 0xC0145608 caption_buffers pictures_1 at_1 refl

  gets_them : word_at (S.request (reqbufs ∷ sets ∷ []) 0xC0145608 caption_buffers).argument 0 ≡ 4
  unfolding C1 request_of call_of known_words word_at le32 bytes_of grant_of slot_size
  gets_them = d.grants (reqbufs ∷ sets ∷ []) 0xC0145608 caption_buffers refl asks_them ∙ rw (dark_long Kind.captions, at_1)

  pub pictures_2 : On S d Kind.pictures (reqbufs ∷ sets ∷ asks ∷ []) (four S d)
  unfolding request_of call_of known_words word_at le32 bytes_of
  pictures_2 = then S d Kind.pictures (reqbufs ∷ sets ∷ []) (four S d) 0xC0145608 caption_buffers pictures_1 asks_them

  pub at_2 : On S d Kind.captions (reqbufs ∷ sets ∷ asks ∷ []) C2
  unfolding C2 request_of call_of known_words word_at le32 bytes_of
  at_2 = then S d Kind.captions (reqbufs ∷ sets ∷ []) C1 0xC0145608 caption_buffers at_1 asks_them ∙ ap (λ (n : ℕ). step C1 (ended n)) gets_them

  hands_it : (S.request (reqbufs ∷ sets ∷ asks ∷ []) 0xC044560F (caption_buffer 0)).number ≡ 0
  unfolding C1 C2 request_of call_of known_words word_at le32 bytes_of any
  hands_it = asked_both S d (reqbufs ∷ sets ∷ asks ∷ []) (four S d) C2 0xC044560F (caption_buffer 0) pictures_2 at_2 refl

  pictures_3 : On S d Kind.pictures (reqbufs ∷ sets ∷ asks ∷ hands ∷ []) (four S d)
  unfolding request_of call_of known_words word_at le32 bytes_of
  pictures_3 = then S d Kind.pictures (reqbufs ∷ sets ∷ asks ∷ []) (four S d) 0xC044560F (caption_buffer 0) pictures_2 hands_it

  pub at_3 : On S d Kind.captions (reqbufs ∷ sets ∷ asks ∷ hands ∷ []) C3
  unfolding C3 request_of call_of known_words word_at le32 bytes_of
  at_3 = then S d Kind.captions (reqbufs ∷ sets ∷ asks ∷ []) C2 0xC044560F (caption_buffer 0) at_2 hands_it

  begins_it : (S.request (reqbufs ∷ sets ∷ asks ∷ hands ∷ []) 0x40045612 caption_type).number ≡ 0
  unfolding C1 C2 C3 request_of call_of known_words word_at le32 bytes_of
  begins_it = asked_both S d (reqbufs ∷ sets ∷ asks ∷ hands ∷ []) (four S d) C3 0x40045612 caption_type pictures_3 at_3 refl

  pub at_4 : On S d Kind.captions (reqbufs ∷ sets ∷ asks ∷ hands ∷ begins ∷ []) C4
  unfolding C1 C2 C3 C4 request_of call_of known_words word_at le32 bytes_of
  at_4 = then S d Kind.captions (reqbufs ∷ sets ∷ asks ∷ hands ∷ []) C3 0x40045612 caption_type at_3 begins_it

  -- the services in force then
  pub in_force : (desk_in bench_sheet S (reqbufs ∷ sets ∷ asks ∷ hands ∷ begins ∷ [])).services ≡ asked_services services
  unfolding request_of call_of known_words word_at le32 bytes_of
  in_force =
      rw (asks_ten S d, sets_them, asks_them, hands_it, begins_it)
      (ap (λ (b : List ℕ). lines_at b 6) answers ∙ told_lines 6 (asked_services services) (asked_length services) (asked_fit services))

  -- a frame of one record is stored
  pub stores : S.arrival (reqbufs ∷ sets ∷ asks ∷ hands ∷ begins ∷ []) 6 line21 0 0 (dark Kind.captions) ≡ Stored 0 0
  unfolding C1 C2 C3 C4
  stores = arrives S d Kind.captions (reqbufs ∷ sets ∷ asks ∷ hands ∷ begins ∷ []) C4 line21 0 0 (dark Kind.captions) at_4 (rw (dark_long Kind.captions)) ∙ rw (in_force, is_whole_law)
