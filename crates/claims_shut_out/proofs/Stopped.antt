-- The faults of a device that a client cannot tell idle from stopped, and of one that takes an unknown word for a bad argument.
use mathlib.Core.Path.{◌≡◌, refl, sym, ◌∙◌}
use mathlib.Core.Bool.{false≢true}
use native.Mathlib.Omega.{arith}
use mathlib.Core.List.{[], ◌∷◌}
use Rattle.wire_read.specs.Words.{word_at, le32, bytes_of}
use Rattle.ioctl_table.specs.Table.{request_of, call_of, known_words}
use Rattle.stream_history.specs.Paper.{blank, step}
use Rattle.stream_history.specs.Paper.Event.{begun}
use Rattle.claims.specs.Machine.{Session}
use Rattle.claims.specs.Demands.{Demand1}
use Rattle.claims_together.proofs.Waiting.{is_on, is_off}
use Rattle.bench_sheet.specs.Bench.{bench_sheet}
use Rattle.claims_shut_out.specs.Calls.{buffer, reqbufs, streamon, dark}
use Rattle.claims_shut_out.specs.Faults.{SoonWhenStopped, NeverSoon, UnknownInvalid, Out}
use Rattle.claims_shut_out.proofs.Played.{asked, at_first, four}
use Rattle.claims_shut_out.proofs.Shut.{runs}

-- 11 says that a run is on, and the stop that none is
pub soon_when_stopped_law : Out SoonWhenStopped
soon_when_stopped_law M (s, m, k, cs, w, a, ended, call, type, e) meets =
    false≢true (sym (is_off s (M s m) k cs ended) ∙ is_on s (M s m) k cs ((meets.stopped_or_idle s m k).soon cs w a call type e).0)

-- buffers and a run, and no frame yet: 11
pub waits : (S : Session) → Demand1 bench_sheet dark S → (S.request (reqbufs ∷ streamon ∷ []) 0xC0445611 (buffer 0)).number ≡ 11
unfolding request_of call_of known_words word_at le32 bytes_of
waits S d = asked S d (reqbufs ∷ streamon ∷ []) (step (four S d) begun) 0xC0445611 (buffer 0) (runs S d) refl

pub never_soon_law : Out NeverSoon
unfolding request_of call_of known_words
never_soon_law M fault meets = fault bench_sheet dark (reqbufs ∷ streamon ∷ []) 0xC0445611 (buffer 0) refl (waits (M bench_sheet dark) (meets.demand_1 bench_sheet dark))

-- 0 is no word of the device
pub unknown_invalid_law : Out UnknownInvalid
unfolding request_of call_of known_words
unknown_invalid_law M fault meets =
    let is : ((M bench_sheet dark).request [] 0 []).number ≡ 25 = asked (M bench_sheet dark) (meets.demand_1 bench_sheet dark) [] (blank 614400) 0 [] (at_first (M bench_sheet dark) (meets.demand_1 bench_sheet dark)) refl in
    omega (arith, is, fault bench_sheet dark [] 0 [] refl)
