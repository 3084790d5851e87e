use mathlib.Core.Path.{refl}
use Rattle.claims_shut_out.proofs.Shut.{never_opens_law, all_refusing_law, grants_none_law, grants_fewer_law, constant_verdict, always_complete_law, invented_totals, try_echoes_law, odd_tried_law, odd_set_law, left_raised_law, failed_counted_law}
use Rattle.claims_shut_out.proofs.Film.{idle_arrival, later_pretend_law, stored_numbered_law, youngest_first_law}
use Rattle.claims_shut_out.proofs.Complete.{never_complete_law}
use Rattle.claims_shut_out.proofs.Stopped.{soon_when_stopped_law, never_soon_law, unknown_invalid_law}
use Rattle.claims_shut_out.proofs.Sizes.{tie_up_law, greatest_missed_law, from_above_law}
use Rattle.claims_shut_out.proofs.Crops.{fields_mixed, top_lowered, crop_moved}
use Rattle.claims_shut_out.proofs.Streams.{streams_mixed_law, held_up_law, twice_taken_law, all_types_law, one_verdict_law}
use Rattle.claims_shut_out.proofs.shut_out.Goals as goal

pub returns : goal.returns
returns c = (
  refl,
  record {
    never_opens_law = never_opens_law;
    all_refusing_law = all_refusing_law;
    grants_none_law = grants_none_law;
    grants_fewer_law = grants_fewer_law;
    constant_verdict = constant_verdict;
    always_complete_law = always_complete_law;
    never_complete_law = never_complete_law;
    idle_arrival = idle_arrival;
    later_pretend_law = later_pretend_law;
    invented_totals = invented_totals;
    try_echoes_law = try_echoes_law;
    odd_tried_law = odd_tried_law;
    odd_set_law = odd_set_law;
    left_raised_law = left_raised_law;
    failed_counted_law = failed_counted_law;
    stored_numbered_law = stored_numbered_law;
    youngest_first_law = youngest_first_law;
    soon_when_stopped_law = soon_when_stopped_law;
    never_soon_law = never_soon_law;
    unknown_invalid_law = unknown_invalid_law;
    tie_up_law = tie_up_law;
    greatest_missed_law = greatest_missed_law;
    from_above_law = from_above_law;
    fields_mixed = fields_mixed;
    top_lowered = top_lowered;
    crop_moved = crop_moved;
    streams_mixed_law = streams_mixed_law;
    held_up_law = held_up_law;
    twice_taken_law = twice_taken_law;
    all_types_law = all_types_law;
    one_verdict_law = one_verdict_law;
  },
)
