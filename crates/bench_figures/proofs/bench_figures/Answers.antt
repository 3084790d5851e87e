-- The table is computed, both sides of every row. Assumes nothing.
use mathlib.Core.Path.{◌≡◌, refl}
use mathlib.Core.List.{List, map}
use Rattle.wire_read.specs.Words.{word_at, le32, bytes_of}
use Rattle.wire_signed.specs.Signed.{signed, bits, signed_at, above, distance}
use Rattle.sheet_contents.specs.Contents.{geometry_at, controls_at, control_count, control_at}
use Rattle.sheet_records.specs.Records.{control_id, control_kind, limits_of, control_flags, control_fields}
use Rattle.sheet_geometry.specs.Geometry.{range_at, widths_of, line_alignment, rect_at, crop_bounds, crop_default, pixel_aspect}
use Rattle.grid_rules.specs.Grid.{nearest_multiple, nearest_up_to, nearest_size, nearest_value, apart, first_unbeaten, sizes_of, walk_sizes}
use Rattle.format_rules.specs.Code.{bytes_per_pixel, half_chroma}
use Rattle.format_rules.specs.Size.{round_up, bytes_per_line, held_height, first_plane, image_size}
use Rattle.stream_slots.specs.Slot.{slot_size, is_slot, slot_at}
use Rattle.stream_maps.specs.Maps.{any_mapped, no_maps}
use Rattle.stream_mmap.specs.Mapping.{change_of}
use Rattle.stream_status.specs.Buffer.{query_of, status_of, described_of}
use Rattle.buffer_replies.specs.Replies.{buffer_reply}
use Rattle.device_maps.specs.Mapping.{mapped_of}
use Rattle.stream_run.specs.Switches.{grant_of, request_buffers_of as bufferRequest, start_of, stop_of}
use Rattle.stream_run.specs.Stream.{fresh_stream, started, stopped}
use Rattle.stream_words.specs.Moves.{emptied, filled_oldest, standing_of, is_incoming, is_outgoing}
use Rattle.stream_arrival.specs.Arrivals.{placed_of, accepted_of, arrival_of}
use Rattle.sheet_copy.specs.Copy.{kept_of}
use Rattle.sheet_contents.specs.Contents.{formats_at, format_at}
use Rattle.sheet_records.specs.Records.{format_code}
use Rattle.sheet_geometry.specs.Geometry.{heights_of}
use Rattle.ioctl_table.specs.Table.{known_words, call_of, request_of}
use Rattle.negotiation_rules.specs.Negotiation.{opening_format}
use Rattle.control_value_rules.specs.Values.{default_values, opening_values}
use Rattle.stream_verdict.specs.Film.{verdict_after, verdict_of}
use Rattle.device_state.specs.State.{opening_state}
use Rattle.buffer_calls.specs.Buffers.{reqbufs_of, querybuf_of}
use Rattle.run_calls.specs.Runs.{streamon_of, streamoff_of}
use Rattle.device_opening.specs.Opening.{opened_of}
use Rattle.request_topics.specs.Request.{request_answer}
use Rattle.device_film.specs.Film.{device_verdict}
use Rattle.wire_read.specs.Lists.{tab, any, first}
use Rattle.sheet_rules.specs.Folds.{any_below}
use Rattle.service_rules.specs.Services.{has, set_of, offered_at, capability_lines}
use Rattle.service_rules.specs.Negotiation.{common, fitting_at, negotiated_lines, union_of, count_below, io_size}
use Rattle.service_replies.specs.Halves.{half_at}
use Rattle.service_replies.specs.Services.{asked_services}
use Rattle.service_calls.specs.Services.{s_services_of}
use Rattle.bench_sheet.proofs.Good.{bench_good, odd_good}
use Rattle.plane_rules.specs.Planes.{planes_of, component_of, component_length, plane_length, plane_start}
use Rattle.negotiation_rules.specs.Negotiation.{offered, offers_among, chosen_code, negotiated, asked_format}
use Rattle.negotiation_rules.specs.Answer.{picture_words, format_reply}
use Rattle.negotiation_calls.specs.Negotiations.{s_fmt_of, try_fmt_of}
use Rattle.crop_rules.specs.Crop.{min_z, max_z, clamp_z, size_in, clamped_place, even_down, fields_apart, width_in, height_in, left_in, clamped_top, top_in, clamped, opening_crop}
use Rattle.crop_replies.specs.Replies.{crop_reply, crop_capability_reply}
use Rattle.crop_calls.specs.Crops.{asked_crop, cropcap_of, g_crop_of, s_crop_of}
use Rattle.control_place_rules.specs.First.{first_from, first_below}
use Rattle.control_place_rules.specs.Find.{present, place_of}
use Rattle.control_value_rules.specs.Values.{ranged_at, setting_at, setting_of}
use Rattle.control_calls.specs.Controls.{s_ctrl_of}
use Rattle.control_replies.specs.Replies.{value_reply}
use Rattle.bench_sheet.specs.Bench.{bench_sheet, odd_sheet, bench_memory}
use Rattle.bench_figures.specs.Figures.{Figure, opened, odd_opened, figures_of, figures, caption_memory}
use Rattle.bench_figures.proofs.bench_figures.Goals as goal

-- the bench sheets are good, so no opening is refused
opened_good : opened ≡ opening_state (kept_of bench_sheet) bench_memory caption_memory
unfolding opened opened_of
opened_good = rw (bench_good, opened) refl

odd_opened_law : odd_opened ≡ opening_state (kept_of odd_sheet) bench_memory caption_memory
unfolding odd_opened opened_of
odd_opened_law = rw (odd_good, odd_opened) refl

abbrev table : List Figure
table = figures_of (opening_state (kept_of bench_sheet) bench_memory caption_memory) (opening_state (kept_of odd_sheet) bench_memory caption_memory)

computed : map (λ f. f.got) table ≡ map (λ f. f.expected) table
unfolding figures_of arrival_of accepted_of placed_of filled_oldest any first apart first_unbeaten sizes_of walk_sizes offered offers_among chosen_code asked_format picture_words format_reply s_fmt_of try_fmt_of half_at asked_services s_services_of tab any_below has set_of offered_at capability_lines common fitting_at negotiated_lines union_of count_below io_size kept_of known_words call_of request_of opening_state opening_format opening_values default_values fresh_stream emptied request_answer reqbufs_of streamon_of streamoff_of bufferRequest start_of started stop_of stopped device_verdict verdict_of verdict_after format_code format_at formats_at heights_of grant_of bench_sheet word_at le32 bytes_of signed bits signed_at above geometry_at controls_at control_count control_at control_id control_kind limits_of control_flags control_fields range_at widths_of line_alignment rect_at crop_bounds crop_default nearest_multiple nearest_up_to nearest_size nearest_value bytes_per_pixel half_chroma round_up bytes_per_line held_height first_plane image_size slot_size planes_of component_of component_length plane_length plane_start negotiated min_z max_z clamp_z size_in clamped_place even_down fields_apart width_in height_in left_in clamped_top top_in clamped opening_crop distance odd_sheet pixel_aspect crop_reply crop_capability_reply asked_crop cropcap_of g_crop_of s_crop_of first_from first_below present place_of ranged_at setting_at setting_of s_ctrl_of value_reply mapped_of change_of is_slot slot_at any_mapped no_maps querybuf_of query_of status_of described_of standing_of is_incoming is_outgoing buffer_reply
computed = refl

pub returns : goal.returns
unfolding figures
returns c = rw (opened_good, odd_opened_law) computed
