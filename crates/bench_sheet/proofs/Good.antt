-- The bench sheets keep every rule of a sheet: the test is run on their bytes. Assumes nothing.
use mathlib.Core.Path.{◌≡◌, refl}
use mathlib.Core.Bool.{true}
use Rattle.wire_read.specs.Words.{word_at, le32, bytes_of}
use Rattle.wire_signed.specs.Signed.{signed, signed_at, above}
use Rattle.sheet_contents.specs.Contents.{identity_at, identity_count, formats_at, format_count, geometry_at, geometry_count, controls_at, control_count, driver_of, card_of, bus_of, format_at, control_at}
use Rattle.sheet_records.specs.Records.{format_code, format_description, control_id, control_kind, control_name, limits_of, control_flags}
use Rattle.sheet_geometry.specs.Geometry.{range_at, widths_of, heights_of, line_alignment, rect_at, crop_bounds, crop_default, pixel_aspect}
use Rattle.sheet_rules.specs.Folds.{all_below, any_below}
use Rattle.sheet_rules.specs.Rules.{has_zero, contents_ok, identity_ok, known_code, new_code, format_ok, formats_ok, range_ok, alignment_ok, bound_ok, inside_ok, bounds_ok, default_ok, aspect_ok, geometry_ok, on_grid, grid_ok, exactly, limits_ok, control_ok, rising_at, controls_ok, bodies_ok, good_sheet}
use Rattle.bench_sheet.specs.Bench.{bench_sheet, odd_sheet}

both_good : (good_sheet bench_sheet ≡ true) × (good_sheet odd_sheet ≡ true)
unfolding bench_sheet odd_sheet word_at le32 bytes_of signed signed_at above identity_at identity_count formats_at format_count geometry_at geometry_count controls_at control_count driver_of card_of bus_of format_at format_code format_description range_at widths_of heights_of line_alignment rect_at crop_bounds crop_default pixel_aspect control_at control_id control_kind control_name limits_of control_flags all_below any_below has_zero contents_ok identity_ok known_code new_code format_ok formats_ok range_ok alignment_ok bound_ok inside_ok bounds_ok default_ok aspect_ok geometry_ok on_grid grid_ok exactly limits_ok control_ok rising_at controls_ok bodies_ok good_sheet
both_good = (refl, refl)

pub bench_good : good_sheet bench_sheet ≡ true
bench_good = both_good.0

pub odd_good : good_sheet odd_sheet ≡ true
odd_good = both_good.1
