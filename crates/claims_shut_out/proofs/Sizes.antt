-- The faults of sizes, and devices that have them.
use mathlib.Core.Path.{◌≡◌, refl, ap, ◌∙◌}
use mathlib.Core.Logic.{inl}
use Prim.Native.Nat.{ℕ, ◌<◌}
use native.Mathlib.Omega.{arith}
use mathlib.Core.List.{[]}
use Rattle.wire_read.specs.Lists.{tab, any, first}
use Rattle.wire_read.specs.Words.{word_at, le32, bytes_of}
use Rattle.ioctl_table.specs.Table.{request_of, call_of, known_words}
use Rattle.sheet_contents.specs.Contents.{geometry_at}
use Rattle.sheet_geometry.specs.Geometry.{range_at, widths_of}
use Rattle.sheet_rules.proofs.Facts.{Sizes}
use Rattle.sheet_rules.proofs.Good.{geometry}
use Rattle.grid_rules.specs.Grid.{apart, first_unbeaten, sizes_of, walk_sizes}
use Rattle.claims_together.proofs.Sizes.{is_try, good, nearest_width}
use Rattle.claims_together.proofs.Meets.{device_meets}
use Rattle.bench_sheet.specs.Bench.{bench_sheet}
use Rattle.claims_shut_out.specs.Calls.{wide, dark}
use Rattle.claims_shut_out.specs.Faults.{TieUp, GreatestMissed, FromAbove, Out}
use Rattle.claims_shut_out.specs.Wrong.{ours, tie_up, greatest_missed, from_above}
use Rattle.claims_shut_out.proofs.Shut.{width_asked, of_pictures, tries}

-- ---- no machine has them

pub tie_up_law : Out TieUp
tie_up_law M (s, m, cs, w, a, k, (call, type, z), less, most, tie) meets =
    let n = nearest_width s m (M s m) (meets.demand_1 s m) (meets.demand_2 s m) cs w a call type z in
    omega (arith, less, n.tie k (omega (arith, less, most)) tie)

pub greatest_missed_law : Out GreatestMissed
unfolding apart
greatest_missed_law M (s, m, cs, w, a, (call, type, z), asked, less) meets =
    let n = nearest_width s m (M s m) (meets.demand_1 s m) (meets.demand_2 s m) cs w a call type z in
    let g : Sizes (widths_of s) = (geometry s (good s m (M s m) (meets.demand_1 s m) cs w a z)).widths in
    omega (arith, asked, less, g.whole, n.near g.steps (omega (arith, g.whole)))

pub from_above_law : Out FromAbove
from_above_law M (s, m, cs, w, a, k, (call, type, z), below, above, most, nearer) meets =
    let n = nearest_width s m (M s m) (meets.demand_1 s m) (meets.demand_2 s m) cs w a call type z in
    omega (arith, nearer, n.near k (omega (arith, below, above, most)))

-- ---- there are devices that have them

-- what our device answers on the bench where this width is asked for
abbrev answered : ℕ → ℕ
answered n = word_at ((ours bench_sheet dark).request [] 0xC0CC5640 (wide n)).argument 4

module _ (n : ℕ) where
  accepted : ((ours bench_sheet dark).request [] 0xC0CC5640 (wide n)).number ≡ 0
  accepted = tries n (ours bench_sheet dark) (device_meets.demand_1 bench_sheet dark)

  -- it is what the walk gives
  told : n < 1000 → answered n ≡ walk_sizes (widths_of bench_sheet) n
  told h = (device_meets.nearest_sizes bench_sheet dark).widths [] 0xC0CC5640 (wide n) (inl is_try) (of_pictures n) accepted ∙ ap (walk_sizes (widths_of bench_sheet)) (width_asked n h)

-- half way between 288 and 304
pub goes_up : TieUp tie_up
unfolding bench_sheet geometry_at range_at widths_of request_of call_of known_words word_at le32 bytes_of apart first_unbeaten sizes_of walk_sizes tab any first
goes_up =
    let is : answered 297 ≡ 304 = told 297 (omega arith) in
    (bench_sheet, dark, [], 0xC0CC5640, wide 296, 8, (inl refl, refl, accepted 297), omega (arith, is), omega (arith, is), rw is)

-- the greatest, 640
pub misses : GreatestMissed greatest_missed
unfolding bench_sheet geometry_at range_at widths_of request_of call_of known_words word_at le32 bytes_of apart first_unbeaten sizes_of walk_sizes tab any first
misses =
    let is : answered 624 ≡ 624 = told 624 (omega arith) in
    (bench_sheet, dark, [], 0xC0CC5640, wide 640, (inl refl, refl, accepted 624), refl, omega (arith, is))

-- 290 is nearer to 288 than to 304
pub stays_above : FromAbove from_above
unfolding bench_sheet geometry_at range_at widths_of request_of call_of known_words word_at le32 bytes_of apart first_unbeaten sizes_of walk_sizes tab any first
stays_above =
    let is : answered 298 ≡ 304 = told 298 (omega arith) in
    (bench_sheet, dark, [], 0xC0CC5640, wide 290, 8, (inl refl, refl, accepted 298), omega arith, omega (arith, is), omega (arith, is), rw is (omega arith))
