-- The faults that show without an arrival.
use mathlib.Core.Path.{◌≡◌, refl, sym, ap, ◌∙◌}
use mathlib.Core.Logic.{◌≢◌}
use mathlib.Core.Bool.{cond, false≢true}
use Prim.Native.Nat.{ℕ, ◌%◌, ◌<◌}
use native.Mathlib.Omega.{arith}
use mathlib.Core.List.{List, [], ◌∷◌, append-nil}
use lib.Dec.{eqb}
use Rattle.wire_read.specs.Words.{word_at, le32, bytes_of}
use Rattle.wire_signed.specs.Signed.{signed, bits, signed_at}
use Rattle.ioctl_table.specs.Table.{request_of, call_of, known_words}
use Rattle.ioctl_table.specs.declared.table.Call.TheVariants.{SFmt, TryFmt, SCrop}
use Rattle.sheet_contents.specs.Contents.{geometry_at}
use Rattle.sheet_geometry.specs.Geometry.{range_at, widths_of, rect_at, crop_bounds}
use Rattle.grid_rules.specs.Grid.{size_at}
use Rattle.crop_rules.specs.Crop.{min_z, max_z, clamp_z, size_in, clamped_place, width_in, left_in, clamped}
use Rattle.crop_replies.specs.Replies.{crop_reply}
use Rattle.crop_calls.specs.Crops.{asked_crop}
use Rattle.wire_read.specs.Lists.{any}
use Rattle.stream_words.specs.Stream.{Run}
use Rattle.stream_verdict.specs.declared.Verdict.TheVariants.{Running, Complete}
use Rattle.stream_history.specs.Paper.{Paper, blank, step}
use Rattle.stream_history.specs.Paper.Event.{begun}
use Rattle.claims.specs.Calls.{Kind, type_of}
use Rattle.claims.specs.Calls.Call.{request}
use Rattle.claims.specs.Machine.{Session, Given}
use Rattle.claims.specs.Words.{paper_in}
use Rattle.claims.specs.Desk.{Desk, opening_desk, chosen, desk_in}
use Rattle.claims.specs.Demands.{Demand1, Answers, Counts}
use Rattle.claims_together.proofs.Sizes.{is_try}
use Rattle.bench_sheet.specs.Bench.{bench_sheet}
use Rattle.claims_shut_out.specs.Calls.{ten_buffers, buffer, video, reqbufs, streamon, wide, dark}
use Rattle.claims_shut_out.specs.Faults.{NeverOpens, AllRefusing, GrantsNone, GrantsFewer, ConstantVerdict, AlwaysComplete, InventedTotals, TryEchoes, OddRefused, LeftRaised, FailedCounted, Out}
use Rattle.claims_shut_out.proofs.Played.{opens, at_first, asked, then, asks_ten, gets_four, four, at_four}

-- ---- refusing

pub never_opens_law : Out NeverOpens
never_opens_law M fault meets = fault bench_sheet dark (opens (M bench_sheet dark) (meets.demand_1 bench_sheet dark))

pub all_refusing_law : Out AllRefusing
all_refusing_law M fault meets = fault bench_sheet dark [] 0xC0145608 ten_buffers (asks_ten (M bench_sheet dark) (meets.demand_1 bench_sheet dark))

-- ---- granting

pub grants_none_law : Out GrantsNone
unfolding request_of call_of known_words
grants_none_law M fault meets =
    let e : word_at ((M bench_sheet dark).request [] 0xC0145608 ten_buffers).argument 0 ≡ 4 = gets_four (M bench_sheet dark) (meets.demand_1 bench_sheet dark) in
    let z : word_at ((M bench_sheet dark).request [] 0xC0145608 ten_buffers).argument 0 ≡ 0 = fault bench_sheet dark [] 0xC0145608 ten_buffers refl in
    omega (arith, e, z)

-- the fourth of four buffers can be handed in
pub grants_fewer_law : Out GrantsFewer
unfolding request_of call_of known_words word_at le32 bytes_of any
grants_fewer_law M fault meets =
    let S : Session = M bench_sheet dark in
    let d : Demand1 bench_sheet dark S = meets.demand_1 bench_sheet dark in
    fault bench_sheet dark [] 0xC0145608 ten_buffers 0xC044560F (buffer 3) refl refl refl (gets_four S d)
    (asked S d (reqbufs ∷ []) (four S d) 0xC044560F (buffer 3) (at_four S d) refl)

-- ---- the verdict and the counts

module _ (S : Session) (d : Demand1 bench_sheet dark S) where
  pub starts : (S.request (reqbufs ∷ []) 0x40045612 video).number ≡ 0
  unfolding request_of call_of known_words word_at le32 bytes_of
  starts = asked S d (reqbufs ∷ []) (four S d) 0x40045612 video (at_four S d) refl

  -- a run: buffers, then a start
  pub runs : paper_in bench_sheet S Kind.pictures (reqbufs ∷ streamon ∷ []) ≡ step (four S d) begun
  unfolding request_of call_of known_words word_at le32 bytes_of
  runs = then S d Kind.pictures (reqbufs ∷ []) (four S d) 0x40045612 video (at_four S d) starts

pub constant_verdict : Out ConstantVerdict
constant_verdict M (v, same) meets =
    let S : Session = M bench_sheet dark in
    let d : Demand1 bench_sheet dark S = meets.demand_1 bench_sheet dark in
    let k : Counts bench_sheet S Kind.pictures = meets.counts bench_sheet dark Kind.pictures in
    let on : S.verdict (reqbufs ∷ streamon ∷ []) 1 ≡ Running = (k.running (reqbufs ∷ streamon ∷ [])).1 (ap (λ (p : Paper). p.running) (runs S d)) in
    let off : S.verdict [] 1 ≡ Running = same bench_sheet dark [] ∙ sym (same bench_sheet dark (reqbufs ∷ streamon ∷ [])) ∙ on in
    false≢true (sym (ap (λ (p : Paper). p.running) (at_first S d)) ∙ (k.running []).0 off)

-- at first nothing has arrived
pub always_complete_law : Out AlwaysComplete
always_complete_law M (k, fault) meets =
    let e : (M bench_sheet dark).verdict [] (type_of k) ≡ Complete = fault bench_sheet dark [] refl in
    let h = ((meets.demand_3 bench_sheet dark k).complete []).0 e in
    omega (arith, h.1)

pub invented_totals : Out InventedTotals
invented_totals M (r, same) meets =
    let S : Session = M bench_sheet dark in
    let d : Demand1 bench_sheet dark S = meets.demand_1 bench_sheet dark in
    let k : Counts bench_sheet S Kind.pictures = meets.counts bench_sheet dark Kind.pictures in
    let a : r.ran ≡ 0 = ap (λ (x : Run). x.ran) (sym (same bench_sheet dark []) ∙ k.counted []) in
    let b : r.ran ≡ 1 = ap (λ (x : Run). x.ran) (sym (same bench_sheet dark (reqbufs ∷ streamon ∷ [])) ∙ k.counted (reqbufs ∷ streamon ∷ []) ∙ ap (λ (p : Paper). p.run) (runs S d)) in
    omega (arith, a, b)

-- a refusal leaves no trace, so none in the counts
pub failed_counted_law : Out FailedCounted
failed_counted_law M (s, m, k, cs, w, a, call, refused, moved) meets = moved ((((meets.demand_1 s m).kept cs w a refused).1 []).counts k ∙ ap ((M s m).counts k) (append-nil cs))

-- ---- odd sizes

-- the bench has no width that is not a multiple of 16
off_grid : (k : ℕ) (n : ℕ) → 0 < n % 16 → n ≡ size_at (widths_of bench_sheet) k → ⊥
unfolding bench_sheet word_at le32 bytes_of geometry_at range_at widths_of
off_grid k n r h = omega (arith, r, h)

pub width_asked : (n : ℕ) → n < 1000 → word_at (wide n) 4 ≡ n
unfolding word_at le32 bytes_of
width_asked n h = omega (arith, h)

pub of_pictures : (n : ℕ) → word_at (wide n) 0 ≡ 1
unfolding word_at le32 bytes_of
of_pictures n = refl

is_set : (request_of 0xC0CC5605).call ≡ SFmt
unfolding request_of call_of known_words
is_set = refl

module _ (n : ℕ) (S : Session) (d : Demand1 bench_sheet dark S) where
  pub tries : (S.request [] 0xC0CC5640 (wide n)).number ≡ 0
  unfolding request_of call_of known_words word_at le32 bytes_of
  tries = asked S d [] (blank 614400) 0xC0CC5640 (wide n) (at_first S d) refl

  sets : (S.request [] 0xC0CC5605 (wide n)).number ≡ 0
  unfolding request_of call_of known_words word_at le32 bytes_of
  sets = asked S d [] (blank 614400) 0xC0CC5605 (wide n) (at_first S d) refl

pub try_echoes_law : Out TryEchoes
try_echoes_law M fault meets =
    let S : Session = M bench_sheet dark in
    let e : (S.request [] 0xC0CC5640 (wide 300)).argument ≡ wide 300 = fault bench_sheet dark [] 0xC0CC5640 (wide 300) is_try (of_pictures 300) in
    let n = (meets.demand_2 bench_sheet dark).widths [] 0xC0CC5640 (wide 300) is_try (of_pictures 300) (tries 300 S (meets.demand_1 bench_sheet dark)) in
    off_grid n.place 300 (omega arith) (sym (ap (λ (a : List ℕ). word_at a 4) e ∙ width_asked 300 (omega arith)) ∙ n.is)

-- 301 is odd, and no width of the bench
odd_width : word_at (wide 301) 4 % 2 ≡ 1
odd_width = ap (λ (n : ℕ). n % 2) (width_asked 301 (omega arith))

odd_off : (k : ℕ) → word_at (wide 301) 4 ≢ size_at (widths_of bench_sheet) k
odd_off k h = off_grid k 301 (omega arith) (sym (width_asked 301 (omega arith)) ∙ h)

pub odd_tried_law : Out (λ M. OddRefused M TryFmt)
odd_tried_law M fault meets = fault bench_sheet dark [] 0xC0CC5640 (wide 301) is_try (of_pictures 301) odd_width odd_off (tries 301 (M bench_sheet dark) (meets.demand_1 bench_sheet dark))

pub odd_set_law : Out (λ M. OddRefused M SFmt)
odd_set_law M fault meets = fault bench_sheet dark [] 0xC0CC5605 (wide 301) is_set (of_pictures 301) odd_width odd_off (sets 301 (M bench_sheet dark) (meets.demand_1 bench_sheet dark))

-- ---- a negative left

-- 608x400 at this left
abbrev crop : ℕ → List ℕ
crop left = bytes_of (1 ∷ left ∷ 0 ∷ 608 ∷ 400 ∷ [])

-- what G_CROP tells of the crop that was set
module _ (S : Session) (d : Demand1 bench_sheet dark S) (k : Answers bench_sheet dark S) (left : ℕ) where
  set_crop : (S.request [] 0x4014563C (crop left)).number ≡ 0
  unfolding request_of call_of known_words word_at le32 bytes_of
  set_crop = asked S d [] (blank 614400) 0x4014563C (crop left) (at_first S d) refl

  get_crop : (S.request (request 0x4014563C (crop left) ∷ []) 0xC014563B (crop 0)).number ≡ 0
  unfolding request_of call_of known_words word_at le32 bytes_of
  get_crop = asked S d (request 0x4014563C (crop left) ∷ []) (blank 614400) 0xC014563B (crop 0)
      (then S d Kind.pictures [] (blank 614400) 0x4014563C (crop left) (at_first S d) set_crop) refl

  on_desk : desk_in bench_sheet S (request 0x4014563C (crop left) ∷ []) ≡ chosen bench_sheet (opening_desk bench_sheet) SCrop (crop left) []
  unfolding request_of call_of known_words
  on_desk = ap (λ (n : ℕ). cond (eqb n 0) (chosen bench_sheet (opening_desk bench_sheet) SCrop (crop left) []) (opening_desk bench_sheet)) set_crop

  told_crop : (S.request (request 0x4014563C (crop left) ∷ []) 0xC014563B (crop 0)).argument ≡ crop_reply (clamped (crop_bounds bench_sheet) (asked_crop (crop left)))
  unfolding request_of call_of known_words
  told_crop = k.arguments (request 0x4014563C (crop left) ∷ []) 0xC014563B (crop 0) get_crop ∙ ap (λ (q : Desk). crop_reply q.crop) on_desk

-- in bounds from -8 on, 640 wide, left -5 stays -5 and left 0 stays 0
stays_minus_5 : word_at (crop_reply (clamped (crop_bounds bench_sheet) (asked_crop (crop 0xFFFFFFFB)))) 4 ≡ 0xFFFFFFFB
unfolding bench_sheet word_at le32 bytes_of signed bits signed_at geometry_at rect_at crop_bounds min_z max_z clamp_z size_in clamped_place width_in left_in clamped asked_crop crop_reply
stays_minus_5 = refl

stays_0 : word_at (crop_reply (clamped (crop_bounds bench_sheet) (asked_crop (crop 0)))) 4 ≡ 0
unfolding bench_sheet word_at le32 bytes_of signed bits signed_at geometry_at rect_at crop_bounds min_z max_z clamp_z size_in clamped_place width_in left_in clamped asked_crop crop_reply
stays_0 = refl

pub left_raised_law : Out LeftRaised
unfolding request_of call_of known_words word_at le32 bytes_of signed signed_at
left_raised_law M fault meets =
    let S : Session = M bench_sheet dark in
    let d : Demand1 bench_sheet dark S = meets.demand_1 bench_sheet dark in
    let k : Answers bench_sheet dark S = meets.answers bench_sheet dark in
    let e = ap (λ (g : Given). word_at g.argument 4) (fault bench_sheet dark [] 0x4014563C (crop 0xFFFFFFFB) 0xC014563B (crop 0) refl refl refl) in
    let x = ap (λ (a : List ℕ). word_at a 4) (told_crop S d k 0xFFFFFFFB) ∙ stays_minus_5 in
    let y = ap (λ (a : List ℕ). word_at a 4) (told_crop S d k 0) ∙ stays_0 in
    omega (arith, e, x, y)
