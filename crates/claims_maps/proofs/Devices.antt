-- A device for each fault of the maps: where it shows.
use mathlib.Core.Path.{◌≡◌, refl, sym, ap, ap₂, ◌∙◌}
use mathlib.Core.Logic.{inl}
use mathlib.Core.Bool.{Bool, true, false, cond}
use Prim.Native.Nat.{ℕ, zero, suc, ◌+◌, ◌%◌, ◌<◌}
use native.Mathlib.Omega.{arith}
use lib.Dec.{eqb, leb}
use mathlib.Core.List.{List, [], ◌∷◌}
use Rattle.wire_read.specs.Words.{word_at, le32, bytes_of}
use Rattle.wire_read.specs.Lists.{any}
use Rattle.wire_signed.specs.Signed.{bits}
use Rattle.ioctl_table.specs.Table.{request_of, call_of, known_words}
use Rattle.stream_slots.specs.Slot.{slot_size, buffer_at}
use Rattle.stream_slots.proofs.Slots.{slot_least}
use Rattle.stream_words.specs.Moves.{standing_of, is_incoming, is_outgoing}
use Rattle.stream_maps.specs.declared.Change.TheVariants.{Map, Unmap}
use Rattle.stream_maps.specs.Maps.{no_maps, maps_of}
use Rattle.stream_status.specs.Buffer.{described_of}
use Rattle.buffer_replies.specs.Replies.{buffer_reply}
use Rattle.stream_history.specs.Paper.{Paper, Event, step}
use Rattle.stream_history.specs.Paper.Event.{ended, changed, idle}
use Rattle.claims.specs.Calls.{Kind}
use Rattle.claims.specs.Words.{paper_in}
use Rattle.claims.specs.Answers.{status_on}
use Rattle.claims.proofs.Sessions.{paper_more}
use Rattle.claims.proofs.Devices.{device_papered}
use Rattle.claims_together.specs.Mapped.{accepted}
use Rattle.claims_together.proofs.Meets.{device_maps}
use Rattle.claims_together.proofs.Mapped.{accepted_more, tells}
use Rattle.bench_sheet.specs.Bench.{bench_sheet}
use Rattle.claims_shut_out.specs.Calls.{dark, reqbufs, streamoff, buffer, video}
use Rattle.claims_shut_out.proofs.Instances.{wrong}
use Rattle.claims_shut_out.proofs.Played.{asked, then, four, at_four}
use Rattle.claims_maps.specs.Faults.{flag_of, GrantedAnew, HeldByOther, MappedTooOften, Misflagged, AnyLength}
use Rattle.claims_maps.specs.Devices.{unflagged, flagged_with, takes_back, held_by_both, endless, stop_unmaps, flag_of_another, any_length, MapDevices}
use Rattle.claims_maps.proofs.Faults.{map_faults}
use Rattle.claims_maps.proofs.Bench.{S, one, answers, maps, mapped, gives, first_map, other_length}

-- no buffers of the pictures, and none of the captions
abbrev none : Kind → List ℕ
none Kind.pictures = bytes_of (0 ∷ 1 ∷ 1 ∷ 0 ∷ 0 ∷ [])
none Kind.captions = bytes_of (0 ∷ 6 ∷ 1 ∷ 0 ∷ 0 ∷ [])

-- the place of buffer 0 was mapped once
mapped_once : accepted S Kind.pictures Map 0 614400 (reqbufs ∷ maps ∷ []) ≡ 1
mapped_once = ap (λ (n : ℕ). 0 + (cond (eqb n 0) 1 0 + 0)) first_map

-- ---- a buffer request is taken while it is
takes_back_law : GrantedAnew takes_back
unfolding request_of call_of known_words word_at le32 bytes_of
takes_back_law =
    let held : (S.request (reqbufs ∷ maps ∷ []) 0xC0145608 (none Kind.pictures)).number ≡ 16 =
    (device_maps bench_sheet dark Kind.pictures).held (reqbufs ∷ maps ∷ []) 0xC0145608 (none Kind.pictures) 0 614400 (omega (arith, mapped_once)) refl refl refl refl in (
      bench_sheet,
      dark,
      Kind.pictures,
      reqbufs ∷ maps ∷ [],
      0xC0145608,
      none Kind.pictures,
      0,
      614400,
      refl,
      refl,
      ap (λ (n : ℕ). cond (eqb n 16) 0 n) held,
      omega (arith, mapped_once),
    )

-- ---- one of the captions is not, though only the pictures have a map
held_by_both_law : HeldByOther held_by_both
unfolding request_of call_of known_words word_at le32 bytes_of any
held_by_both_law = (
  bench_sheet,
  dark,
  Kind.captions,
  reqbufs ∷ maps ∷ [],
  0xC0145608,
  none Kind.captions,
  refl,
  refl,
  refl,
  refl,
  λ o l. refl,
)

-- ---- a map is always taken
taken_always : (b : Bool) → ◌≡◌ {A = ℕ} (cond (eqb (cond b 75 0) 75) 0 (cond b 75 0)) 0
taken_always true = refl
taken_always false = refl

takes_it : (n : ℕ) → (endless bench_sheet dark).change (mapped n) Map 1 0 614400 ≡ 0
takes_it n = ap (λ (x : ℕ). cond (eqb x 75) 0 x) (gives n) ∙ taken_always (leb 255 (maps_of (paper_in bench_sheet S Kind.pictures (mapped n)).maps 0))

all_taken : (n : ℕ) → accepted (endless bench_sheet dark) Kind.pictures Map 0 614400 (mapped n) ≡ n
all_taken zero = refl
all_taken (suc n) =
    accepted_more (endless bench_sheet dark) Kind.pictures Map 0 614400 (mapped n) [] maps
    ∙ ap₂ ◌+◌ (all_taken n) (ap (λ (x : ℕ). cond (eqb x 0) 1 0) (takes_it n)) ∙ one_on n
  where
    one_on : (n : ℕ) → n + 1 ≡ suc n
    one_on n = omega arith

none_undone : (n : ℕ) → accepted (endless bench_sheet dark) Kind.pictures Unmap 0 614400 (mapped n) ≡ 0
none_undone zero = refl
none_undone (suc n) = accepted_more (endless bench_sheet dark) Kind.pictures Unmap 0 614400 (mapped n) [] maps ∙ ap (λ (x : ℕ). x + 0) (none_undone n)

too_many : (n : ℕ) → 255 < n → accepted (endless bench_sheet dark) Kind.pictures Unmap 0 614400 (mapped n) + 255 < accepted (endless bench_sheet dark) Kind.pictures Map 0 614400 (mapped n)
too_many n h = rw (all_taken n, none_undone n) (omega arith)

goes_on_law : MappedTooOften endless
goes_on_law = (bench_sheet, dark, Kind.pictures, mapped 256, 0, 614400, too_many 256 (omega arith))

-- ---- what QUERYBUF tells

-- four buffers, the first mapped once
abbrev mapped_paper : Paper
mapped_paper = step (four S one) (changed Map 0)

at_mapped : paper_in bench_sheet S Kind.pictures (reqbufs ∷ maps ∷ []) ≡ mapped_paper
unfolding slot_size
at_mapped = paper_more bench_sheet S Kind.pictures (reqbufs ∷ []) maps ∙ ap₂ (λ (p : Paper) (n : ℕ). step p (told_by_law p n)) (at_four S one) first_map
  where
    told_by_law : Paper → ℕ → Event
    told_by_law p n = cond (eqb n 0) (changed Map (buffer_at p.size 0)) idle

-- STREAMOFF leaves it so
at_stopped : paper_in bench_sheet S Kind.pictures (reqbufs ∷ maps ∷ streamoff ∷ []) ≡ step mapped_paper (ended 4)
unfolding request_of call_of known_words word_at le32 bytes_of
at_stopped = then S one Kind.pictures (reqbufs ∷ maps ∷ []) mapped_paper 0x40045613 video at_mapped (asked S one (reqbufs ∷ maps ∷ []) mapped_paper 0x40045613 video at_mapped refl)

-- QUERYBUF of buffer 0 after the stop, and of buffer 1 before it
first_asked : (S.request (reqbufs ∷ maps ∷ streamoff ∷ []) 0xC0445609 (buffer 0)).number ≡ 0
unfolding request_of call_of known_words word_at le32 bytes_of
first_asked = asked S one (reqbufs ∷ maps ∷ streamoff ∷ []) (step mapped_paper (ended 4)) 0xC0445609 (buffer 0) at_stopped refl

second_asked : (S.request (reqbufs ∷ maps ∷ []) 0xC0445609 (buffer 1)).number ≡ 0
unfolding request_of call_of known_words word_at le32 bytes_of
second_asked = asked S one (reqbufs ∷ maps ∷ []) mapped_paper 0xC0445609 (buffer 1) at_mapped refl

first_told : (S.request (reqbufs ∷ maps ∷ streamoff ∷ []) 0xC0445609 (buffer 0)).argument ≡ buffer_reply 1 (status_on (step mapped_paper (ended 4)) 0)
unfolding request_of call_of known_words word_at le32 bytes_of
first_told = answers.arguments (reqbufs ∷ maps ∷ streamoff ∷ []) 0xC0445609 (buffer 0) first_asked ∙ ap (λ (p : Paper). buffer_reply 1 (status_on p 0)) at_stopped

second_told : (S.request (reqbufs ∷ maps ∷ []) 0xC0445609 (buffer 1)).argument ≡ buffer_reply 1 (status_on mapped_paper 1)
unfolding request_of call_of known_words word_at le32 bytes_of
second_told = answers.arguments (reqbufs ∷ maps ∷ []) 0xC0445609 (buffer 1) second_asked ∙ ap (λ (p : Paper). buffer_reply 1 (status_on p 1)) at_mapped

-- ---- a stop takes the flag off, though the place is mapped
abbrev plain : List ℕ
plain = unflagged (buffer_reply 1 (status_on (step mapped_paper (ended 4)) 0))

plain_words : (word_at plain 12 ≡ 0) × (word_at plain 52 ≡ 0) × (word_at plain 56 ≡ 614400)
unfolding buffer_reply described_of standing_of is_incoming is_outgoing any no_maps bits slot_size word_at le32 bytes_of
plain_words = (refl, refl, refl)

-- the flag of the place
still_mapped : flag_of S Kind.pictures (reqbufs ∷ maps ∷ streamoff ∷ []) plain ≡ 1
still_mapped =
    let (a, o, l) = plain_words in
    ap₂ (λ (x y : ℕ). cond (eqb (accepted S Kind.pictures Map x y (reqbufs ∷ maps ∷ streamoff ∷ [])) (accepted S Kind.pictures Unmap x y (reqbufs ∷ maps ∷ streamoff ∷ []))) 0 1) o l
    ∙ ap flag first_map
  where
    flag : ℕ → ℕ
    flag n = cond (eqb (0 + (cond (eqb n 0) 1 0 + 0)) 0) 0 1

stop_unmaps_law : Misflagged stop_unmaps
unfolding request_of call_of known_words word_at le32 bytes_of any
stop_unmaps_law = (
  bench_sheet,
  dark,
  Kind.pictures,
  reqbufs ∷ maps ∷ streamoff ∷ [],
  0xC0445609,
  buffer 0,
  inl refl,
  refl,
  first_asked,
  λ e. lies (sym (ap (λ (b : List ℕ). word_at (unflagged b) 12 % 2) first_told) ∙ e ∙ ap (λ (b : List ℕ). flag_of S Kind.pictures (reqbufs ∷ maps ∷ streamoff ∷ []) (unflagged b)) first_told),
)
  where
    lies : word_at plain 12 % 2 ≡ flag_of S Kind.pictures (reqbufs ∷ maps ∷ streamoff ∷ []) plain → ⊥
    lies e = omega (arith, sym (ap (λ (n : ℕ). n % 2) plain_words.0) ∙ e ∙ still_mapped)

-- ---- a buffer has the flag of another
abbrev marked : List ℕ
marked = flagged_with (buffer_reply 1 (status_on mapped_paper 1))

marked_words : (word_at marked 12 ≡ 1) × (word_at marked 52 ≡ 614400) × (word_at marked 56 ≡ 614400)
unfolding buffer_reply described_of standing_of is_incoming is_outgoing any no_maps bits slot_size word_at le32 bytes_of
marked_words = (refl, refl, refl)

not_mapped : flag_of S Kind.pictures (reqbufs ∷ maps ∷ []) marked ≡ 0
not_mapped =
    let (a, o, l) = marked_words in
    ap₂ (λ (x y : ℕ). cond (eqb (accepted S Kind.pictures Map x y (reqbufs ∷ maps ∷ [])) (accepted S Kind.pictures Unmap x y (reqbufs ∷ maps ∷ []))) 0 1) o l

flag_of_another_law : Misflagged flag_of_another
unfolding request_of call_of known_words word_at le32 bytes_of any
flag_of_another_law = (
  bench_sheet,
  dark,
  Kind.pictures,
  reqbufs ∷ maps ∷ [],
  0xC0445609,
  buffer 1,
  inl refl,
  refl,
  second_asked,
  λ e. lies (sym (ap (λ (b : List ℕ). word_at (flagged_with b) 12 % 2) second_told) ∙ e ∙ ap (λ (b : List ℕ). flag_of S Kind.pictures (reqbufs ∷ maps ∷ []) (flagged_with b)) second_told),
)
  where
    lies : word_at marked 12 % 2 ≡ flag_of S Kind.pictures (reqbufs ∷ maps ∷ []) marked → ⊥
    lies e = omega (arith, sym (ap (λ (n : ℕ). n % 2) marked_words.0) ∙ e ∙ not_mapped)

-- ---- any length is taken
any_length_law : AnyLength any_length
any_length_law = (
  bench_sheet,
  dark,
  Kind.pictures,
  reqbufs ∷ [],
  0,
  1,
  ap (λ (n : ℕ). cond (eqb n 22) 0 n) other_length,
  λ w a c type z e.
      let t = tells bench_sheet dark S Kind.pictures one answers (device_papered bench_sheet dark Kind.pictures) (reqbufs ∷ []) w a type z c in
      not_one (sym (t.it.slot ∙ ap (λ (p : Paper). slot_size p.size) (at_four S one)) ∙ e),
)
  where
    not_one : slot_size 614400 ≡ 1 → ⊥
    not_one e = omega (arith, slot_least 614400, e)

pub map_devices : MapDevices
map_devices = record {
  takes_back_law = wrong map_faults.granted_anew takes_back takes_back_law;
  held_by_both_law = wrong map_faults.held_by_other held_by_both held_by_both_law;
  endless = wrong map_faults.mapped_too_often endless goes_on_law;
  stop_unmaps_law = wrong map_faults.misflagged stop_unmaps stop_unmaps_law;
  flag_of_another_law = wrong map_faults.misflagged flag_of_another flag_of_another_law;
  any_length_law = wrong map_faults.any_length_law any_length any_length_law;
}
