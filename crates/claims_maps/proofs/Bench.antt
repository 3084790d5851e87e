-- Maps of buffer 0 of the pictures on the bench: what our device gives back to them.
use mathlib.Core.Path.{◌≡◌, refl, ap, ap₂, ◌∙◌}
use mathlib.Core.Bool.{Bool, true, false, cond, not}
use Prim.Native.Nat.{ℕ, zero, suc}
use lib.Dec.{eqb, leb}
use mathlib.Core.List.{List, [], ◌∷◌}
use Rattle.stream_slots.specs.Slot.{slot_size, is_slot, buffer_at}
use Rattle.stream_maps.specs.declared.Change.TheVariants.{Map}
use Rattle.stream_maps.specs.Maps.{no_maps, maps_of}
use Rattle.stream_history.specs.Paper.{Paper, step}
use Rattle.stream_history.specs.Paper.Event.{changed, idle}
use Rattle.claims.specs.Calls.{Kind, Call}
use Rattle.claims.specs.Calls.Call.{change}
use Rattle.claims.specs.Machine.{Session, more}
use Rattle.claims.specs.Words.{paper_in}
use Rattle.claims.specs.Demands.{Demand1, Answers}
use Rattle.claims.proofs.Sessions.{paper_more}
use Rattle.claims_together.proofs.Meets.{device_meets}
use Rattle.bench_sheet.specs.Bench.{bench_sheet}
use Rattle.claims_shut_out.specs.Calls.{dark, reqbufs}
use Rattle.claims_shut_out.specs.Wrong.{ours}
use Rattle.claims_shut_out.proofs.Played.{opens, at_four}

-- our device, on the bench
abbrev pub S : Session
S = ours bench_sheet dark

pub one : Demand1 bench_sheet dark S
one = device_meets.demand_1 bench_sheet dark

pub answers : Answers bench_sheet dark S
answers = device_meets.answers bench_sheet dark

-- a map of the place of buffer 0
abbrev pub maps : Call
maps = change Map 1 0 614400

-- four buffers, and n maps
abbrev pub mapped : ℕ → List Call
mapped zero = reqbufs ∷ []
mapped (suc n) = more (mapped n) maps

-- the buffers stay
steady : (n : ℕ) → ((paper_in bench_sheet S Kind.pictures (mapped n)).granted ≡ 4) × ((paper_in bench_sheet S Kind.pictures (mapped n)).size ≡ 614400)
steady zero = (ap (λ (p : Paper). p.granted) (at_four S one), ap (λ (p : Paper). p.size) (at_four S one))
steady (suc n) =
    let told = paper_more bench_sheet S Kind.pictures (mapped n) maps in
    let (g, z) = by (eqb (S.change (mapped n) Map 1 0 614400) 0) in
    (ap (λ (p : Paper). p.granted) told ∙ g ∙ (steady n).0, ap (λ (p : Paper). p.size) told ∙ z ∙ (steady n).1)
  where
    after : Bool → Paper
    after b = step (paper_in bench_sheet S Kind.pictures (mapped n)) (cond b (changed Map (buffer_at (paper_in bench_sheet S Kind.pictures (mapped n)).size 0)) idle)

    by : (b : Bool) → ((after b).granted ≡ (paper_in bench_sheet S Kind.pictures (mapped n)).granted) × ((after b).size ≡ (paper_in bench_sheet S Kind.pictures (mapped n)).size)
    by true = (refl, refl)
    by false = (refl, refl)

-- a map from the start of the memory and of this length, by its tests
given : ℕ → ℕ → ℕ → ℕ → List ℕ → ℕ
given l o g z m = cond (not (eqb o 0)) 22 (cond (not (is_slot g z 0 l)) 22 (cond (leb 255 (maps_of m (buffer_at z 0))) 75 0))

-- it is of a buffer, so it is taken, or 75
pub gives : (n : ℕ) → S.change (mapped n) Map 1 0 614400 ≡ cond (leb 255 (maps_of (paper_in bench_sheet S Kind.pictures (mapped n)).maps 0)) 75 0
unfolding given is_slot slot_size
gives n =
    let p : Paper = paper_in bench_sheet S Kind.pictures (mapped n) in
    one.changes (mapped n) Map 1 0 614400
    ∙ ap (λ (o : ℕ). given 614400 o p.granted p.size p.maps) (opens S one)
    ∙ ap₂ (λ (g z : ℕ). given 614400 0 g z p.maps) (steady n).0 (steady n).1

-- the first is taken
pub first_map : S.change (reqbufs ∷ []) Map 1 0 614400 ≡ 0
unfolding no_maps
first_map = gives 0 ∙ ap (λ (p : Paper). cond (leb 255 (maps_of p.maps 0)) 75 0) (at_four S one)

-- one of another length is not
pub other_length : S.change (reqbufs ∷ []) Map 1 0 1 ≡ 22
unfolding given is_slot slot_size
other_length =
    let p : Paper = paper_in bench_sheet S Kind.pictures (reqbufs ∷ []) in
    one.changes (reqbufs ∷ []) Map 1 0 1
    ∙ ap (λ (o : ℕ). given 1 o p.granted p.size p.maps) (opens S one)
    ∙ ap (λ (y : Paper). given 1 0 y.granted y.size y.maps) (at_four S one)
