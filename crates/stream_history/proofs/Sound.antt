-- What the paper keeps, as long as the events are such as a stream can make: no buffer stands twice, none is beyond those granted,
-- and the counts of a run add up.
use mathlib.Core.Path.{◌≡◌, refl, sym, ap, ◌∙◌, subst}
use mathlib.Core.Logic.{◌≢◌}
use mathlib.Core.Bool.{Bool, true, false, true≢false, false≢true}
use Prim.Native.Nat.{ℕ, ◌+◌, ◌≤◌, ◌<◌}
use native.Mathlib.Omega.{arith}
use borrow.Author.Tests.{leb-false, eqb-true, eqb-false}
use mathlib.Core.List.{List, [], ◌∷◌, ◌++◌, map, append_assoc}
use lib.ListN.{length, length-append, length-map, length-set}
use lib.Dec.{eqb}
use Rattle.stream_words.specs.declared.Time.{Time}
use Rattle.stream_slots.specs.Slot.{slot_size}
use Rattle.stream_words.specs.Stream.{Run}
use Rattle.stream_maps.specs.declared.Change.{Change}
use Rattle.stream_maps.specs.declared.Change.TheVariants.{Map, Unmap}
use Rattle.stream_maps.specs.Maps.{most_maps, no_maps, maps_of, blocked, turned, moved}
use Rattle.stream_maps.proofs.Counts.{none_mapped, opening_unmapped, none_long, moved_here, moved_other}
use Rattle.stream_arrival.specs.Arrivals.{run_limit}
use Rattle.stream_history.specs.Paper.{Frame, Pair, Paper, Event, index_of, blank, frame_of, filled, step}
use Rattle.stream_history.specs.Paper.Event.{put, whole, damaged, handed, begun, ended, sized, changed, idle}
use Rattle.stream_history.proofs.Lists.{All, NoDup, all_snoc, map_snoc, nodup_snoc, pigeonhole}

-- the buffers in the queues, in the order in which they will be handed over
abbrev pub line_of : List Pair → List ℕ → List ℕ
line_of o i = map index_of o ++ i

abbrev pub line : Paper → List ℕ
line p = line_of p.outgoing p.incoming

-- what became of the arrivals of a run: n of them are outgoing
abbrev pub Balanced : Run → ℕ → Type 0
Balanced r n = r.accepted ≡ r.handed + n + r.damaged + r.dropped + r.discarded

-- there are 32 counts, none above 255, and only buffers that are granted are mapped
pub record Counted (m : List ℕ) (granted : ℕ) : Type 0 where
  pub long : length m ≡ 32
  pub most : (k : ℕ) → maps_of m k ≤ most_maps
  pub spare : (k : ℕ) → granted ≤ k → maps_of m k ≡ 0

pub record Sound (p : Paper) : Type 0 where
  pub apart : NoDup (line p)
  pub below : All (λ k. k < p.granted) (line p)
  pub few : p.granted ≤ 32
  pub adds : Balanced p.run (length p.outgoing)
  pub limit : p.run.accepted ≤ run_limit
  pub kept : p.running ≡ true → p.run.discarded ≡ 0
  pub none : p.running ≡ false → p.outgoing ≡ []
  pub runs : p.running ≡ true → p.run.ran ≡ 1
  pub once : p.run.ran ≤ 1
  pub never : p.run.ran ≡ 0 → p.run.handed ≡ 0
  pub maps : Counted p.maps p.granted
  pub slots : 0 < p.granted → 0 < slot_size p.size

-- which events a stream can make
abbrev pub Fits : Paper → Event → Type 0
Fits p (put k) = (k < p.granted) × All (λ y. y ≢ k) (line p)
Fits p (whole b t) = (p.running ≡ true) × (p.run.accepted < run_limit) × (length b ≤ p.size)
Fits p damaged = (p.running ≡ true) × (p.run.accepted < run_limit)
Fits p handed = 0 < length p.outgoing
Fits p begun = p.running ≡ false
Fits p (ended n) = (n ≤ 32) × ((k : ℕ) → n ≤ k → maps_of p.maps k ≡ 0) × (0 < n → 0 < slot_size p.size)
Fits p (sized n) = p.granted ≡ 0
Fits p (changed c k) = (k < p.granted) × (blocked c (maps_of p.maps k) ≡ false)
Fits p idle = Unit {0}

counted_none : Counted no_maps 0
counted_none = record {
  long = none_long;
  most = λ k. omega (arith, none_mapped no_maps opening_unmapped k);
  spare = λ k h. none_mapped no_maps opening_unmapped k;
}

pub sound_blank : (size : ℕ) → Sound (blank size)
sound_blank size = record {
  apart = tt;
  below = tt;
  few = omega arith;
  adds = refl;
  limit = omega arith;
  kept = λ e. refl;
  none = λ e. refl;
  runs = λ e. absurd (false≢true e);
  once = omega arith;
  never = λ e. refl;
  maps = counted_none;
  slots = λ h. absurd (omega arith);
}

-- the paper with these parts
abbrev pub paper : ℕ → ℕ → Bool → Run → List ℕ → List ℕ → List Pair → Paper
paper size granted running run m i o = record { size = size; granted = granted; running = running; run = run; incoming = i; outgoing = o; maps = m }

-- there is room for all of them in a queue
pub room : (p : Paper) → Sound p → length p.outgoing + length p.incoming ≤ 32
room p s = omega (arith, s.few, pigeonhole p.granted (line p) s.apart s.below, length-append (map index_of p.outgoing) p.incoming, length-map p.outgoing index_of)

-- and for one more that is in neither
pub room_more : (p : Paper) (k : ℕ) → Sound p → Fits p (put k) → length p.outgoing + length p.incoming < 32
room_more p k s f =
    omega (
      arith,
      s.few,
      pigeonhole p.granted (line p ++ (k ∷ [])) (nodup_snoc (line p) k s.apart f.1) (all_snoc (λ j. j < p.granted) (line p) k s.below f.0),
      length-append (line p) (k ∷ []),
      length-append (map index_of p.outgoing) p.incoming,
      length-map p.outgoing index_of,
    )

-- a count that is not at its end goes one on
turned_most : (c : Change) (n : ℕ) → blocked c n ≡ false → n ≤ most_maps → turned c n ≤ most_maps
turned_most Map n e h = omega (arith, leb-false most_maps n e)
turned_most Unmap n e h = omega arith

counted_moved : (c : Change) (m : List ℕ) (granted k : ℕ) → granted ≤ 32 → Counted m granted → (k < granted) × (blocked c (maps_of m k) ≡ false) → Counted (moved c m k) granted
counted_moved c m granted k few s f = record {
  long = length-set m k (turned c (maps_of m k)) ∙ s.long;
  most = λ j. by j (eqb j k) refl;
  spare = λ j h. moved_other c m k j (λ e. omega (arith, f.0)) ∙ s.spare j h;
}
  where
    by : (j : ℕ) (b : Bool) → eqb j k ≡ b → maps_of (moved c m k) j ≤ most_maps
    by j true e =
        let same = eqb-true j k e in
        rw (same, moved_here c m k (omega (arith, f.0, s.long))) (turned_most c (maps_of m k) f.1 (s.most k))
    by j false e = rw (moved_other c m k j (eqb-false j k e)) (s.most j)

sound_put : (p : Paper) (k : ℕ) → Sound p → Fits p (put k) → Sound (step p (put k))
sound_put p k s f =
    let e : line p ++ (k ∷ []) ≡ line (step p (put k)) = append_assoc (map index_of p.outgoing) p.incoming (k ∷ []) in
    record {
      apart = subst NoDup e (nodup_snoc (line p) k s.apart f.1);
      below = subst (All (λ j. j < p.granted)) e (all_snoc (λ j. j < p.granted) (line p) k s.below f.0);
      few = s.few;
      adds = s.adds;
      limit = s.limit;
      kept = s.kept;
      none = s.none;
      runs = s.runs;
      once = s.once;
      never = s.never;
      maps = s.maps;
      slots = s.slots;
    }

-- the oldest incoming buffer goes from the head of one queue to the end of the other: the line stays
pub line_filled : (o : List Pair) (k : ℕ) (i : List ℕ) (f : Frame) → line_of o (k ∷ i) ≡ line_of (filled (k ∷ i) f o) i
line_filled o k i f =
    sym (append_assoc (map index_of o) (k ∷ []) i) ∙ sym (ap (λ (r : List ℕ). r ++ i) (map_snoc index_of o (record { index = k; frame = f })))

sound_whole : (size granted : ℕ) (on : Bool) (r : Run) (m i : List ℕ) (o : List Pair) (b : List ℕ) (t : Time)
    → Sound (paper size granted on r m i o) → Fits (paper size granted on r m i o) (whole b t) → Sound (step (paper size granted on r m i o) (whole b t))
sound_whole size granted on r m [] o b t s f = record {
  apart = s.apart;
  below = s.below;
  few = s.few;
  adds = omega (arith, s.adds);
  limit = omega (arith, f.1);
  kept = s.kept;
  none = s.none;
  runs = s.runs;
  once = s.once;
  never = s.never;
  maps = s.maps;
  slots = s.slots;
}
sound_whole size granted on r m (k ∷ i) o b t s f =
    let p : Paper = paper size granted on r m (k ∷ i) o in
    record {
      apart = subst NoDup (line_filled o k i (frame_of p b t)) s.apart;
      below = subst (All (λ j. j < granted)) (line_filled o k i (frame_of p b t)) s.below;
      few = s.few;
      adds = omega (arith, s.adds, length-append o (record { index = k; frame = frame_of p b t } ∷ []));
      limit = omega (arith, f.1);
      kept = s.kept;
      none = λ e. absurd (true≢false (sym f.0 ∙ e));
      runs = s.runs;
      once = s.once;
      never = s.never;
      maps = s.maps;
      slots = s.slots;
    }

sound_handed : (size granted : ℕ) (on : Bool) (r : Run) (m i : List ℕ) (o : List Pair)
    → Sound (paper size granted on r m i o) → Fits (paper size granted on r m i o) handed → Sound (step (paper size granted on r m i o) handed)
sound_handed size granted on r m i [] s f = absurd (omega (arith, f))
sound_handed size granted on r m i (x ∷ o) s f = record {
  apart = s.apart.1;
  below = s.below.1;
  few = s.few;
  adds = omega (arith, s.adds);
  limit = s.limit;
  kept = s.kept;
  none = λ e. absurd (omega (arith, ap length (s.none e)));
  runs = s.runs;
  once = s.once;
  never = go on refl;
  maps = s.maps;
  slots = s.slots;
}
  where
    go : (a : Bool) → on ≡ a → r.ran ≡ 0 → r.handed + 1 ≡ 0
    go true e z = absurd (omega (arith, s.runs e))
    go false e z = absurd (omega (arith, ap length (s.none e)))

sound_ended : (p : Paper) (n : ℕ) → Sound p → Fits p (ended n) → Sound (step p (ended n))
sound_ended p n s h = go p.running refl
  where
    go : (a : Bool) → p.running ≡ a → Sound (step p (ended n))
    go true e = rw e record {
      apart = tt;
      below = tt;
      few = h.0;
      adds = omega (arith, s.adds, s.kept e);
      limit = s.limit;
      kept = λ f. absurd (false≢true f);
      none = λ f. refl;
      runs = λ f. absurd (false≢true f);
      once = s.once;
      never = s.never;
      maps = record { long = s.maps.long; most = s.maps.most; spare = h.1 };
      slots = h.2;
    }
    go false e = rw e record {
      apart = tt;
      below = tt;
      few = h.0;
      adds = omega (arith, s.adds, ap length (s.none e));
      limit = s.limit;
      kept = λ f. absurd (false≢true f);
      none = λ f. refl;
      runs = λ f. absurd (false≢true f);
      once = s.once;
      never = s.never;
      maps = record { long = s.maps.long; most = s.maps.most; spare = h.1 };
      slots = h.2;
    }

pub sound_step : (p : Paper) (e : Event) → Sound p → Fits p e → Sound (step p e)
sound_step p (put k) s f = sound_put p k s f
sound_step p (whole b t) s f = sound_whole p.size p.granted p.running p.run p.maps p.incoming p.outgoing b t s f
sound_step p damaged s f = record {
  apart = s.apart;
  below = s.below;
  few = s.few;
  adds = omega (arith, s.adds);
  limit = omega (arith, f.1);
  kept = s.kept;
  none = s.none;
  runs = s.runs;
  once = s.once;
  never = s.never;
  maps = s.maps;
  slots = s.slots;
}
sound_step p handed s f = sound_handed p.size p.granted p.running p.run p.maps p.incoming p.outgoing s f
sound_step p begun s f = record {
  apart = s.apart;
  below = s.below;
  few = s.few;
  adds = omega (arith, ap length (s.none f));
  limit = omega arith;
  kept = λ e. refl;
  none = λ e. absurd (true≢false e);
  runs = λ e. refl;
  once = omega arith;
  never = λ e. refl;
  maps = s.maps;
  slots = s.slots;
}
sound_step p (ended n) s f = sound_ended p n s f
sound_step p (sized n) s f = record {
  apart = s.apart;
  below = s.below;
  few = s.few;
  adds = s.adds;
  limit = s.limit;
  kept = s.kept;
  none = s.none;
  runs = s.runs;
  once = s.once;
  never = s.never;
  maps = s.maps;
  slots = λ h. absurd (omega (arith, f));
}
sound_step p (changed c k) s f = record {
  apart = s.apart;
  below = s.below;
  few = s.few;
  adds = s.adds;
  limit = s.limit;
  kept = s.kept;
  none = s.none;
  runs = s.runs;
  once = s.once;
  never = s.never;
  maps = counted_moved c p.maps p.granted k s.few s.maps f;
  slots = s.slots;
}
sound_step p idle s f = s
