-- The map counts of the paper: maps that were accepted, less unmaps.
use mathlib.Core.Path.{◌≡◌, refl, sym, ap, ◌∙◌}
use mathlib.Core.Bool.{Bool, true, false, cond, ◌&&◌}
use Prim.Native.Nat.{ℕ, ◌+◌, ◌<◌}
use native.Mathlib.Omega.{arith}
use borrow.Author.Tests.{eqb-true, eqb-false}
use lib.Dec.{eqb}
use mathlib.Core.List.{List, [], ◌∷◌}
use lib.ListN.{length}
use Rattle.stream_maps.specs.declared.Change.{Change}
use Rattle.stream_maps.specs.declared.Change.TheVariants.{Map, Unmap}
use Rattle.stream_maps.specs.Maps.{no_maps, maps_of, blocked, turned, moved}
use Rattle.stream_maps.proofs.Counts.{none_mapped, opening_unmapped, moved_here, moved_other}
use Rattle.stream_run.specs.Replies.{Reply}
use Rattle.stream_run.specs.Replies.Reply.{Granted}
use Rattle.stream_run.proofs.Grants.{granted_unmapped}
use Rattle.stream_history.specs.Calls.{Answer, opened}
use Rattle.stream_history.specs.Calls.Answer.{replied, arrived}
use Rattle.stream_history.specs.Paper.{Paper, Event, blank, step, noted, events, same_sort, changes}
use Rattle.stream_history.specs.Paper.Event.{put, whole, damaged, handed, begun, ended, sized, changed, idle}
use Rattle.stream_history.specs.Claims.{paper_after, world_after, Mapped}
use Rattle.stream_history.proofs.Sound.{Sound, sound_blank, sound_step}
use Rattle.stream_history.proofs.Order.{Legal}
use Rattle.stream_history.proofs.Tied.{tied_opened}
use Rattle.stream_history.proofs.Every.{Kept, kept, legal_events}

-- one change, as both counts take it
one_change : (c : Change) (n : ℕ) → blocked c n ≡ false → turned c n + cond (same_sort Unmap c) 1 0 ≡ n + cond (same_sort Map c) 1 0
one_change Map n e = omega arith
one_change Unmap n e = omega (arith, eqb-false n 0 e)

module _ (c : Change) (m : List ℕ) (j k : ℕ) (h : j < length m) (e : blocked c (maps_of m j) ≡ false) where
  pub tally_one : maps_of (moved c m j) k + cond (same_sort Unmap c && eqb j k) 1 0 ≡ maps_of m k + cond (same_sort Map c && eqb j k) 1 0
  tally_one = by (eqb j k) refl
    where
      neither : (b : Bool) → (b && false) ≡ false
      neither true = refl
      neither false = refl

      both : (b : Bool) → (b && true) ≡ b
      both true = refl
      both false = refl

      by : (b : Bool) → eqb j k ≡ b → maps_of (moved c m j) k + cond (same_sort Unmap c && b) 1 0 ≡ maps_of m k + cond (same_sort Map c && b) 1 0
      by true f = rw (sym (eqb-true j k f), moved_here c m j h, both (same_sort Unmap c), both (same_sort Map c)) (one_change c (maps_of m j) e)
      by false f = rw (moved_other c m j k (λ g. eqb-false j k f (sym g)), neither (same_sort Unmap c), neither (same_sort Map c))

-- a list of events that a stream can make
pub tally : (es : List Event) (p : Paper) (k : ℕ) → Legal p es → Sound p → maps_of (noted p es).maps k + changes Unmap k es ≡ maps_of p.maps k + changes Map k es
tally [] p k l s = refl
tally (put j ∷ es) p k l s = tally es (step p (put j)) k l.1 (sound_step p (put j) s l.0)
tally (whole b t ∷ es) p k l s = tally es (step p (whole b t)) k l.1 (sound_step p (whole b t) s l.0)
tally (damaged ∷ es) p k l s = tally es (step p damaged) k l.1 (sound_step p damaged s l.0)
tally (handed ∷ es) p k l s = tally es (step p handed) k l.1 (sound_step p handed s l.0)
tally (begun ∷ es) p k l s = tally es (step p begun) k l.1 (sound_step p begun s l.0)
tally (ended n ∷ es) p k l s = tally es (step p (ended n)) k l.1 (sound_step p (ended n) s l.0)
tally (sized n ∷ es) p k l s = tally es (step p (sized n)) k l.1 (sound_step p (sized n) s l.0)
tally (changed c j ∷ es) p k l s =
    together (maps_of (noted (step p (changed c j)) es).maps k) (changes Unmap k es) (maps_of (moved c p.maps j) k) (changes Map k es) (cond (same_sort Unmap c && eqb j k) 1 0) (maps_of p.maps k)
    (cond (same_sort Map c && eqb j k) 1 0)
    (tally es (step p (changed c j)) k l.1 (sound_step p (changed c j) s l.0))
    (tally_one c p.maps j k (omega (arith, l.0.0, s.few, s.maps.long)) l.0.1)
  where
    together : (a u n m x b y : ℕ) → a + u ≡ n + m → n + x ≡ b + y → a + (x + u) ≡ b + (y + m)
    together a u n m x b y f g = omega arith
tally (idle ∷ es) p k l s = tally es p k l.1 s

-- at opening every count is 0
pub opening_tally : (size k : ℕ) → maps_of (blank size).maps k ≡ 0
opening_tally size k = none_mapped no_maps opening_unmapped k

-- what was replied
abbrev reply_of : Answer → Reply
reply_of (replied r) = r
reply_of (arrived a) = Granted 0

pub tallied : Mapped
tallied size m cs k =
    let g : Kept (world_after size m cs) (paper_after size m cs) = kept size m cs in
    let l = legal_events cs (opened size m) (blank size) (record { tied = tied_opened size m; sound = sound_blank size }) in (
      omega (arith, tally (events (opened size m) (blank size) cs) (blank size) k l (sound_blank size), opening_tally size k),
      g.sound.maps.most k,
      g.sound.maps.spare k,
      g.tied.maps,
      λ n b e. (let (none, same) = granted_unmapped (world_after size m cs).stream n (world_after size m cs).size b (ap reply_of e) in (
        ap (λ (l : List ℕ). maps_of l k) (sym g.tied.maps) ∙ none_mapped (world_after size m cs).stream.maps none k,
        ap (λ (l : List ℕ). maps_of l k) same ∙ none_mapped (world_after size m cs).stream.maps none k,
      )),
    )
