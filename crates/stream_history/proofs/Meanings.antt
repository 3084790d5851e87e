-- The counts add up, the number goes with them, and the verdict is which when.
use mathlib.Core.Path.{◌≡◌, refl, sym, ap, ◌∙◌, subst}
use mathlib.Core.Bool.{Bool, true, false, cond, true≢false}
use Prim.Native.Nat.{ℕ, ◌≤◌, ◌<◌}
use native.Mathlib.Omega.{arith}
use borrow.Author.Tests.{eqb-true, eqb-false}
use lib.Dec.{eqb}
use mathlib.Core.List.{List, []}
use Rattle.stream_words.specs.Stream.{Run}
use Rattle.stream_arrival.specs.Arrivals.{run_limit}
use Rattle.stream_verdict.specs.Film.{verdict_after, verdict_of}
use Rattle.stream_verdict.specs.declared.Verdict.{Verdict}
use Rattle.stream_verdict.specs.declared.Verdict.TheVariants.{Running, Blank, Gaps, Complete}
use Rattle.stream_history.specs.Calls.{World, opened}
use Rattle.stream_history.specs.Paper.{Paper, blank, events}
use Rattle.stream_history.specs.Claims.{◌⇔◌, paper_after, world_after, AddsUp, Numbers, handed_after, AllHandedOver, Verdicts}
use Rattle.stream_history.proofs.Sound.{Sound, sound_blank}
use Rattle.stream_history.proofs.Tied.{one_more_law}
use Rattle.stream_history.proofs.Every.{Kept, kept, legal_events}
use Rattle.stream_history.proofs.Rising.{Ordered, ordered_after, ordered_blank, all_handed}

pub adds_up : AddsUp
adds_up size m cs = let g : Kept (world_after size m cs) (paper_after size m cs) = kept size m cs in (g.sound.adds, g.tied.run)

-- each count of a run is at most that of the accepted ones, and that has its limit
pub numbers_kept : Numbers
numbers_kept size m cs =
    let g : Kept (world_after size m cs) (paper_after size m cs) = kept size m cs in
    let limit : (paper_after size m cs).run.accepted ≤ run_limit = g.sound.limit in (
      g.tied.number,
      rw g.tied.run limit,
      rw g.tied.run (one_more_law _ (omega (arith, limit, g.sound.adds))),
      rw g.tied.run (one_more_law _ (omega (arith, limit, g.sound.adds))),
      rw g.tied.run (one_more_law _ (omega (arith, limit, g.sound.adds))),
    )

-- the verdict by the paper
abbrev told_verdict : Paper → Verdict
told_verdict p = cond p.running Running (verdict_after p.run)

verdict_told_law : (w : World) (p : Paper) → Kept w p → verdict_of w.stream ≡ told_verdict p
unfolding verdict_of
verdict_told_law w p k =
    ap (λ (b : Bool). cond b Running (verdict_after w.stream.run)) k.tied.running ∙ ap (λ (r : Run). cond p.running Running (verdict_after r)) k.tied.run

-- What a verdict means.
abbrev pub Means : Paper → List ℕ → Verdict → Type 0
Means p l Running = p.running ≡ true
Means p l Blank = (p.running ≡ false) × (p.run.handed ≡ 0)
Means p l Gaps = (p.running ≡ false) × (0 < p.run.handed) × (p.run.handed < p.run.accepted)
Means p l Complete = AllHandedOver p l

-- the verdict means what it says
means : (p : Paper) (l : List ℕ) → Sound p → Ordered p l → Means p l (told_verdict p)
unfolding verdict_after
means p l s o = go p.running refl (eqb p.run.ran 0) refl (eqb p.run.handed 0) refl (eqb p.run.handed p.run.accepted) refl
  where
    go : (a : Bool) → p.running ≡ a → (b : Bool) → eqb p.run.ran 0 ≡ b → (c : Bool) → eqb p.run.handed 0 ≡ c
        → (d : Bool) → eqb p.run.handed p.run.accepted ≡ d → Means p l (cond a Running (cond b Blank (cond c Blank (cond d Complete Gaps))))
    go true e b f c g d h = e
    go false e true f c g d h = (e, s.never (eqb-true _ _ f))
    go false e false f true g d h = (e, eqb-true _ _ g)
    go false e false f false g true h = (
      e,
      omega (arith, s.once, eqb-false p.run.ran 0 f),
      omega (arith, eqb-false p.run.handed 0 g, eqb-true p.run.handed p.run.accepted h),
      omega (arith, s.adds, eqb-true p.run.handed p.run.accepted h),
      omega (arith, s.adds, eqb-true p.run.handed p.run.accepted h),
      eqb-true _ _ h,
      all_handed p l o (eqb-true _ _ h),
    )
    go false e false f false g false h =
        (e, omega (arith, eqb-false p.run.handed 0 g), omega (arith, s.adds, eqb-false p.run.handed p.run.accepted h))

-- and no two verdicts mean the same
only : (p : Paper) (l : List ℕ) (v u : Verdict) → Means p l v → Means p l u → v ≡ u
only p l Running Running a b = refl
only p l Running Blank a b = absurd (true≢false (sym a ∙ b.0))
only p l Running Gaps a b = absurd (true≢false (sym a ∙ b.0))
only p l Running Complete a b = absurd (true≢false (sym a ∙ b.0))
only p l Blank Running a b = absurd (true≢false (sym b ∙ a.0))
only p l Blank Blank a b = refl
only p l Blank Gaps a b = absurd (omega (arith, a.1, b.1))
only p l Blank Complete a b = absurd (omega (arith, a.1, b.2, b.5))
only p l Gaps Running a b = absurd (true≢false (sym b ∙ a.0))
only p l Gaps Blank a b = absurd (omega (arith, b.1, a.1))
only p l Gaps Gaps a b = refl
only p l Gaps Complete a b = absurd (omega (arith, a.2, b.5))
only p l Complete Running a b = absurd (true≢false (sym b ∙ a.0))
only p l Complete Blank a b = absurd (omega (arith, b.1, a.2, a.5))
only p l Complete Gaps a b = absurd (omega (arith, b.2, a.5))
only p l Complete Complete a b = refl

-- each verdict exactly when it means so
pub exactly : (w : World) (p : Paper) (l : List ℕ) → Kept w p → Ordered p l → (v : Verdict) → (verdict_of w.stream ≡ v) ⇔ Means p l v
exactly w p l k o v =
    let e : verdict_of w.stream ≡ told_verdict p = verdict_told_law w p k in
    let m : Means p l (told_verdict p) = means p l k.sound o in
    (λ h. subst (Means p l) (sym e ∙ h) m, λ h. e ∙ only p l (told_verdict p) v m h)

pub verdicts_mean : Verdicts
verdicts_mean size m cs =
    let f : (v : Verdict) → (verdict_of (world_after size m cs).stream ≡ v) ⇔ Means (paper_after size m cs) (handed_after size m cs) v =
    exactly (world_after size m cs) (paper_after size m cs) (handed_after size m cs) (kept size m cs)
    (ordered_after (events (opened size m) (blank size) cs) (blank size) [] (sound_blank size) (legal_events cs (opened size m) (blank size) (kept size m [])) (ordered_blank size)) in
    (f Running, f Blank, f Gaps, f Complete)
