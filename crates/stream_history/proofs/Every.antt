-- What holds of one call holds of every list of calls.
use mathlib.Core.Path.{sym, subst}
use Prim.Native.Nat.{ℕ}
use mathlib.Core.List.{List}
use Rattle.stream_history.specs.Calls.{Call, World, opened, answer, next, after}
use Rattle.stream_history.specs.Paper.{Paper, Event, blank, told, step, noted, events}
use Rattle.stream_history.specs.Claims.{paper_after, world_after}
use Rattle.stream_history.proofs.Sound.{Sound, Fits, sound_blank, sound_step}
use Rattle.stream_history.proofs.Tied.{Tied, Answers, Follows, tied_opened, follows}
use Rattle.stream_history.proofs.Order.{Legal}
use Rattle.stream_history.proofs.Machine.{keeps_after, legal_tells}

-- The stream is as the paper says, and the paper is sound.
pub record Kept (w : World) (p : Paper) : Type 0 where
  pub tied : Tied w p
  pub sound : Sound p

-- the event of a call is one that a stream can make
pub fits_next : (w : World) (p : Paper) (c : Call) → Kept w p → Fits p (told p c (answer w c))
fits_next w p c k =
    let f : Follows (next w c) p c (answer w c) = follows w p c k.tied k.sound in
    subst (Fits p) (sym f.tells) f.fits

-- and its answer the one that the paper foretells
pub foretold_next : (w : World) (p : Paper) (c : Call) → Kept w p → Answers p (told p c (answer w c)) (answer w c)
foretold_next w p c k =
    let f : Follows (next w c) p c (answer w c) = follows w p c k.tied k.sound in
    subst (λ (e : Event). Answers p e (answer w c)) (sym f.tells) f.foretold

pub kept_next : (w : World) (p : Paper) (c : Call) → Kept w p → Kept (next w c) (step p (told p c (answer w c)))
kept_next w p c k =
    let f : Follows (next w c) p c (answer w c) = follows w p c k.tied k.sound in
    record {
      tied = subst (λ (e : Event). Tied (next w c) (step p e)) (sym f.tells) f.tied;
      sound = sound_step p (told p c (answer w c)) k.sound (fits_next w p c k);
    }

pub kept_after_law : (cs : List Call) (w : World) (p : Paper) → Kept w p → Kept (after w cs) (noted p (events w p cs))
kept_after_law = keeps_after answer next told Kept kept_next

pub legal_events : (cs : List Call) (w : World) (p : Paper) → Kept w p → Legal p (events w p cs)
legal_events = legal_tells answer next told Kept kept_next fits_next

-- from an opening on
pub kept : (size : ℕ) (m : List ℕ) (cs : List Call) → Kept (world_after size m cs) (paper_after size m cs)
kept size m cs = kept_after_law cs (opened size m) (blank size) (record { tied = tied_opened size m; sound = sound_blank size })
