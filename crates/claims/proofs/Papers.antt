-- The papers of our device: after every list of calls they are sound, and every call more tells what a stream can make.
use mathlib.Core.Path.{◌≡◌, sym, ◌∙◌, subst}
use mathlib.Core.Bool.{false}
use Prim.Native.Nat.{ℕ, ◌*◌, ◌≤◌}
use native.Mathlib.Omega.{arith}
use borrow.Author.Tests.{eqb-false}
use lib.Dec.{eqb}
use mathlib.Core.List.{List}
use Rattle.stream_slots.specs.Slot.{slot_size}
use Rattle.device_opening.specs.Opening.{longest_memory}
use Rattle.stream_history.specs.Paper.{Paper, blank}
use Rattle.stream_history.proofs.Sound.{Sound, Fits, sound_blank}
use Rattle.claims.specs.Calls.{Kind, Call, Reply}
use Rattle.claims.specs.Machine.{Session}
use Rattle.claims.specs.Words.{told, seen_in, opening_size, paper_in}
use Rattle.claims.proofs.Boxes.{seen, paper_after, box_after, ours}
use Rattle.claims.proofs.Open.{fits_next}
use Rattle.claims.proofs.Shut.{closed_shut, shut_next}
use Rattle.claims.proofs.Lists.{Since, since, same_paper, same_seen}

pub record Papered (s : List ℕ) (S : Session) (k : Kind) : Type 0 where
  pub sound : (cs : List Call) → Sound (paper_in s S k cs)
  pub fits : (cs : List Call) (c : Call) → Fits (paper_in s S k cs) (told k (paper_in s S k cs) c (seen_in s S cs c))
  -- the slots lie in a memory that can be opened
  pub room : (cs : List Call) → (paper_in s S k cs).granted * slot_size (paper_in s S k cs).size ≤ longest_memory
  -- nothing is told to a device that is closed
  pub shut : (cs : List Call) → eqb S.opening 0 ≡ false → paper_in s S k cs ≡ blank (opening_size s k)

module _ (s : List ℕ) (m : Kind → List ℕ) (k : Kind) where
  sound_of : (cs : List Call) → Since s m cs → Sound (paper_after s m k cs)
  sound_of cs (Since.good g n t) = (t k).safe.kept.sound
  sound_of cs (Since.bad n d p) = subst Sound (sym (p k)) (sound_blank (opening_size s k))

  fits_of : (cs : List Call) (c : Call) → Since s m cs → Fits (paper_after s m k cs) (told k (paper_after s m k cs) c (seen (box_after s m cs) c))
  fits_of cs c (Since.good g n t) = fits_next k (box_after s m cs) (paper_after s m k cs) c (t k).safe
  fits_of cs c (Since.bad n d p) = subst (Fits (paper_after s m k cs)) (sym (shut_next k (box_after s m cs) (paper_after s m k cs) c (closed_shut (box_after s m cs) d)).1) tt

  room_of : (cs : List Call) → Since s m cs → (paper_after s m k cs).granted * slot_size (paper_after s m k cs).size ≤ longest_memory
  room_of cs (Since.good g n t) = omega (arith, (t k).safe.kept.tied.fits, (t k).safe.short)
  room_of cs (Since.bad n d p) = subst (λ (q : Paper). q.granted * slot_size q.size ≤ longest_memory) (sym (p k)) (omega arith)

  shut_of : (cs : List Call) → Since s m cs → eqb (ours s m).opening 0 ≡ false → paper_after s m k cs ≡ blank (opening_size s k)
  shut_of cs (Since.good g n t) e = absurd (omega (arith, n, eqb-false (ours s m).opening 0 e))
  shut_of cs (Since.bad n d p) e = p k

  pub papered : Papered s (ours s m) k
  papered = record {
    sound = λ cs. subst Sound (sym (same_paper s m k cs)) (sound_of cs (since s m cs));
    fits = λ cs c. subst (λ (r : Reply × List ℕ). Fits (paper_in s (ours s m) k cs) (told k (paper_in s (ours s m) k cs) c r)) (sym (same_seen s m cs c))
        (subst (λ (p : Paper). Fits p (told k p c (seen (box_after s m cs) c))) (sym (same_paper s m k cs)) (fits_of cs c (since s m cs)));
    room = λ cs. subst (λ (p : Paper). p.granted * slot_size p.size ≤ longest_memory) (sym (same_paper s m k cs)) (room_of cs (since s m cs));
    shut = λ cs e. same_paper s m k cs ∙ shut_of cs (since s m cs) e;
  }
