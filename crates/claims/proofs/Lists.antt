-- A list of calls from an opening: what is seen of our device after it, told call by call.
use mathlib.Core.Path.{◌≡◌, refl, sym, ap, ap₂, ◌∙◌, subst}
use mathlib.Core.Bool.{Bool, true, false}
use Prim.Native.Nat.{ℕ}
use lib.Dec.{ltb}
use mathlib.Core.List.{List, [], ◌∷◌, ◌++◌}
use lib.ListN.{length}
use Rattle.ioctl_table.specs.declared.refusals.Refusal.TheVariants.{BadSheet, MemoryTooLong}
use Rattle.sheet_copy.specs.Copy.{kept_of}
use Rattle.sheet_rules.specs.Rules.{good_sheet}
use Rattle.device_state.specs.State.{closed_state}
use Rattle.device_opening.specs.Opening.{Opened, longest_memory, closed_by}
use Rattle.device_film.specs.Film.{taken_memory, device_verdict}
use Rattle.device_planes.specs.Planes.{device_place}
use Rattle.stream_history.specs.Paper.{Paper, Event, blank, step, noted}
use Rattle.stream_history.proofs.Machine.{leaves_append, keeps_after}
use Rattle.claims.specs.Calls.{Kind, Call, arrival_time}
use Rattle.claims.specs.Calls.{Reply}
use Rattle.claims.specs.Calls.Call.{request, arrival, change}
use Rattle.claims.specs.Machine.{more, reply_in, NoTrace}
use Rattle.claims.specs.Words.{told, seen_in, opening_size, events_in, paper_in}
use Rattle.claims.specs.Device.{stream_of}
use Rattle.claims.proofs.Services.{same_services}
use Rattle.claims.proofs.Boxes.{Box, opened, reply, seen, next, after, events, paper_after, box_after, ours}
use Rattle.claims.proofs.Steps.{Safe}
use Rattle.claims.proofs.Open.{goes, safe_next}
use Rattle.claims.proofs.Shut.{opened_by, opening_by, closed_state_law, good_safe, box_of, good_opening}
use Rattle.claims.proofs.Demand.{closed_at}

module _ (s : List ℕ) (m : Kind → List ℕ) where
  -- one call more
  pub one_more_law : (h : List Call) (c : Call) → box_after s m (more h c) ≡ next (box_after s m h) c
  one_more_law h c = leaves_append seen next (told Kind.pictures) h (c ∷ []) (opened s m)

  pub same_reply : (h : List Call) (c : Call) → reply_in (ours s m) h c ≡ reply (box_after s m h) c
  same_reply h (request w a) = refl
  same_reply h (arrival t f x y other) = refl
  same_reply h (change c t o l) = refl

  -- with the services in force before it
  pub same_seen : (h : List Call) (c : Call) → seen_in s (ours s m) h c ≡ seen (box_after s m h) c
  same_seen h c = ap₂ (λ (r : Reply) (l : List ℕ). (r, l)) (same_reply h c) (same_services s m h)

  pub same_events : (k : Kind) (cs h : List Call) (p : Paper) → events_in s (ours s m) k h p cs ≡ events k (box_after s m h) p cs
  same_events k [] h p = refl
  same_events k (c ∷ cs) h p =
      let e : told k p c (seen_in s (ours s m) h c) ≡ told k p c (seen (box_after s m h) c) = ap (told k p c) (same_seen h c) in
      let q : events_in s (ours s m) k (more h c) (step p (told k p c (seen (box_after s m h) c))) cs ≡ events k (next (box_after s m h) c) (step p (told k p c (seen (box_after s m h) c))) cs =
      same_events k cs (more h c) (step p (told k p c (seen (box_after s m h) c))) ∙ ap (λ (b : Box). events k b (step p (told k p c (seen (box_after s m h) c))) cs) (one_more_law h c) in
      ap (λ (v : Event). v ∷ events_in s (ours s m) k (more h c) (step p v) cs) e ∙ ap (λ (es : List Event). told k p c (seen (box_after s m h) c) ∷ es) q

  pub same_paper : (k : Kind) (cs : List Call) → paper_in s (ours s m) k cs ≡ paper_after s m k cs
  same_paper k cs = ap (noted (blank (opening_size s k))) (same_events k cs [] (blank (opening_size s k)))

  -- a call that leaves the box as it was leaves no trace
  pub no_trace : (cs : List Call) (c : Call) → next (box_after s m cs) c ≡ box_after s m cs → NoTrace (ours s m) cs c
  no_trace cs c e ds =
      let same : box_after s m (cs ++ c ∷ ds) ≡ box_after s m (cs ++ ds) =
      leaves_append seen next (told Kind.pictures) cs (c ∷ ds) (opened s m) ∙ ap (λ (b : Box). after b ds) e ∙ sym (leaves_append seen next (told Kind.pictures) cs ds (opened s m)) in
      record {
        reply = λ d. same_reply (cs ++ c ∷ ds) d ∙ ap (λ (b : Box). reply b d) same ∙ sym (same_reply (cs ++ ds) d);
        leaves = λ t f x y other. ap (λ (b : Box). taken_memory b.state t other f (arrival_time x y)) same;
        memory = λ k. ap (λ (b : Box). b.memory k) same;
        counts = λ k. ap (λ (b : Box). (stream_of k b.state).run) same;
        verdict = λ t. ap (λ (b : Box). device_verdict b.state t) same;
        plane = λ n k. ap (λ (b : Box). device_place b.sheet b.state n k) same;
      }

-- An open device, a stream of which stands where the calls left it: as its paper says, with its copy of the sheet and a memory of the same length.
pub record Stands (s : List ℕ) (m : Kind → List ℕ) (k : Kind) (b : Box) (p : Paper) : Type 0 where
  pub safe : Safe k b p
  pub sheet : b.sheet ≡ kept_of s
  pub long : length (b.memory k) ≡ length (m k)

same_sheet : (b : Box) (c : Call) → (next b c).sheet ≡ b.sheet
same_sheet b (request w a) = refl
same_sheet b (arrival t f x y other) = refl
same_sheet b (change c t o l) = refl

stands_next : (s : List ℕ) (m : Kind → List ℕ) (k : Kind) (b : Box) (p : Paper) (c : Call) → Stands s m k b p → Stands s m k (next b c) (step p (told k p c (seen b c)))
stands_next s m k b p c t = record {
  safe = safe_next k b p c t.safe;
  sheet = same_sheet b c ∙ t.sheet;
  long = (goes k b p c t.safe).long ∙ t.long;
}

-- An opening and every list of calls after it: open all along, or refused and closed.
pub data Since (s : List ℕ) (m : Kind → List ℕ) (cs : List Call) : Type 0 where
  good : good_sheet s ≡ true → (opened_by s m).number ≡ 0 → ((k : Kind) → Stands s m k (box_after s m cs) (paper_after s m k cs)) → Since s m cs
  bad : (opened_by s m).number ≡ 22 → (box_after s m cs).state ≡ closed_state → ((k : Kind) → paper_after s m k cs ≡ blank (opening_size s k)) → Since s m cs

pub since : (s : List ℕ) (m : Kind → List ℕ) (cs : List Call) → Since s m cs
unfolding closed_by
since s m cs = go (good_sheet s) refl (ltb longest_memory (length (m Kind.pictures))) refl (ltb longest_memory (length (m Kind.captions))) refl
  where
    shut : (o : Opened) → opened_by s m ≡ o → o.number ≡ 22 → (box_of o m).state ≡ closed_state → Since s m cs
    shut o e n c =
        bad (ap (λ (v : Opened). v.number) e ∙ n) (closed_at s m Kind.pictures (ap (λ (v : Opened). (box_of v m).state) e ∙ c) cs).0
        (λ k. (closed_at s m k (ap (λ (v : Opened). (box_of v m).state) e ∙ c) cs).1)

    go : (x : Bool) → good_sheet s ≡ x → (y : Bool) → ltb longest_memory (length (m Kind.pictures)) ≡ y → (z : Bool) → ltb longest_memory (length (m Kind.captions)) ≡ z → Since s m cs
    go false e y f z g = shut (closed_by BadSheet) (opening_by s m false y z e f g) refl (closed_state_law BadSheet m)
    go true e true f z g = shut (closed_by MemoryTooLong) (opening_by s m true true z e f g) refl (closed_state_law MemoryTooLong m)
    go true e false f true g = shut (closed_by MemoryTooLong) (opening_by s m true false true e f g) refl (closed_state_law MemoryTooLong m)
    go true e false f false g =
        let o : opened_by s m ≡ good_opening s m = opening_by s m true false false e f g in
        good e (ap (λ (v : Opened). v.number) o)
        (λ k. keeps_after seen next (told k) (Stands s m k) (stands_next s m k) cs (opened s m) (blank (opening_size s k))
        (subst (λ (v : Opened). Stands s m k (box_of v m) (blank (opening_size s k))) (sym o) (record { safe = good_safe s m e f g k; sheet = refl; long = refl })))
