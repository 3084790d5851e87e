-- The device that an opening returns: open and as the paper says, or closed for good.
use mathlib.Core.Path.{◌≡◌, refl, sym, ap, ◌∙◌, subst}
use mathlib.Core.Bool.{Bool, true, false, cond, not}
use Prim.Native.Nat.{ℕ, ◌≤◌}
use native.Mathlib.Omega.{arith}
use borrow.Author.Tests.{ltb-false}
use lib.Dec.{eqb, ltb}
use mathlib.Core.List.{List, [], ◌∷◌}
use lib.ListN.{length}
use Rattle.ioctl_table.specs.declared.refusals.Refusal.{Refusal}
use Rattle.ioctl_table.specs.declared.refusals.Refusal.TheVariants.{BadSheet, MemoryTooLong}
use Rattle.sheet_copy.specs.Copy.{kept_of}
use Rattle.sheet_copy.proofs.Copies.{kept_code}
use Rattle.sheet_geometry.proofs.Copies.{kept_widths, kept_heights, kept_alignment}
use Rattle.sheet_rules.specs.Rules.{good_sheet}
use Rattle.sheet_rules.proofs.Good.{fits_copy}
use Rattle.negotiation_rules.specs.Negotiation.{opening_format}
use Rattle.service_rules.specs.Negotiation.{count_below, io_size}
use Rattle.device_state.specs.State.{State, closed_state, opening_state}
use Rattle.device_opening.specs.Opening.{Opened}
use Rattle.device_opening.specs.Opening.{longest_memory, closed_by, opened_of}
use Rattle.request_topics.specs.Request.{request_answer}
use Rattle.stream_maps.specs.declared.Change.{Change}
use Rattle.device_maps.specs.Mapping.{mapped_of}
use Rattle.device_film.specs.Film.{taken_of}
use Rattle.stream_history.specs.Paper.{Event, changes, Paper, blank, step, noted}
use Rattle.stream_history.specs.Paper.Event.{idle}
use Rattle.stream_history.proofs.Sound.{sound_blank}
use Rattle.stream_history.proofs.Tied.{tied_opened}
use Rattle.stream_history.proofs.Machine.{keeps_after}
use Rattle.claims.specs.Calls.Call.{request, arrival, change}
use Rattle.claims.specs.Calls.{Reply}
use Rattle.claims.specs.Calls.Reply.{answered}
use Rattle.claims.proofs.Steps.{Safe}
use Rattle.claims.specs.Calls.{Kind, type_of, Call}
use Rattle.claims.proofs.Boxes.{Box, opened, reply, seen, next, after, events}
use Rattle.claims.specs.Words.{told, opening_size}

-- ---- closed

abbrev pub Shut : Box → Type 0
Shut b = eqb b.state.ready 0 ≡ true

-- a closed device answers 22 to every request
pub shut_request : (b : Box) (w : ℕ) (a : List ℕ) → Shut b → reply b (request w a) ≡ answered 22 a
unfolding request_answer
shut_request b w a h = rw h

shut_state : (b : Box) (w : ℕ) (a : List ℕ) → Shut b → (next b (request w a)).state ≡ b.state
unfolding request_answer
shut_state b w a h = rw h

either_idle : (x : Bool) → cond x idle idle ≡ idle
either_idle true = refl
either_idle false = refl

-- no call tells a stream anything, and none changes the device
pub shut_next : (k : Kind) (b : Box) (p : Paper) (c : Call) → Shut b → ((next b c).state ≡ b.state) × (told k p c (seen b c) ≡ idle)
unfolding taken_of mapped_of
shut_next k b p (request w a) h = (shut_state b w a h, ap (λ (r : Reply). told k p (request w a) (r, b.state.services)) (shut_request b w a h))
shut_next k b p (arrival t f x y other) h = (rw h, rw h (either_idle (eqb t (type_of k))))
shut_next k b p (change c t o l) h = (rw h, rw h)

-- after any calls it is as it was, and the paper too
pub shut_after : (k : Kind) (cs : List Call) (b : Box) (p : Paper) → Shut b → ((after b cs).state ≡ b.state) × (noted p (events k b p cs) ≡ p)
shut_after k cs b p h = keeps_after seen next (told k) Same same cs b p (refl, refl)
  where
    Same : Box → Paper → Type 0
    Same c q = (c.state ≡ b.state) × (q ≡ p)

    same : (c : Box) (q : Paper) (x : Call) → (c.state ≡ b.state) × (q ≡ p) → ((next c x).state ≡ b.state) × (step q (told k q x (seen c x)) ≡ p)
    same c q x (e, f) =
        let (u, v) = shut_next k c q x (ap (λ (d : State). eqb d.ready 0) e ∙ h) in
        (u ∙ e, ap (step q) v ∙ f)

-- nothing is mapped or unmapped
pub shut_unmapped : (k : Kind) (c : Change) (i : ℕ) (cs : List Call) (b : Box) (p : Paper) → Shut b → changes c i (events k b p cs) ≡ 0
shut_unmapped k c i [] b p h = refl
shut_unmapped k c i (x ∷ cs) b p h =
    let (u, v) = shut_next k b p x h in
    ap (λ (e : Event). changes c i (e ∷ events k (next b x) (step p e) cs)) v ∙ shut_unmapped k c i cs (next b x) p (ap (λ (d : State). eqb d.ready 0) u ∙ h)

-- ---- opening

-- the copy has the sheet's first format, greatest size and alignment
opening_size_law : (s : List ℕ) (n m : ℕ) → good_sheet s ≡ true → (opening_state (kept_of s) n m).size ≡ opening_size s Kind.pictures
unfolding opening_state opening_format
opening_size_law s n m good =
    let fits : length s ≤ 2688 = omega (arith, fits_copy s good) in
    rw (kept_widths s fits, kept_heights s fits, kept_alignment s fits, kept_code s fits 0)

-- the lengths of the memories
abbrev pub opened_by : List ℕ → (Kind → List ℕ) → Opened
opened_by s m = opened_of s (length (m Kind.pictures)) (length (m Kind.captions))

-- open, each stream as its paper says; or closed
pub data Begun (s : List ℕ) (m : Kind → List ℕ) : Type 0 where
  safe : ((k : Kind) → Safe k (opened s m) (blank (opening_size s k))) → Begun s m
  shut : (opened s m).state ≡ closed_state → Begun s m

-- the device that an opening gave, with its memories
abbrev pub box_of : Opened → (Kind → List ℕ) → Box
box_of o m = record { sheet = o.device.sheet; state = o.device.state; memory = m }

abbrev pub good_opening : List ℕ → (Kind → List ℕ) → Opened
good_opening s m = record { number = 0; device = record { sheet = kept_of s; state = opening_state (kept_of s) (length (m Kind.pictures)) (length (m Kind.captions)) } }

-- an opening by its three tests
pub opening_by : (s : List ℕ) (m : Kind → List ℕ) (x y z : Bool) → good_sheet s ≡ x → ltb longest_memory (length (m Kind.pictures)) ≡ y → ltb longest_memory (length (m Kind.captions)) ≡ z
    → opened_by s m ≡ cond (not x) (closed_by BadSheet) (cond y (closed_by MemoryTooLong) (cond z (closed_by MemoryTooLong) (good_opening s m)))
unfolding opened_of
opening_by s m x y z e f g = rw (e, f, g)

pub closed_state_law : (why : Refusal) (m : Kind → List ℕ) → (box_of (closed_by why) m).state ≡ closed_state
unfolding closed_by
closed_state_law why m = refl

-- a device that was never opened is closed
pub closed_shut : (b : Box) → b.state ≡ closed_state → Shut b
unfolding closed_state
closed_shut b e = ap (λ (d : State). eqb d.ready 0) e

pub good_safe : (s : List ℕ) (m : Kind → List ℕ) → good_sheet s ≡ true → ltb longest_memory (length (m Kind.pictures)) ≡ false → ltb longest_memory (length (m Kind.captions)) ≡ false
    → (k : Kind) → Safe k (box_of (good_opening s m) m) (blank (opening_size s k))
unfolding opening_state io_size count_below
good_safe s m good short shorter Kind.pictures =
    let z : ℕ = (opening_state (kept_of s) (length (m Kind.pictures)) (length (m Kind.captions))).size in
    subst (λ (n : ℕ). Safe Kind.pictures (box_of (good_opening s m) m) (blank n)) (opening_size_law s (length (m Kind.pictures)) (length (m Kind.captions)) good)
    (record {
      ready = refl;
      kept = record { tied = tied_opened z (m Kind.pictures); sound = sound_blank z };
      short = ltb-false longest_memory (length (m Kind.pictures)) short;
      timed = tt;
      sized = (refl, refl);
    })
good_safe s m good short shorter Kind.captions =
    record {
      ready = refl;
      kept = record { tied = tied_opened 0 (m Kind.captions); sound = sound_blank 0 };
      short = ltb-false longest_memory (length (m Kind.captions)) shorter;
      timed = tt;
      sized = (refl, refl);
    }

pub begins : (s : List ℕ) (m : Kind → List ℕ) → Begun s m
begins s m = go (good_sheet s) refl (ltb longest_memory (length (m Kind.pictures))) refl (ltb longest_memory (length (m Kind.captions))) refl
  where
    go : (x : Bool) → good_sheet s ≡ x → (y : Bool) → ltb longest_memory (length (m Kind.pictures)) ≡ y → (z : Bool) → ltb longest_memory (length (m Kind.captions)) ≡ z → Begun s m
    go false e y f z g = shut (ap (λ (o : Opened). (box_of o m).state) (opening_by s m false y z e f g) ∙ closed_state_law BadSheet m)
    go true e true f z g = shut (ap (λ (o : Opened). (box_of o m).state) (opening_by s m true true z e f g) ∙ closed_state_law MemoryTooLong m)
    go true e false f true g = shut (ap (λ (o : Opened). (box_of o m).state) (opening_by s m true false true e f g) ∙ closed_state_law MemoryTooLong m)
    go true e false f false g =
        safe (λ k. subst (λ (o : Opened). Safe k (box_of o m) (blank (opening_size s k))) (sym (opening_by s m true false false e f g)) (good_safe s m e f g k))
