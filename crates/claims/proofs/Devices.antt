-- Our device, as one that keeps a state and is lent its memory, is the machine of which all was proved.
use mathlib.Core.Path.{◌≡◌, refl, sym, ap, ◌∙◌, subst, fun_ext}
use Prim.Native.Nat.{ℕ}
use mathlib.Core.List.{List, [], ◌∷◌}
use lib.ListN.{length}
use Rattle.device_opening.specs.Opening.{Whole, opened_of}
use Rattle.claims.specs.Calls.{Kind, Call}
use Rattle.claims.specs.Calls.Call.{request, arrival, change}
use Rattle.claims.specs.Machine.{Session, Machine}
use Rattle.claims.specs.Device.{Kept, takes, goes_on, kept_after, machine_of, our_device}
use Rattle.claims.specs.Demands.{Demand1, Demand2, Demand3, Counts, Answers}
use Rattle.claims.proofs.Boxes.{Box, opened, next, after, ours}
use Rattle.claims.proofs.Told.{told_1}
use Rattle.claims.proofs.Tried.{told_2}
use Rattle.claims.proofs.Queued.{told_3, told_counts}
use Rattle.claims.proofs.Answered.{told_answers}
use Rattle.claims.proofs.Papers.{Papered, papered}

abbrev keeps : Box → Kept Whole
keeps b = record { device = record { sheet = b.sheet; state = b.state }; memory = b.memory }

same_next : (b : Box) (c : Call) → goes_on our_device (keeps b) c ≡ keeps (next b c)
same_next b (request w a) = refl
same_next b (arrival t f x y other) = refl
same_next b (change c t o l) = refl

same_after : (cs : List Call) (b : Box) → kept_after our_device (keeps b) cs ≡ keeps (after b cs)
same_after [] b = refl
same_after (c ∷ cs) b = ap (λ (k : Kept Whole). kept_after our_device k cs) (same_next b c) ∙ same_after cs (next b c)

-- a session by what is kept after each list of calls
abbrev seen : ℕ → (List Call → Kept Whole) → Session
seen n k = record {
  opening = n;
  request = λ cs w a. (our_device.request (k cs).device w a).given;
  arrival = λ cs t f x y other. (takes our_device (k cs) t f x y other).arrival;
  leaves = λ cs t f x y other. (our_device.arrive (k cs).device t other f x y).memory;
  change = λ cs c t o l. (our_device.change (k cs).device c t o l).number;
  memory = λ j cs. (k cs).memory j;
  counts = λ j cs. our_device.counts j (k cs).device;
  verdict = λ cs t. our_device.verdict (k cs).device t;
  plane = λ cs n j. our_device.plane (k cs).device n j;
}

pub same_machine : machine_of our_device ≡ ours
same_machine = fun_ext λ s. fun_ext λ m. ap (seen (opened_of s (length (m Kind.pictures)) (length (m Kind.captions))).number) (fun_ext λ cs. same_after cs (opened s m))

-- what was proved of that machine holds of our device
of_device : (P : Machine → Type 0) → P ours → P (machine_of our_device)
of_device P = subst P (sym same_machine)

pub device_1 : (s : List ℕ) (m : Kind → List ℕ) → Demand1 s m (machine_of our_device s m)
device_1 = of_device (λ (M : Machine). (s : List ℕ) (m : Kind → List ℕ) → Demand1 s m (M s m)) told_1

pub device_2 : (s : List ℕ) (m : Kind → List ℕ) → Demand2 s (machine_of our_device s m)
device_2 = of_device (λ (M : Machine). (s : List ℕ) (m : Kind → List ℕ) → Demand2 s (M s m)) told_2

pub device_3 : (s : List ℕ) (m : Kind → List ℕ) (k : Kind) → Demand3 s m (machine_of our_device s m) k
device_3 = of_device (λ (M : Machine). (s : List ℕ) (m : Kind → List ℕ) (k : Kind) → Demand3 s m (M s m) k) told_3

pub device_counts : (s : List ℕ) (m : Kind → List ℕ) (k : Kind) → Counts s (machine_of our_device s m) k
device_counts = of_device (λ (M : Machine). (s : List ℕ) (m : Kind → List ℕ) (k : Kind) → Counts s (M s m) k) told_counts

pub device_answers : (s : List ℕ) (m : Kind → List ℕ) → Answers s m (machine_of our_device s m)
device_answers = of_device (λ (M : Machine). (s : List ℕ) (m : Kind → List ℕ) → Answers s m (M s m)) told_answers

pub device_papered : (s : List ℕ) (m : Kind → List ℕ) (k : Kind) → Papered s (machine_of our_device s m) k
device_papered = of_device (λ (M : Machine). (s : List ℕ) (m : Kind → List ℕ) (k : Kind) → Papered s (M s m) k) papered
