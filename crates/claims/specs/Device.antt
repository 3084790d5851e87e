-- A device that keeps a state of any type, and the machine that it is: who calls it lends the memories and keeps them.
use Rattle.std.specs.Prelude.{ℕ, cond, List, [], ◌∷◌, eqb, length}
use Rattle.stream_words.specs.Stream.{Run, Stream}
use Rattle.plane_rules.specs.declared.Place.{Place}
use Rattle.stream_arrival.specs.declared.Arrival.{Arrival}
use Rattle.stream_verdict.specs.declared.Verdict.{Verdict}
use Rattle.device_state.specs.State.{State}
use Rattle.device_opening.specs.Opening.{Whole, opened_of}
use Rattle.request_topics.specs.Request.{request_answer}
use Rattle.device_film.specs.Film.{taken_of, taken_memory, device_verdict}
use Rattle.stream_maps.specs.declared.Change.{Change}
use Rattle.device_maps.specs.Mapping.{mapped_of}
use Rattle.device_planes.specs.Planes.{device_place}
use Rattle.claims.specs.Calls.{Kind, type_of, Call, arrival_time}
use Rattle.claims.specs.Calls.Call.{request, arrival, change}
use Rattle.claims.specs.Machine.{Given, Machine}
use Rattle.claims.specs.Table.{kind_of}

-- what an opening, a map or an unmap gives back and leaves
pub record Left (D : Type 0) : Type 0 where
  pub number : ℕ
  pub device : D

-- what a request gives back and leaves
pub record Asks (D : Type 0) : Type 0 where
  pub given : Given
  pub device : D

-- what an arrival answers and leaves, with the memory that it is lent
pub record Takes (D : Type 0) : Type 0 where
  pub arrival : Arrival
  pub device : D
  pub memory : List ℕ

-- A device.
pub record Device : Type 1 where
  pub State : Type 0
  pub opens : List ℕ → ℕ → ℕ → Left State
  pub request : State → ℕ → List ℕ → Asks State
  pub arrive : State → ℕ → List ℕ → List ℕ → ℕ → ℕ → Takes State
  pub change : State → Change → ℕ → ℕ → ℕ → Left State
  pub verdict : State → ℕ → Verdict
  pub counts : Kind → State → Run
  pub plane : State → ℕ → ℕ → Place

-- a device and the memories between two calls
pub record Kept (D : Type 0) : Type 0 where
  pub device : D
  pub memory : Kind → List ℕ

-- what an arrival of a type is lent: the memory of that stream as it was left, or something of another length, which is given back and forgotten
abbrev pub lent_to : (Kind → List ℕ) → ℕ → List ℕ → List ℕ
lent_to m t other = cond (eqb (length other) (length (m (kind_of t)))) (m (kind_of t)) other

-- the memory of a stream after an arrival of a type that left z of what it was lent
abbrev pub kept_on : (Kind → List ℕ) → ℕ → List ℕ → List ℕ → Kind → List ℕ
kept_on m t other z k = cond (eqb t (type_of k)) (cond (eqb (length other) (length (m k))) z (m k)) (m k)

module _ (D : Device) where
  abbrev pub takes : Kept D.State → ℕ → List ℕ → ℕ → ℕ → List ℕ → Takes D.State
  takes k t f x y other = D.arrive k.device t (lent_to k.memory t other) f x y

  abbrev pub goes_on : Kept D.State → Call → Kept D.State
  goes_on k (request w a) = record { device = (D.request k.device w a).device; memory = k.memory }
  goes_on k (arrival t f x y other) =
      record { device = (takes k t f x y other).device; memory = kept_on k.memory t other (takes k t f x y other).memory }
  goes_on k (change c t o l) = record { device = (D.change k.device c t o l).device; memory = k.memory }

  abbrev pub kept_after : Kept D.State → List Call → Kept D.State
  kept_after k [] = k
  kept_after k (c ∷ cs) = kept_after (goes_on k c) cs

  -- its sessions
  abbrev pub machine_of : Machine
  machine_of s m =
      let opened : Left D.State = D.opens s (length (m Kind.pictures)) (length (m Kind.captions)) in
      let after : List Call → Kept D.State = kept_after (record { device = opened.device; memory = m }) in
      record {
        opening = opened.number;
        request = λ cs w a. (D.request (after cs).device w a).given;
        arrival = λ cs t f x y other. (takes (after cs) t f x y other).arrival;
        leaves = λ cs t f x y other. (D.arrive (after cs).device t other f x y).memory;
        change = λ cs c t o l. (D.change (after cs).device c t o l).number;
        memory = λ k cs. (after cs).memory k;
        counts = λ k cs. D.counts k (after cs).device;
        verdict = λ cs t. D.verdict (after cs).device t;
        plane = λ cs n k. D.plane (after cs).device n k;
      }

-- the stream of a state
abbrev pub stream_of : Kind → State → Stream
stream_of Kind.pictures d = d.video
stream_of Kind.captions d = d.captions

-- our device, by the definitions that the contracts of the device cite
abbrev pub our_device : Device
our_device = record {
  State = Whole;
  opens = λ s n m. record { number = (opened_of s n m).number; device = (opened_of s n m).device };
  request = λ d w a. record {
    given = record { number = (request_answer d.sheet d.state w a).number; argument = (request_answer d.sheet d.state w a).argument };
    device = record { sheet = d.sheet; state = (request_answer d.sheet d.state w a).state };
  };
  arrive = λ d t m f x y. record {
    arrival = (taken_of d.state t (length m) f (arrival_time x y)).arrival;
    device = record { sheet = d.sheet; state = (taken_of d.state t (length m) f (arrival_time x y)).state };
    memory = taken_memory d.state t m f (arrival_time x y);
  };
  change = λ d c t o l. record {
    number = (mapped_of c d.state t o l).number;
    device = record { sheet = d.sheet; state = (mapped_of c d.state t o l).state };
  };
  verdict = λ d t. device_verdict d.state t;
  counts = λ k d. (stream_of k d.state).run;
  plane = λ d n k. device_place d.sheet d.state n k;
}
