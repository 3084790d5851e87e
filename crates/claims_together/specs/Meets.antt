-- All the demands, of any machine.
use Rattle.std.specs.Prelude.{ℕ, List}
use Rattle.claims.specs.Calls.{Kind}
use Rattle.claims.specs.Machine.{Machine}
use Rattle.claims.specs.Demands.{Demand1, Demand2, Demand3, Counts, Answers}
use Rattle.claims_together.specs.Waiting.{StoppedOrIdle}
use Rattle.claims_together.specs.Sizes.{NearestSizes}
use Rattle.claims_together.specs.Crops.{FieldsApart}
use Rattle.claims_together.specs.Mapped.{MapsKept}

pub record Meets (M : Machine) : Type 0 where
  pub demand_1 : (s : List ℕ) (m : Kind → List ℕ) → Demand1 s m (M s m)
  pub demand_2 : (s : List ℕ) (m : Kind → List ℕ) → Demand2 s (M s m)
  -- of each stream
  pub demand_3 : (s : List ℕ) (m : Kind → List ℕ) (k : Kind) → Demand3 s m (M s m) k
  pub counts : (s : List ℕ) (m : Kind → List ℕ) (k : Kind) → Counts s (M s m) k
  pub answers : (s : List ℕ) (m : Kind → List ℕ) → Answers s m (M s m)
  pub stopped_or_idle : (s : List ℕ) (m : Kind → List ℕ) (k : Kind) → StoppedOrIdle (M s m) k
  pub nearest_sizes : (s : List ℕ) (m : Kind → List ℕ) → NearestSizes s (M s m)
  pub fields_apart_law : (s : List ℕ) (m : Kind → List ℕ) → FieldsApart (M s m)
  pub maps_kept : (s : List ℕ) (m : Kind → List ℕ) (k : Kind) → MapsKept (M s m) k
