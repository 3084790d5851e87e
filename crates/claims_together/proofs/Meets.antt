-- Our device meets them all.
use Rattle.claims.specs.Device.{machine_of, our_device}
use Rattle.claims.proofs.Devices.{device_1, device_2, device_3, device_counts, device_answers, device_papered}
use Prim.Native.Nat.{ℕ}
use mathlib.Core.List.{List}
use Rattle.claims.specs.Calls.{Kind}
use Rattle.claims_together.specs.Mapped.{MapsKept}
use Rattle.claims_together.specs.Meets.{Meets}
use Rattle.claims_together.proofs.Waiting.{stopped_or_idle}
use Rattle.claims_together.proofs.Sizes.{nearest_sizes}
use Rattle.claims_together.proofs.Crops.{fields_apart_law}
use Rattle.claims_together.proofs.Mapped.{maps_kept}

pub device_maps : (s : List ℕ) (m : Kind → List ℕ) (k : Kind) → MapsKept (machine_of our_device s m) k
device_maps s m k = maps_kept s m (machine_of our_device s m) k (device_1 s m) (device_answers s m) (device_papered s m k)

pub device_meets : Meets (machine_of our_device)
device_meets = record {
  demand_1 = device_1;
  demand_2 = device_2;
  demand_3 = device_3;
  counts = device_counts;
  answers = device_answers;
  stopped_or_idle = λ s m k. stopped_or_idle s m k (machine_of our_device s m) (device_1 s m);
  nearest_sizes = λ s m. nearest_sizes s m (machine_of our_device s m) (device_1 s m) (device_2 s m);
  fields_apart_law = λ s m. fields_apart_law s m (machine_of our_device s m) (device_1 s m) (device_answers s m);
  maps_kept = device_maps;
}
