-- Devices that have the faults of the maps, each like ours but for one thing.
use Rattle.std.specs.Prelude.{ℕ, ◌+◌, ◌-◌, ◌%◌, Bool, true, false, cond, List, eqb, get_or, set}
use Rattle.wire_read.specs.Lists.{any}
use Rattle.ioctl_table.specs.Table.{request_of}
use Rattle.ioctl_table.specs.declared.table.Call.TheVariants.{Reqbufs, Querybuf, Streamoff}
use Rattle.stream_maps.specs.declared.Change.{Change}
use Rattle.claims.specs.Calls.{Call}
use Rattle.claims.specs.Calls.Call.{request, arrival, change}
use Rattle.claims.specs.Machine.{Session, Machine, Given}
use Rattle.claims_shut_out.specs.Wrong.{ours, place, only, with_request, Wrong}
use Rattle.claims_maps.specs.Faults.{GrantedAnew, HeldByOther, MappedTooOften, Misflagged, AnyLength}

-- a session with other numbers for maps and unmaps
abbrev pub with_change : Session → (List Call → Change → ℕ → ℕ → ℕ → ℕ) → Session
with_change S g = record {
  opening = S.opening;
  request = S.request;
  arrival = S.arrival;
  leaves = S.leaves;
  change = g;
  memory = S.memory;
  verdict = S.verdict;
  counts = S.counts;
  plane = S.plane;
}

-- a buffer request that gave 16 gives 0
abbrev pub taken : List ℕ → Given → Given
taken a r = record { number = cond (eqb r.number 16) 0 r.number; argument = r.argument }

abbrev pub takes_back : Machine
takes_back s m = with_request (ours s m) (λ cs w a. only Reqbufs taken (request_of w).call a ((ours s m).request cs w a))

-- a buffer request of either stream gives 16 once anything was mapped
abbrev pub is_map : Call → Bool
is_map (request w a) = false
is_map (arrival t f x y other) = false
is_map (change c t o l) = true

abbrev pub held_by : List Call → List ℕ → Given → Given
held_by cs a r = cond (any is_map cs) (record { number = 16; argument = a }) r

abbrev pub held_by_both : Machine
held_by_both s m = with_request (ours s m) (λ cs w a. only Reqbufs (held_by cs) (request_of w).call a ((ours s m).request cs w a))

-- a map that gave 75 gives 0
abbrev pub endless : Machine
endless s m = with_change (ours s m) (λ cs c t o l. cond (eqb ((ours s m).change cs c t o l) 75) 0 ((ours s m).change cs c t o l))

-- QUERYBUF tells its flags less flag 1, once a stop was asked for
abbrev pub is_stop : Call → Bool
is_stop (request w a) = eqb (place (request_of w).call) (place Streamoff)
is_stop (arrival t f x y other) = false
is_stop (change c t o l) = false

-- the argument with flag 1 taken off, in the lowest byte of the flags
abbrev pub unflagged : List ℕ → List ℕ
unflagged b = set b 12 (get_or b 12 0 - get_or b 12 0 % 2)

abbrev pub forgets : List Call → List ℕ → Given → Given
forgets cs a r = cond (any is_stop cs) (record { number = r.number; argument = unflagged r.argument }) r

abbrev pub stop_unmaps : Machine
stop_unmaps s m = with_request (ours s m) (λ cs w a. only Querybuf (forgets cs) (request_of w).call a ((ours s m).request cs w a))

-- and with flag 1 put on
abbrev pub flagged_with : List ℕ → List ℕ
flagged_with b = set b 12 (get_or b 12 0 - get_or b 12 0 % 2 + 1)

-- QUERYBUF tells flag 1 of every buffer once one was mapped: that of another
abbrev pub flagged : List Call → List ℕ → Given → Given
flagged cs a r = cond (any is_map cs) (record { number = r.number; argument = flagged_with r.argument }) r

abbrev pub flag_of_another : Machine
flag_of_another s m = with_request (ours s m) (λ cs w a. only Querybuf (flagged cs) (request_of w).call a ((ours s m).request cs w a))

-- a map or an unmap that gave 22 gives 0: whatever its offset and length are
abbrev pub any_length : Machine
any_length s m = with_change (ours s m) (λ cs c t o l. cond (eqb ((ours s m).change cs c t o l) 22) 0 ((ours s m).change cs c t o l))

pub record MapDevices : Type 0 where
  pub takes_back_law : Wrong GrantedAnew takes_back
  pub held_by_both_law : Wrong HeldByOther held_by_both
  pub endless : Wrong MappedTooOften endless
  pub stop_unmaps_law : Wrong Misflagged stop_unmaps
  pub flag_of_another_law : Wrong Misflagged flag_of_another
  pub any_length_law : Wrong AnyLength any_length
