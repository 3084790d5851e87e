-- What the device makes of the services that a client asks for.
use Rattle.std.specs.Prelude.{ℕ, zero, suc, ◌+◌, ◌*◌, Bool, cond, not, ◌&&◌, List, eqb, get_or}
use Rattle.wire_read.specs.Lists.{tab}
use Rattle.sheet_rules.specs.Folds.{any_below}
use Rattle.service_rules.specs.Services.{has, set_of, offered_at}

-- what is asked for at place k: on every line the services of the set, or those of each line by itself where the set is empty
abbrev pub asked_at : ℕ → List ℕ → ℕ → ℕ
asked_at set lines k = cond (eqb set 0) (get_or lines k 0) set

-- the services that are in both of two sets
unfoldable pub common : ℕ → ℕ → ℕ
common a b = set_of (λ s. has a s.bit && has b s.bit)

-- what is answered at place k: of what is asked for there all that is offered there
unfoldable pub fitting_at : ℕ → List ℕ → ℕ → ℕ
fitting_at set lines k = common (asked_at set lines k) (offered_at k)

-- the lines that are answered
unfoldable pub negotiated_lines : ℕ → List ℕ → List ℕ
negotiated_lines set lines = tab (fitting_at set lines) 48

-- the union of the lines: each service that is on one of them
unfoldable pub union_of : List ℕ → ℕ
union_of lines = set_of (λ s. any_below 48 (λ k. has (get_or lines k 0) s.bit))

-- how many of the numbers below n pass
unfoldable pub count_below : ℕ → (ℕ → Bool) → ℕ
count_below zero p = 0
count_below (suc n) p = count_below n p + cond (p n) 1 0

-- how many lines carry something
abbrev pub carrying : List ℕ → ℕ
carrying lines = count_below 48 (λ k. not (eqb (get_or lines k 0) 0))

-- the io size: 64 bytes for each of them
unfoldable pub io_size : List ℕ → ℕ
io_size lines = 64 * carrying lines
