-- What the definitions of specs/ say in each case.
use Prim.Native.Nat.{ℕ, ◌<◌, ◌≤◌}
use mathlib.Core.Bool.{Bool, true, false, not}
use mathlib.Core.List.{List}
use mathlib.Core.Path.{◌≡◌}
use borrow.Author.Tests.{lt-ltb, le-ltb}
use Rattle.ioctl_table.specs.declared.refusals.Refusal.TheVariants.{BadSheet, MemoryTooLong}
use Rattle.sheet_copy.specs.Copy.{kept_of}
use Rattle.sheet_rules.specs.Rules.{good_sheet}
use Rattle.device_state.specs.State.{opening_state}
use Rattle.device_opening.specs.Opening.{closed_by, opened_of, longest_memory}

-- an opening: g is what the code found of the sheet
module _ (s : List ℕ) (n m : ℕ) {g : Bool} (e : g ≡ good_sheet s) where
  -- a bad sheet
  pub opened_bad : not g ≡ true → closed_by BadSheet ≡ opened_of s n m
  unfolding opened_of
  opened_bad h = rw (← e, h)

  -- too much memory for pictures
  pub opened_long : not g ≡ false → longest_memory < n → closed_by MemoryTooLong ≡ opened_of s n m
  unfolding opened_of
  opened_long h l = rw (← e, h, lt-ltb longest_memory n l)

  -- for captions
  pub opened_longer : not g ≡ false → n ≤ longest_memory → longest_memory < m → closed_by MemoryTooLong ≡ opened_of s n m
  unfolding opened_of
  opened_longer h l k = rw (← e, h, le-ltb longest_memory n l, lt-ltb longest_memory m k)

  -- a good sheet
  pub opened_good : not g ≡ false → n ≤ longest_memory → m ≤ longest_memory
      → record { number = 0; device = record { sheet = kept_of s; state = opening_state (kept_of s) n m } } ≡ opened_of s n m
  unfolding opened_of
  opened_good h l k = rw (← e, h, le-ltb longest_memory n l, le-ltb longest_memory m k)
