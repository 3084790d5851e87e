-- A format by its three numbers. Assumes nothing.
use Prim.Native.Nat.{ℕ}
use mathlib.Core.Path.{◌≡◌}
use Rattle.format_rules.specs.declared.Format.{Format}

abbrev pub format_of : ℕ → ℕ → ℕ → Format
format_of w h c = record { width = w; height = h; code = c }

pub same_format : {w h c w' h' c' : ℕ} → w ≡ w' → h ≡ h' → c ≡ c' → format_of w h c ≡ format_of w' h' c'
same_format p q r = cc
