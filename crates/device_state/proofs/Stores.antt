-- Stores in the ten words of a setup. Assumes nothing.
use mathlib.Core.Path.{◌≡◌, refl, ap, ◌∙◌, subst}
use Prim.Native.Nat.{ℕ}
use mathlib.Core.List.{List}
use lib.ListN.{length, get_or, set}
use Rattle.wire_signed.specs.Signed.{signed}
use Rattle.wire_read.specs.Lists.{tab}
use Rattle.wire_read.proofs.Tabs.{tab_listed}
use Rattle.format_rules.specs.declared.Format.{Format}
use Rattle.sheet_geometry.specs.declared.Rect.{Rect}
use Rattle.device_state.specs.Setup.{setup_in}
use Rattle.device_state.specs.Changes.{changed_format, changed_crop}

ten : (w : List ℕ) → length w ≡ 10 → tab (λ i. get_or w i 0) 10 ≡ w
ten w long = subst (λ (n : ℕ). tab (λ i. get_or w i 0) n ≡ w) long (tab_listed w 0)

-- of words that read as g
format_stored : (g : ℕ → ℕ) (f : Format) (line size : ℕ)
    → setup_in (set (set (set (set (set (tab g 10) 1 f.width) 2 f.height) 3 f.code) 4 line) 5 size) ≡ changed_format (setup_in (tab g 10)) f line size
unfolding setup_in tab
format_stored g f line size = refl

crop_stored : (g : ℕ → ℕ) (l t w h : ℕ)
    → setup_in (set (set (set (set (tab g 10) 6 l) 7 t) 8 w) 9 h) ≡ changed_crop (setup_in (tab g 10)) (record { left = signed l; top = signed t; width = signed w; height = signed h })
unfolding setup_in tab
crop_stored g l t w h = refl

module _ (w : List ℕ) (long : length w ≡ 10) where
  -- another format, with its line and image size
  pub format_set : (f : Format) (line size : ℕ)
      → setup_in (set (set (set (set (set w 1 f.width) 2 f.height) 3 f.code) 4 line) 5 size) ≡ changed_format (setup_in w) f line size
  format_set f line size =
      subst (λ (v : List ℕ). setup_in (set (set (set (set (set v 1 f.width) 2 f.height) 3 f.code) 4 line) 5 size) ≡ changed_format (setup_in v) f line size) (ten w long)
      (format_stored (λ i. get_or w i 0) f line size)

  -- another crop, by the bits of its numbers
  pub crop_set : (l t u h : ℕ) (r : Rect) → record { left = signed l; top = signed t; width = signed u; height = signed h } ≡ r
      → setup_in (set (set (set (set w 6 l) 7 t) 8 u) 9 h) ≡ changed_crop (setup_in w) r
  crop_set l t u h r e =
      subst (λ (v : List ℕ). setup_in (set (set (set (set v 6 l) 7 t) 8 u) 9 h) ≡ changed_crop (setup_in v) (record { left = signed l; top = signed t; width = signed u; height = signed h })) (ten w long)
      (crop_stored (λ i. get_or w i 0) l t u h)
      ∙ ap (changed_crop (setup_in w)) e
