-- The setup with one part changed.
use Rattle.std.specs.Prelude.{ℕ}
use Rattle.sheet_geometry.specs.declared.Rect.{Rect}
use Rattle.format_rules.specs.declared.Format.{Format}
use Rattle.device_state.specs.Setup.{Setup}

-- another format, with its line and image size
abbrev pub changed_format : Setup → Format → ℕ → ℕ → Setup
changed_format p f line size = record { ready = p.ready; format = f; line = line; size = size; crop = p.crop }

-- another crop
abbrev pub changed_crop : Setup → Rect → Setup
changed_crop p r = record { ready = p.ready; format = p.format; line = p.line; size = p.size; crop = r }
