-- What requests choose: closed, and after a good opening.
use Rattle.std.specs.Prelude.{ℕ, List, pos, get_or}
use Rattle.wire_signed.specs.Signed.{signed}
use Rattle.sheet_geometry.specs.Geometry.{line_alignment}
use Rattle.sheet_geometry.specs.declared.Rect.{Rect}
use Rattle.format_rules.specs.declared.Format.{Format}
use Rattle.format_rules.specs.Size.{bytes_per_line, image_size}
use Rattle.negotiation_rules.specs.Negotiation.{opening_format}
use Rattle.crop_rules.specs.Crop.{opening_crop}

-- ready is not 0 while the device is open; the format in force with its line and image size; the crop
pub record Setup : Type 0 where
  pub ready : ℕ
  pub format : Format
  pub line : ℕ
  pub size : ℕ
  pub crop : Rect

-- the setup that stands in ten words
unfoldable pub setup_in : List ℕ → Setup
setup_in w =
    record {
      ready = get_or w 0 0;
      format = record { width = get_or w 1 0; height = get_or w 2 0; code = get_or w 3 0 };
      line = get_or w 4 0;
      size = get_or w 5 0;
      crop = record { left = signed (get_or w 6 0); top = signed (get_or w 7 0); width = signed (get_or w 8 0); height = signed (get_or w 9 0) };
    }

-- closed: all zeros
abbrev pub closed_setup : Setup
closed_setup =
    record {
      ready = 0;
      format = record { width = 0; height = 0; code = 0 };
      line = 0;
      size = 0;
      crop = record { left = pos 0; top = pos 0; width = pos 0; height = pos 0 };
    }

-- after a good opening: first format, greatest size, default crop with its top at an even distance
abbrev pub opening_setup : List ℕ → Setup
opening_setup s =
    record {
      ready = 1;
      format = opening_format s;
      line = bytes_per_line (opening_format s) (line_alignment s);
      size = image_size (opening_format s) (line_alignment s);
      crop = opening_crop s;
    }
