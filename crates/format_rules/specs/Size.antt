-- How large a picture is. Width and height count up to 8192 and the alignment up to 64: in a good sheet none is larger.
use Rattle.std.specs.Prelude.{ℕ, ◌+◌, ◌-◌, ◌*◌, ◌/◌, min, cond}
use Rattle.format_rules.specs.declared.Format.{Format}
use Rattle.format_rules.specs.Code.{bytes_per_pixel, half_chroma}

-- x, up to the next multiple of step
unfoldable pub round_up : ℕ → ℕ → ℕ
round_up x step = (x + (step - 1)) / step * step

-- width times bytes per pixel, rounded up to the alignment
unfoldable pub bytes_per_line : Format → ℕ → ℕ
bytes_per_line f alignment = round_up (min f.width 8192 * bytes_per_pixel f.code) (min alignment 64)

-- the height, up to 8192
unfoldable pub held_height : Format → ℕ
held_height f = min f.height 8192

-- bytes per line times height: the first plane, or the whole picture
unfoldable pub first_plane : Format → ℕ → ℕ
first_plane f alignment = bytes_per_line f alignment * held_height f

-- half as much again for the 4:2:0 codes
unfoldable pub image_size : Format → ℕ → ℕ
image_size f alignment =
    cond (half_chroma f.code) (first_plane f alignment + first_plane f alignment / 2) (first_plane f alignment)
