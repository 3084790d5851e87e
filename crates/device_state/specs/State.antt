-- What a device keeps: closed, after a good opening, and with one part changed.
use Rattle.std.specs.Prelude.{ℕ, List, replicate}
use Rattle.sheet_geometry.specs.Geometry.{line_alignment}
use Rattle.sheet_geometry.specs.declared.Rect.{Rect}
use Rattle.format_rules.specs.declared.Format.{Format}
use Rattle.format_rules.specs.Size.{bytes_per_line, image_size}
use Rattle.control_value_rules.specs.Values.{opening_values}
use Rattle.stream_words.specs.Stream.{Stream}
use Rattle.stream_words.specs.Words.{stream_in}
use Rattle.stream_run.specs.Stream.{fresh_stream}
use Rattle.device_state.specs.Setup.{Setup, setup_in, closed_setup, opening_setup}

-- no services on any line
abbrev pub no_services : List ℕ
no_services = replicate 48 0

-- all that a device keeps beside its sheet: ready is not 0 while it is open; the format in force with its line and image size; the crop;
-- the values of the controls; the services in force on each sliced line; the stream of pictures and the stream of captions
pub record State : Type 0 where
  pub ready : ℕ
  pub format : Format
  pub line : ℕ
  pub size : ℕ
  pub crop : Rect
  pub values : List ℕ
  pub services : List ℕ
  pub video : Stream
  pub captions : Stream

-- a state by its parts
abbrev pub state_of : Setup → List ℕ → List ℕ → Stream → Stream → State
state_of p v l t c =
    record { ready = p.ready; format = p.format; line = p.line; size = p.size; crop = p.crop; values = v; services = l; video = t; captions = c }

-- the state that stands in the words of the setup, in those of the values and the services, and in those of the two streams
abbrev pub state_in : List ℕ → List ℕ → List ℕ → List ℕ → List ℕ → State
state_in p v l w x = state_of (setup_in p) v l (stream_in w) (stream_in x)

-- closed: all zeros
unfoldable pub closed_state : State
closed_state = state_of closed_setup (replicate 32 0) no_services (fresh_stream 0) (fresh_stream 0)

-- after a good opening: first format, greatest size, default crop with its top at an even distance, default values, no services, no buffers
unfoldable pub opening_state : List ℕ → ℕ → ℕ → State
opening_state s n m = state_of (opening_setup s) (opening_values s) no_services (fresh_stream n) (fresh_stream m)

-- the same state with another setup
abbrev pub with_setup : State → Setup → State
with_setup d p = state_of p d.values d.services d.video d.captions

-- its setup
abbrev pub setup_of : State → Setup
setup_of d = record { ready = d.ready; format = d.format; line = d.line; size = d.size; crop = d.crop }

-- the same state with another format, and the line and image size that the sheet gives it; with another crop, values, services or stream
abbrev pub with_format : List ℕ → State → Format → State
with_format s d f =
    with_setup d (record { ready = d.ready; format = f; line = bytes_per_line f (line_alignment s); size = image_size f (line_alignment s); crop = d.crop })

abbrev pub with_crop : State → Rect → State
with_crop d r = with_setup d (record { ready = d.ready; format = d.format; line = d.line; size = d.size; crop = r })

abbrev pub with_values : State → List ℕ → State
with_values d v = state_of (setup_of d) v d.services d.video d.captions

abbrev pub with_services : State → List ℕ → State
with_services d l = state_of (setup_of d) d.values l d.video d.captions

abbrev pub with_video : State → Stream → State
with_video d s = state_of (setup_of d) d.values d.services s d.captions

abbrev pub with_captions : State → Stream → State
with_captions d s = state_of (setup_of d) d.values d.services d.video s

-- with another setup and other services; with other streams
abbrev pub with_settings : State → Setup → List ℕ → State
with_settings d p l = state_of p d.values l d.video d.captions

abbrev pub with_streams : State → Stream → Stream → State
with_streams d s c = state_of (setup_of d) d.values d.services s c
