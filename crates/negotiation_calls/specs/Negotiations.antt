-- What S_FMT and TRY_FMT answer to a format of pictures.
use Rattle.std.specs.Prelude.{ℕ, cond, not, List, eqb}
use Rattle.std.proofs.lemmas.List.Edits.{sets}
use Rattle.ioctl_table.specs.declared.refusals.Refusal.TheVariants.{BuffersExist}
use Rattle.sheet_geometry.specs.Geometry.{line_alignment}
use Rattle.format_rules.specs.declared.Format.{Format}
use Rattle.format_rules.specs.Size.{bytes_per_line, image_size}
use Rattle.negotiation_rules.specs.Negotiation.{negotiated, asked_format}
use Rattle.negotiation_rules.specs.Answer.{format_reply}
use Rattle.negotiation_calls.specs.declared.Picture.{Picture}
use Rattle.device_state.specs.State.{State, with_format}
use Rattle.device_state.specs.Answers.{Answer, done, refused}

-- a format told with the line and image size that the sheet gives it
abbrev pub told_format : List ℕ → Format → List ℕ
told_format s f = format_reply 1 f (bytes_per_line f (line_alignment s)) (image_size f (line_alignment s))

-- a format with its line and image size
abbrev pub picture_of : List ℕ → Format → Picture
picture_of s f = record { format = f; line = bytes_per_line f (line_alignment s); size = image_size f (line_alignment s) }

-- S_FMT of pictures: no buffers may be there
unfoldable pub s_fmt_of : List ℕ → State → List ℕ → Answer
s_fmt_of s d a =
    cond (not (eqb d.video.queues.granted 0)) (refused BuffersExist d a)
    (done (with_format s d (negotiated s (asked_format a))) (sets a 0 (told_format s (negotiated s (asked_format a)))))

-- TRY_FMT of pictures
unfoldable pub try_fmt_of : List ℕ → State → List ℕ → Answer
try_fmt_of s d a = done d (sets a 0 (told_format s (negotiated s (asked_format a))))
