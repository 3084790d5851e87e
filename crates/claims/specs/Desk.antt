-- The desk: what requests chose, told like the paper from the calls and what is given back.
use Rattle.std.specs.Prelude.{ℕ, cond, List, [], ◌∷◌, eqb, set}
use Rattle.wire_read.specs.Words.{word_at}
use Rattle.wire_signed.specs.Signed.{signed, bits}
use Rattle.ioctl_table.specs.Table.{request_of}
use Rattle.ioctl_table.specs.declared.table.Call.{Call as Asked}
use Rattle.ioctl_table.specs.declared.table.Call.TheVariants.{Unknown, Querycap, EnumFmt, GFmt, SFmt, TryFmt, Reqbufs, Querybuf, Qbuf, Dqbuf, Streamon, Streamoff, GCtrl, SCtrl, Queryctrl, Cropcap, GCrop, SCrop, GSlicedVbiCap}
use Rattle.sheet_geometry.specs.Geometry.{crop_bounds}
use Rattle.sheet_geometry.specs.declared.Rect.{Rect}
use Rattle.format_rules.specs.declared.Format.{Format}
use Rattle.grid_rules.specs.Grid.{nearest_value}
use Rattle.negotiation_rules.specs.Negotiation.{opening_format, negotiated, asked_format}
use Rattle.crop_rules.specs.Crop.{clamped, opening_crop}
use Rattle.control_place_rules.specs.Find.{place_of}
use Rattle.control_value_rules.specs.Values.{opening_values}
use Rattle.crop_calls.specs.Crops.{asked_crop}
use Rattle.service_replies.specs.Services.{lines_at}
use Rattle.device_state.specs.State.{no_services}
use Rattle.claims.specs.Calls.{Call, Reply}
use Rattle.claims.specs.Calls.Call.{request, arrival, change}
use Rattle.claims.specs.Calls.Reply.{answered, taken, numbered}
use Rattle.claims.specs.Machine.{Session, more, reply_in}
use Rattle.claims.specs.Table.{named}

-- The format in force, the crop, the values of the controls, and the services in force on each sliced line.
pub record Desk : Type 0 where
  pub format : Format
  pub crop : Rect
  pub values : List ℕ
  pub services : List ℕ

-- as opening sets them: the first format and the greatest size, the default crop with its top at an even distance, the default values, no services
abbrev pub opening_desk : List ℕ → Desk
opening_desk s = record { format = opening_format s; crop = opening_crop s; values = opening_values s; services = no_services }

-- the value that the control takes which the argument names: the nearest of its grid
abbrev pub value_on : List ℕ → List ℕ → ℕ
value_on s a = bits (nearest_value (named s a).limits (signed (word_at a 4)))

-- what an accepted request chooses, by its argument before and after
abbrev pub chosen : List ℕ → Desk → Asked → List ℕ → List ℕ → Desk
chosen s q Unknown a b = q
chosen s q Querycap a b = q
chosen s q EnumFmt a b = q
chosen s q GFmt a b = q
-- the services that it answered, or the format asked as the sheet allows it
chosen s q SFmt a b =
    cond (eqb (word_at a 0) 6) (record { format = q.format; crop = q.crop; values = q.values; services = lines_at b 6 })
    (record { format = negotiated s (asked_format a); crop = q.crop; values = q.values; services = q.services })
chosen s q TryFmt a b = q
chosen s q Reqbufs a b = q
chosen s q Querybuf a b = q
chosen s q Qbuf a b = q
chosen s q Dqbuf a b = q
chosen s q Streamon a b = q
chosen s q Streamoff a b = q
chosen s q GCtrl a b = q
-- the value asked, brought to the grid; a button has none
chosen s q SCtrl a b = cond (eqb (named s a).kind 4) q (record { format = q.format; crop = q.crop; values = set q.values (place_of s (word_at a 0)) (value_on s a); services = q.services })
chosen s q Queryctrl a b = q
chosen s q Cropcap a b = q
chosen s q GCrop a b = q
-- the rectangle asked, brought inside the bounds, its top at an even distance
chosen s q SCrop a b = record { format = q.format; crop = clamped (crop_bounds s) (asked_crop a); values = q.values; services = q.services }
chosen s q GSlicedVbiCap a b = q

-- the desk after a call: only an accepted request chooses
abbrev pub choice : List ℕ → Desk → Call → Reply → Desk
choice s q (request w a) (answered n b) = cond (eqb n 0) (chosen s q (request_of w).call a b) q
choice s q (request w a) (taken r) = q
choice s q (request w a) (numbered n) = q
choice s q (arrival t f x y other) r = q
choice s q (change c t o l) r = q

-- after calls that come after those of h
abbrev pub desk_from : List ℕ → Session → List Call → Desk → List Call → Desk
desk_from s S h q [] = q
desk_from s S h q (c ∷ cs) = desk_from s S (more h c) (choice s q c (reply_in S h c)) cs

-- after calls from an opening with sheet s
abbrev pub desk_in : List ℕ → Session → List Call → Desk
desk_in s S cs = desk_from s S [] (opening_desk s) cs
