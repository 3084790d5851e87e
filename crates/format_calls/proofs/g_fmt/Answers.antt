-- What put_format ensures. Assumes nothing.
use Rattle.format_calls.specs.Formats.{g_fmt_of}
use Rattle.device_state.specs.Setup.{setup_in}
use Rattle.format_calls.proofs.g_fmt.Goals as goal

pub returns : goal.returns
unfolding g_fmt_of setup_in
returns c x = rw (c.put_format.ensures, c.format_in-f.ensures)
