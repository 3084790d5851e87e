-- The test of the type, then what put_services_capability ensures. Assumes nothing.
use borrow.Author.Tests.{eq-eqb, ne_eqb}
use Rattle.service_calls.specs.Services.{services_capability_of}
use Rattle.service_calls.proofs.g_sliced_vbi_cap.Goals as goal

pub returns-then-word_at-ne-SLICED : goal.returns-then-word_at-ne-SLICED
unfolding services_capability_of
returns-then-word_at-ne-SLICED c l = rw (← c.word_at.ensures, ne_eqb _ _ c.if-word_at-ne-SLICED.true)

pub returns : goal.returns
unfolding services_capability_of
returns c l = rw (← c.word_at.ensures, eq-eqb _ _ c.if-word_at-ne-SLICED.false, c.put_services_capability.ensures)
