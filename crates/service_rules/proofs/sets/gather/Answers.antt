-- Each service by its call. Assumes nothing.
use native.Mathlib.Omega.{arith}
use Rattle.service_rules.specs.Services.{set_of}
use Rattle.service_rules.proofs.sets.gather.Goals as goal

pub returns : goal.returns
unfolding set_of
returns g c p h =
    rw (
      c.bit_if-4.ensures.value,
      c.bit_if-3.ensures.value,
      c.bit_if-2.ensures.value,
      c.bit_if.ensures.value,
      h 0x4000 _ c.passes-4.ensures,
      h 0x1000 _ c.passes-3.ensures,
      h 0x0400 _ c.passes-2.ensures,
      h 0x0001 _ c.passes.ensures,
    )
    (omega arith)
