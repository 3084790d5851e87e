-- The tests in the order of the definition; the verdict as the stream of the type gives it. Assumes nothing.
use mathlib.Core.Path.{sym, ap, ◌∙◌}
use Rattle.std.specs.Prelude.{Ok}
use Rattle.device_state.proofs.ReadTypes.{pictures_is, captions_is, neither_is}
use borrow.Author.Tests.{eq-eqb, ne_eqb}
use Rattle.device_state.specs.Setup.{setup_in}
use Rattle.device_film.specs.Film.{device_verdict}
use Rattle.device_film.proofs.verdict_of.Goals as goal

pub returns-then-setup-eq0 : goal.returns-then-setup-eq0
unfolding device_verdict setup_in
returns-then-setup-eq0 c v l = simp (eq-eqb _ _ c.if-setup-eq0.true)

pub returns-in-Ok-Pictures : goal.returns-in-Ok-Pictures
unfolding device_verdict setup_in
returns-in-Ok-Pictures c v l =
    let is = pictures_is c.args.kind (sym c.try_from.ensures ∙ c.in-Ok-Pictures.is ∙ ap Ok c.in-Ok-Pictures.field-0-is) in
    rw (ne_eqb _ _ c.if-setup-eq0.false, eq-eqb _ _ is) c.film_verdict.ensures

pub returns-in-Ok-Captions : goal.returns-in-Ok-Captions
unfolding device_verdict setup_in
returns-in-Ok-Captions c v l =
    let is = captions_is c.args.kind (sym c.try_from.ensures ∙ c.in-Ok-Captions.is ∙ ap Ok c.in-Ok-Captions.field-0-is) in
    rw (ne_eqb _ _ c.if-setup-eq0.false, ne_eqb _ _ is.0, eq-eqb _ _ is.1) c.film_verdict-in-Ok-Captions.ensures

pub returns-in-Err : goal.returns-in-Err
unfolding device_verdict setup_in
returns-in-Err c v l =
    let is = neither_is c.args.kind _ (sym c.try_from.ensures ∙ c.in-Err.is) in
    simp (ne_eqb _ _ c.if-setup-eq0.false, ne_eqb _ _ is.0, ne_eqb _ _ is.1)
