-- A place that is found is below 32. Assumes nothing.
use Rattle.std.proofs.Common.{◌∙◌, ℕ, List, arith, ap, sym, slice_index_or}
use Rattle.std.specs.Prelude.{Result}
use Rattle.std.specs.Result.{result_ok}
use Rattle.std.proofs.lemmas.Result.{err_from_is_err_and}
use Rattle.ioctl_table.specs.declared.refusals.Refusal.{Refusal}
use Rattle.sheet_records.specs.declared.Control.{Control}
use Rattle.sheet_records.specs.Records.{control_fields}
use Rattle.control_place_rules.specs.Find.{present}
use Rattle.control_value_rules.specs.Values.{reading_at, reading}
use Rattle.control_value_rules.proofs.ByPlace.{place_found, by_place, by_none}
use Rattle.control_value_rules.proofs.read.Goals as goal

-- what reading the control at a place answers
abbrev read_at : List ℕ → List ℕ → ℕ → Result ℕ Refusal
read_at s values k = reading_at (control_fields s k) (slice_index_or values k 0)

pub returns-in_err-k : goal.returns-in_err-k
unfolding reading
returns-in_err-k c =
    let a = c.args in
    let e = err_from_is_err_and c.from_residual.result c.from_residual.ensures.1 in
    rw (e.1, e.2) (by_none _ _ c.place.ensures (read_at a.s.now a.values.now) _ (sym c.ok_or.ensures.value ∙ c.in_err-k.was))

pub bounds-values-k : goal.bounds-values-k
unfolding present
bounds-values-k c =
    let e = c.ok_or.ensures.ok_part ∙ ap result_ok c.in_ok-k.was in
    omega (arith, place_found _ _ c.place.ensures c.in_ok-k.k e)

pub returns : goal.returns
unfolding reading
returns c =
    let a = c.args in
    let k = c.in_ok-k in
    c.reading_at.ensures
    ∙ ap (λ (x : Control). reading_at x (slice_index_or a.values.now k.k 0)) c.control_fields.ensures
    ∙ by_place _ _ c.place.ensures (read_at a.s.now a.values.now) k.k (c.ok_or.ensures.ok_part ∙ ap result_ok k.was)
