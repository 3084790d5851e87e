-- Where there is such a control, its own rules decide. Assumes nothing.
use Rattle.std.proofs.Common.{◌∙◌, ℕ, List, ap, sym}
use Rattle.std.specs.Prelude.{Result}
use Rattle.std.specs.Result.{result_ok}
use Rattle.std.proofs.lemmas.Result.{err_from_is_err_and}
use Rattle.ioctl_table.specs.declared.refusals.Refusal.{Refusal}
use Rattle.sheet_records.specs.declared.Control.{Control}
use Rattle.sheet_records.specs.Records.{control_fields}
use Rattle.control_value_rules.specs.declared.Setting.{Setting}
use Rattle.control_value_rules.specs.Values.{setting_at, setting_of}
use Rattle.control_value_rules.proofs.ByPlace.{by_place, by_none}
use Rattle.control_value_rules.proofs.set.Goals as goal

-- what setting the control at a place does
abbrev set_at : List ℕ → ℕ → ℕ → Result Setting Refusal
set_at s w k = setting_at (control_fields s k) k w

pub returns-in_err-k : goal.returns-in_err-k
unfolding setting_of
returns-in_err-k c =
    let a = c.args in
    let e = err_from_is_err_and c.from_residual.result c.from_residual.ensures.1 in
    rw (e.1, e.2) (by_none _ _ c.place.ensures (set_at a.s.now a.value) _ (sym c.ok_or.ensures.value ∙ c.in_err-k.was))

pub returns : goal.returns
unfolding setting_of
returns c =
    let a = c.args in
    let k = c.in_ok-k in
    c.setting_at.ensures
    ∙ ap (λ (x : Control). setting_at x k.k a.value) c.control_fields.ensures
    ∙ by_place _ _ c.place.ensures (set_at a.s.now a.value) k.k (c.ok_or.ensures.ok_part ∙ ap result_ok k.was)
