-- All numbers below the bound are looked at until one fails. Assumes nothing.
use Rattle.std.proofs.Common.{◌≡◌, ℕ, true, false, not, eqb, arith, refl, rules, tests}
use Rattle.std.proofs.lemmas.Iterator.{cases_from_all, YieldsList-from_range}
use Rattle.sheet_records.specs.Records.{format_code}
use Rattle.sheet_rules.specs.Rules.{new_code}
use Rattle.sheet_rules.proofs.Folding.{all_told}
use Rattle.sheet_check.proofs.new_code.Goals as goal

pub returns : goal.returns
unfolding new_code
returns c =
    let a = c.args in
    let s = a.s.now in
    let k = a.k in
    let p = λ (j : ℕ). not (eqb (format_code s j) (format_code s k)) in
    all_told a.k p c.all.result (
    cases_from_all _ _ _ (λ k. p k ≡ true) (λ k. p k ≡ false) c.all.ensures.ran (YieldsList-from_range 0 a.k a.k refl (omega arith))
    (λ j q h. search (rules, tests))
    (λ j q h. search (rules, tests))
    )
