-- All numbers below the bound are looked at until one fails. Assumes nothing.
use Rattle.std.proofs.Common.{◌≡◌, ℕ, true, false, arith, refl, rules, tests}
use Rattle.std.proofs.lemmas.Iterator.{cases_from_all, YieldsList-from_range}
use Rattle.sheet_rules.specs.Rules.{format_ok, formats_ok}
use Rattle.sheet_rules.proofs.Folding.{all_told}
use Rattle.sheet_check.proofs.formats_ok.Goals as goal

pub returns : goal.returns
unfolding formats_ok
returns c =
    let a = c.args in
    let s = a.s.now in
    let p = λ (k : ℕ). format_ok s k in
    all_told a.n p c.all.result (
    cases_from_all _ _ _ (λ k. p k ≡ true) (λ k. p k ≡ false) c.all.ensures.ran (YieldsList-from_range 0 a.n a.n refl (omega arith))
    (λ j q h. search (rules, tests))
    (λ j q h. search (rules, tests))
    )
