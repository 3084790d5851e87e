-- The words of the four numbers, and what a boolean and a menu ask of them. Assumes nothing.
use Prim.Native.Nat.{ℕ, ◌+◌, ◌<◌, ◌^◌}
use mathlib.Core.Path.{◌≡◌}
use mathlib.Core.Bool.{Bool, not, ◌&&◌, ◌||◌}
use mathlib.Core.List.{List}
use lib.Dec.{eqb}
use native.Mathlib.Omega.{arith}
use Rattle.wire_read.specs.Words.{word_at}
use Rattle.wire_signed.specs.Signed.{signed_at}
use Rattle.sheet_contents.specs.Contents.{control_at}
use Rattle.sheet_records.specs.Records.{limits_of}
use Rattle.sheet_rules.specs.Rules.{grid_ok, limits_ok}
use Rattle.sheet_rules.specs.Words.{limits_of_words}
use Rattle.sheet_rules.proofs.Signs.{exact}
use Rattle.sheet_control_check.proofs.limits_ok.Goals as goal

-- the test on the words is the rule's
by_words : (s : List ℕ) (k kind at lo hi by d : ℕ) (g : Bool) → at ≡ control_at s k
    → lo ≡ word_at s (at + 40) → hi ≡ word_at s (at + 44) → by ≡ word_at s (at + 48) → d ≡ word_at s (at + 52)
    → lo < 2 ^ 32 → hi < 2 ^ 32 → by < 2 ^ 32 → g ≡ grid_ok (limits_of_words lo hi by d)
    → (eqb kind 4 || (g && (not (eqb kind 2) || (eqb lo 0 && eqb hi 1 && eqb by 1)) && (not (eqb kind 3) || (eqb lo 0 && eqb by 1)))) ≡ limits_ok kind (limits_of s k)
unfolding limits_ok limits_of signed_at
by_words s k kind at lo hi by d g e l h b i fl fh fb t = cc (exact 0 lo (omega arith) fl, exact 1 hi (omega arith) fh, exact 1 by (omega arith) fb)

pub returns : goal.returns
returns c =
    let lo = c.word_at-lo in
    let hi = c.word_at-hi in
    let by = c.word_at-step in
    let d = c.word_at in
    let a = c.args in
    by_words a.s.now a.k a.kind _ _ _ _ _ _ c.control_at-at.ensures.0 lo.ensures hi.ensures by.ensures d.ensures lo.type_inv hi.type_inv by.type_inv c.grid_ok.ensures
