-- The codes are the definition's. Assumes nothing.
use borrow.Author.Rules.{rules}
use borrow.Author.Tests.{ne_eqb}
use mathlib.Core.Logic.{⊎_elim}
use Rattle.format_rules.specs.Code.{YUYV, UYVY, RGBP, RGB3, BGR3, bytes_per_pixel}
use Rattle.format_rules.proofs.code.bytes_per_pixel.Goals as goal

pub returns-in-859981650 : goal.returns-in-859981650
unfolding bytes_per_pixel
returns-in-859981650 c = ⊎_elim (λ e. rw e) (λ e. rw e) c.in-859981650.is

pub returns-in-1448695129 : goal.returns-in-1448695129
unfolding bytes_per_pixel
returns-in-1448695129 c = ⊎_elim (λ e. rw e) (λ h. ⊎_elim (λ e. rw e) (λ e. rw e) h) c.in-1448695129.is

pub returns-in_default : goal.returns-in_default
unfolding bytes_per_pixel
returns-in_default c =
    let a = c.args.code in
    rw (
      ne_eqb a RGB3 (search rules),
      ne_eqb a BGR3 (search rules),
      ne_eqb a YUYV (search rules),
      ne_eqb a UYVY (search rules),
      ne_eqb a RGBP (search rules),
    )
