-- Five stores, by `format_set`. Assumes nothing.
use mathlib.Core.Path.{◌≡◌}
use lib.ListN.{length}
use Rattle.device_state.proofs.Stores.{format_set}
use borrow.Author.Rules.{rules}
use Rattle.device_setup.proofs.keep_format.Goals as goal

pub returns : goal.returns
returns c =
    let a = c.args in
    let long : length a.w.now ≡ 10 = search rules in
    format_set a.w.now long a.f a.line a.size
