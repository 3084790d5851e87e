-- What the look-up answers, then what put_control ensures. Assumes nothing.
use Rattle.std.proofs.Common.{sym, ◌∙◌}
use Rattle.std.proofs.lemmas.Bool.{le-leb, lt-leb}
use Rattle.control_place_rules.proofs.Found.{found_some, found_none}
use Rattle.control_query_calls.specs.Query.{queryctrl_of}
use Rattle.control_query_calls.proofs.queryctrl.Goals as goal

pub returns-in_default : goal.returns-in_default
unfolding queryctrl_of
returns-in_default c d =
    let h = found_none _ _ (sym c.queried-found.ensures ∙ c.in_default.is) in
    rw (← c.word_at.ensures, le-leb _ _ h)

pub returns : goal.returns
unfolding queryctrl_of
returns c d =
    let (e, h) = found_some _ _ c.in-Some.k (sym c.queried-found.ensures ∙ c.in-Some.is) in
    rw (← c.word_at.ensures, lt-leb _ _ h, e, c.put_control.ensures)
