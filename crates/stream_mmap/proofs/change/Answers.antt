-- The buffer as `slot_at` finds it, and its count as `turn` promises. Assumes nothing.
use mathlib.Core.Path.{◌≡◌, sym, ◌∙◌}
use native.Mathlib.Omega.{arith}
use borrow.Author.Rules.{rules}
use Rattle.std.specs.Prelude.{Some, None, Err}
use Rattle.ioctl_table.specs.declared.refusals.Refusal.TheVariants.{NoSuchBuffer}
use Rattle.stream_slots.proofs.At.{found_below}
use Rattle.stream_words.specs.Words.{stream_in}
use Rattle.stream_words.proofs.Record.{granted_is}
use Rattle.stream_mmap.proofs.Turns.{change_found}
use Rattle.stream_mmap.proofs.change.Goals as goal

pub returns-in_err-k : goal.returns-in_err-k
returns-in_err-k c =
    let a = c.args in
    let none : c.slot_at.result ≡ None = rw c.in_err-k.was at c.ok_or.ensures.ok_part in
    let e : c.from_residual.result ≡ Err NoSuchBuffer = search rules in
    rw e (change_found a.c (stream_in a.s.now) _ a.size a.offset a.length None (rw granted_is c.min-n.ensures) (sym none ∙ c.slot_at.ensures))

pub turn-requires : goal.turn-requires
turn-requires c =
    let a = c.args in
    let some : c.slot_at.result ≡ Some c.in_ok-k.k = rw c.in_ok-k.was at c.ok_or.ensures.ok_part in
    omega (arith, c.min-n.ensures, found_below c.min-n.result a.size a.offset a.length c.in_ok-k.k (sym c.slot_at.ensures ∙ some))

pub returns : goal.returns
returns c =
    let a = c.args in
    let some : c.slot_at.result ≡ Some c.in_ok-k.k = rw c.in_ok-k.was at c.ok_or.ensures.ok_part in
    c.turn.ensures
    ∙ change_found a.c (stream_in a.s.now) _ a.size a.offset a.length (Some c.in_ok-k.k) (rw granted_is c.min-n.ensures) (sym some ∙ c.slot_at.ensures)
