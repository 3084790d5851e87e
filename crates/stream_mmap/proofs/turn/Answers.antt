-- The tests, and the store, by the word of the count. Assumes nothing.
use mathlib.Core.Path.{refl}
use borrow.Author.Tests.{eq-eqb, ne_eqb, le-leb, lt-leb}
use Prim.Native.Nat.{◌+◌}
use lib.ListN.{get_or}
use Rattle.stream_maps.specs.declared.Change.TheVariants.{Map, Unmap}
use Rattle.stream_mmap.proofs.Turns.{turn_refused, turn_done}
use borrow.Author.Rules.{rules}
use Rattle.stream_mmap.proofs.turn.Goals as goal

pub returns-then-n-ge255 : goal.returns-then-n-ge255
returns-then-n-ge255 c =
    let a = c.args in
    rw c.in-Map.is (turn_refused Map a.s.now a.k _ (search rules) refl (le-leb 255 _ c.if-n-ge255.true))

pub returns-then-n-eq0 : goal.returns-then-n-eq0
returns-then-n-eq0 c =
    let a = c.args in
    rw c.in-Unmap.is (turn_refused Unmap a.s.now a.k _ (search rules) refl (eq-eqb _ 0 c.if-n-eq0.true))

pub returns-else-n-ge255 : goal.returns-else-n-ge255
returns-else-n-ge255 c =
    let a = c.args in
    rw c.in-Map.is (turn_done Map a.s.now a.k (get_or a.s.now (176 + a.k) 0) (search rules) refl (search rules) (lt-leb 255 (get_or a.s.now (176 + a.k) 0) (search rules)))

pub returns-else-n-eq0 : goal.returns-else-n-eq0
returns-else-n-eq0 c =
    let a = c.args in
    rw c.in-Unmap.is (turn_done Unmap a.s.now a.k _ (search rules) refl (search rules) (ne_eqb _ 0 c.if-n-eq0.false))
