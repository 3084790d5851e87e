-- One straight part of the ring, or two, by the laws of `Found`. Assumes nothing.
use mathlib.Core.Path.{refl}
use native.Mathlib.Omega.{arith}
use Rattle.stream_search.proofs.Found.{found_straight, found_first, found_second}
use Rattle.stream_search.proofs.find.Goals as goal

pub returns-then-h-n-le32 : goal.returns-then-h-n-le32
returns-then-h-n-le32 c =
    let a = c.args in
    found_straight a.s.now a.k _ _ refl c.lined-n.ensures c.first_place.result c.if-h-n-le32.true c.first_place.ensures

pub returns-then-p-lt32 : goal.returns-then-p-lt32
returns-then-p-lt32 c =
    let a = c.args in
    let f = c.first_place-p in
    found_first a.s.now a.k _ _ refl c.lined-n.ensures 32 f.result (omega arith) (omega (arith, c.if-h-n-le32.false)) f.ensures c.if-p-lt32.true

pub returns : goal.returns
returns c =
    let a = c.args in
    let f = c.first_place-p in
    found_second a.s.now a.k _ _ refl c.lined-n.ensures f.result c.first_place-2.result (omega (arith, c.if-h-n-le32.false)) f.ensures
    (λ l. omega (arith, c.if-p-lt32.false)) c.first_place-2.ensures
