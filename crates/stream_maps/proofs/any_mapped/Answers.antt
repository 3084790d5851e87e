-- The loop's invariant: what was found so far is whether one of the counts looked at so far is above 0. Assumes nothing.
use mathlib.Core.Path.{◌≡◌, sym, ap, ◌∙◌}
use mathlib.Core.Bool.{Bool, not, ◌||◌}
use Prim.Native.Nat.{ℕ, ◌+◌}
use native.Mathlib.Omega.{arith}
use mathlib.Core.List.{List}
use lib.Dec.{eqb}
use lib.ListN.{get_or}
use borrow.Author.Rules.{rules}
use Rattle.wire_read.specs.Lists.{any, tab}
use Rattle.wire_read.proofs.Tabs.{any_none, any_more}
use Rattle.stream_words.specs.Words.{maps_in, stream_in}
use Rattle.stream_maps.specs.Maps.{any_mapped}
use Rattle.stream_maps.proofs.any_mapped.Goals as goal

-- one of the first k counts is above 0
abbrev among : List ℕ → ℕ → Bool
among s k = any (λ n. not (eqb n 0)) (tab (λ j. get_or s (176 + j) 0) k)

pub loop-k-init : goal.loop-k-init
loop-k-init c = sym (any_none (λ n. not (eqb n 0)) _ 0 (λ i l. absurd (omega arith)))

pub loop-k-preserved : goal.loop-k-preserved
loop-k-preserved c =
    let w = c.args.s.now in
    let l = c.loop-k in
    ap (λ (b : Bool). b || not (eqb (get_or w (176 + l.k) 0) 0)) l.invariant ∙ sym (any_more (λ n. not (eqb n 0)) (λ j. get_or w (176 + j) 0) l.k)

pub returns : goal.returns
unfolding any_mapped stream_in maps_in
returns c =
    let l = c.loop-k in
    let e : l.k ≡ 32 = search rules in
    l.invariant ∙ ap (among c.args.s.now) e
