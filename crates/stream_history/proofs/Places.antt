-- Every buffer is in exactly one place.
use mathlib.Core.Path.{◌≡◌, refl, sym, ap, ◌∙◌}
use mathlib.Core.Bool.{Bool, true, false, cond}
use Prim.Native.Nat.{ℕ, ◌+◌, ◌*◌, ◌≤◌}
use native.Mathlib.Omega.{arith}
use native.Mathlib.Nat.{add_assoc}
use lib.Dec.{eqb}
use mathlib.Core.List.{List, [], ◌∷◌, map}
use Rattle.stream_words.specs.declared.Filled.{Filled}
use Rattle.wire_read.specs.Lists.{any}
use Rattle.stream_words.specs.declared.Standing.TheVariants.{Dequeued, Incoming, Outgoing}
use Rattle.stream_words.specs.Moves.{of_buffer, is_incoming, is_outgoing, standing_of}
use Rattle.stream_maps.specs.Maps.{is_mapped}
use Rattle.stream_status.specs.Buffer.{flags_for, flags_of}
use Rattle.stream_history.specs.Calls.{World}
use Rattle.stream_history.specs.Paper.{Pair, Paper, index_of}
use Rattle.stream_history.specs.Claims.{paper_after, world_after, mapped_on, times_in, times_out, OnePlace}
use Rattle.stream_history.proofs.Lists.{nodup_append, times_append, times_once, times_past, any_times}
use Rattle.stream_history.proofs.Sound.{line}
use Rattle.stream_history.proofs.Tied.{entry}
use Rattle.stream_history.proofs.Every.{Kept, kept}

-- an entry of buffer k is found where its index stands
any_entries : (k : ℕ) (o : List Pair) → any (of_buffer k) (map entry o) ≡ any (λ x. eqb x k) (map index_of o)
unfolding any
any_entries k [] = refl
any_entries k (x ∷ o) = ap (λ (b : Bool). cond (eqb x.index k) true b) (any_entries k o)

-- 4 if outgoing, 2 if incoming, where it is not both
flags_count : (a b : Bool) (g : Filled) (i o : ℕ) → cond a 1 0 ≡ o → cond b 1 0 ≡ i → o + i ≤ 1 → flags_for (cond a (Outgoing g) (cond b Incoming Dequeued)) ≡ 2 * i + 4 * o
flags_count true true g i o e f h = absurd (omega (arith, e, f))
flags_count true false g i o e f h = omega (arith, e, f)
flags_count false true g i o e f h = omega (arith, e, f)
flags_count false false g i o e f h = omega (arith, e, f)

place_told : (w : World) (p : Paper) (k : ℕ) → Kept w p → flags_for (standing_of w.stream.queues k) ≡ 2 * times_in p k + 4 * times_out p k
unfolding standing_of is_incoming is_outgoing
place_told w p k g =
    let (out_once, in-once) = nodup_append (map index_of p.outgoing) p.incoming g.sound.apart in
    let out : cond (is_outgoing w.stream.queues k) 1 0 ≡ times_out p k =
    ap (λ (l : List Filled). cond (any (of_buffer k) l) 1 0) g.tied.holds.outs
    ∙ ap (λ (b : Bool). cond b 1 0) (any_entries k p.outgoing) ∙ any_times k (map index_of p.outgoing) out_once in
    let in-it : cond (is_incoming w.stream.queues k) 1 0 ≡ times_in p k =
    ap (λ (l : List ℕ). cond (any (λ x. eqb x k) l) 1 0) g.tied.holds.ins ∙ any_times k p.incoming in-once in
    flags_count (is_outgoing w.stream.queues k) (is_incoming w.stream.queues k) _ (times_in p k) (times_out p k) out in-it
    (omega (arith, times_once k (line p) g.sound.apart, times_append k (map index_of p.outgoing) p.incoming))

-- and 1 more while it is mapped
flags_told : (w : World) (p : Paper) (k : ℕ) → Kept w p
    → flags_of (is_mapped w.stream.maps k) (standing_of w.stream.queues k) ≡ mapped_on p k + 2 * times_in p k + 4 * times_out p k
flags_told w p k g =
    ap (λ (l : List ℕ). cond (is_mapped l k) 1 0 + flags_for (standing_of w.stream.queues k)) g.tied.maps
    ∙ ap (λ (n : ℕ). mapped_on p k + n) (place_told w p k g) ∙ sym (add_assoc (mapped_on p k) (2 * times_in p k) (4 * times_out p k))

-- wherever the stream is as the paper says
pub placed : (w : World) (p : Paper) (k : ℕ) → Kept w p
    → (times_in p k + times_out p k ≤ 1) × (p.granted ≤ k → times_in p k + times_out p k ≡ 0)
    × (flags_of (is_mapped w.stream.maps k) (standing_of w.stream.queues k) ≡ mapped_on p k + 2 * times_in p k + 4 * times_out p k)
placed w p k g = (
  omega (arith, times_once k (line p) g.sound.apart, times_append k (map index_of p.outgoing) p.incoming),
  λ h. omega (arith, times_past k p.granted (line p) g.sound.below h, times_append k (map index_of p.outgoing) p.incoming),
  flags_told w p k g,
)

pub one_place : OnePlace
one_place size m cs k = placed (world_after size m cs) (paper_after size m cs) k (kept size m cs)
