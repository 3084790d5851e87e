-- Parts of a list in which a run was stored: n elements from a place on.
use mathlib.Core.Path.{◌≡◌, sym, ap, ◌∙◌}
use Prim.Native.Nat.{ℕ, ◌+◌, ◌-◌, ◌≤◌, ◌<◌}
use native.Mathlib.Omega.{arith}
use mathlib.Core.List.{List, ◌++◌, append_assoc}
use lib.ListN.{length, get_or, take, drop, length-take, length-drop, take-append-drop}
use lib.Seq.{sets, sets-eq, length-sets, ext_get_or, get_or-take, get_or-drop, drop-drop}
use borrow.Rule.Slice.PartMut.{post_of, put_mid, Post-is}
use Rattle.wire_read.proofs.Stores.{sets_before, sets_behind, sets_at, sets_append, sets_done}

-- an element of a part
pub part_at_law : (n : ℕ) (l : List ℕ) (a i : ℕ) → i < n → get_or (take n (drop a l)) i 0 ≡ get_or l (a + i) 0
part_at_law n l a i h = get_or-take n (drop a l) i 0 h ∙ get_or-drop a l i 0

-- parts of two lists of one length, alike at each place
part_same : (x y : List ℕ) (a n : ℕ) → length x ≡ length y → ((i : ℕ) → i < n → get_or x (a + i) 0 ≡ get_or y (a + i) 0)
    → take n (drop a x) ≡ take n (drop a y)
part_same x y a n e h =
    ext_get_or 0 (take n (drop a x)) (take n (drop a y))
    (omega (arith, e, length-take n (drop a x), length-take n (drop a y), length-drop a x, length-drop a y))
    (λ i m.
    let k : i < n = omega (arith, length-take n (drop a x)) in
    part_at_law n x a i k ∙ h i k ∙ sym (part_at_law n y a i k))

-- a part that ends before the run is as it was
pub part_before : (vs l : List ℕ) (at a n : ℕ) → a + n ≤ at → take n (drop a (sets l at vs)) ≡ take n (drop a l)
part_before vs l at a n h = part_same (sets l at vs) l a n (length-sets l at vs) (λ i k. sets_before vs l at (a + i) 0 (omega arith))

-- a part that starts behind the run is as it was
pub part_behind : (vs l : List ℕ) (at a n : ℕ) → at + length vs ≤ a → take n (drop a (sets l at vs)) ≡ take n (drop a l)
part_behind vs l at a n h = part_same (sets l at vs) l a n (length-sets l at vs) (λ i k. sets_behind vs l at (a + i) 0 (omega arith))

-- the part that a run was stored in, if it fits, is the run
pub part_stored : (vs l : List ℕ) (at : ℕ) → at + length vs ≤ length l → take (length vs) (drop at (sets l at vs)) ≡ vs
part_stored vs l at h =
    ext_get_or 0 (take (length vs) (drop at (sets l at vs))) vs
    (omega (arith, length-take (length vs) (drop at (sets l at vs)), length-drop at (sets l at vs), length-sets l at vs))
    (λ i m.
    let k : i < length vs = omega (arith, length-take (length vs) (drop at (sets l at vs))) in
    part_at_law (length vs) (sets l at vs) at i k ∙ sets_at vs l at i 0 k (omega arith))

-- a part that was lent and written over is a run stored there
pub part_over : (l x vs : List ℕ) (at to : ℕ) → x ≡ vs → at + length vs ≡ to → to ≤ length l → put_mid at (to - at) l x ≡ sets l at vs
part_over l x vs at to e h k =
    rw e
    (sym (append_assoc (take at l) vs (post_of at (to - at) l))
    ∙ ap (λ (r : List ℕ). take at l ++ vs ++ r) (Post-is at to l (omega arith) ∙ ap (λ (m : ℕ). drop m l) (sym h))
    ∙ sym (sets-eq vs l at (omega arith)))

-- the rest from k on stored block by block: the next m, and then the rest
pub block_turn : (l s : List ℕ) (at k m : ℕ) → k + m ≤ length s
    → sets l (at + k) (drop k s) ≡ sets (sets l (at + k) (take m (drop k s))) (at + (k + m)) (drop (k + m) s)
block_turn l s at k m h =
    let e : length (take m (drop k s)) ≡ m = omega (arith, length-take m (drop k s), length-drop k s) in
    let f : at + k + m ≡ at + (k + m) = omega arith in
    ap (λ (r : List ℕ). sets l (at + k) r) (sym (take-append-drop m (drop k s)))
    ∙ sets_append (take m (drop k s)) (drop m (drop k s)) l (at + k)
    ∙ rw (e, f, drop-drop m k s)
