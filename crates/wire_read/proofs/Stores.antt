-- Runs of stores, `sets l at vs`: as far as the list reaches, each where it belongs, and nothing else touched.
-- The length is kept: `length-sets` of lib.Seq. Assumes nothing.
use mathlib.Core.Path.{◌≡◌, refl, sym, ap, ◌∙◌}
use mathlib.Core.List.{List, [], ◌∷◌, ◌++◌, append-nil}
use Prim.Native.Nat.{ℕ, zero, suc, ◌+◌, ◌-◌, min, ◌≤◌, ◌<◌}
use mathlib.Core.Bool.{Bool, true, false}
use borrow.Author.Tests.{leb-true, leb-false, ltb-true, ltb-false}
use lib.Dec.{leb, ltb}
use native.Mathlib.Nat.{add-zero, add-suc, suc-add, zero-add}
use native.Mathlib.Numerals.{add-one}
use native.Mathlib.Omega.{arith}
use lib.ListN.{length, get_or, drop, set, replicate, length-set, length-append, length-replicate, replicate-append-replicate, drop_of_length-le, get_or-replicate}
use lib.Seq.{sets, sets-eq, set_out, set-set, set_comm, drop_at, drop-cons, get_or-set_same, get_or-set_other}
use Rattle.wire_read.proofs.Lists.{past_end}

-- nothing is stored past the end
pub sets_out : (vs l : List ℕ) (at : ℕ) → length l ≤ at → sets l at vs ≡ l
sets_out [] l at h = refl
sets_out (v ∷ vs) l at h = rw (set_out l at v h) (sets_out vs l (suc at) (omega arith))

-- two runs, the second right behind the first, are one run
pub sets_append : (a b l : List ℕ) (at : ℕ) → sets l at (a ++ b) ≡ sets (sets l at a) (at + length a) b
sets_append [] b l at = rw (add-zero at)
sets_append (x ∷ a) b l at = sets_append a b (set l at x) (suc at) ∙ rw (add-suc at (length a), suc-add at (length a))

-- one turn of a loop that stores s from a place on, and its end: at the end of s or of the list
pub sets_turn : (l s : List ℕ) (at i : ℕ) → i < length s
    → sets l (at + i) (drop i s) ≡ sets (set l (at + i) (get_or s i 0)) (at + (i + 1)) (drop (i + 1) s)
sets_turn l s at i h = rw (add-one i, add-suc at i, drop-cons s i 0 h)

pub sets_done : (l s : List ℕ) (at i : ℕ) → min (length s) (length l - at) ≤ i → sets l (at + i) (drop i s) ≡ l
sets_done l s at i h = by (leb (length s) i) refl
  where
    by : (t : Bool) → leb (length s) i ≡ t → sets l (at + i) (drop i s) ≡ l
    by true e = rw (drop_of_length-le s {i = i} (leb-true (length s) i e))
    by false e = let k = leb-false (length s) i e in sets_out (drop i s) l (at + i) (omega arith)

-- a run stored over a list of its length is that run: the whole argument overwritten is the reply
pub sets_all : (vs l : List ℕ) → length l ≡ length vs → sets l 0 vs ≡ vs
sets_all vs l e = sets-eq vs l 0 (omega arith) ∙ rw (zero-add (length vs), drop_of_length-le l {i = length vs} (omega arith), append-nil vs)

-- an element before a run is as it was
pub sets_before : (vs l : List ℕ) (at j d : ℕ) → j < at → get_or (sets l at vs) j d ≡ get_or l j d
sets_before [] l at j d h = refl
sets_before (v ∷ vs) l at j d h =
    sets_before vs (set l at v) (suc at) j d (omega arith) ∙ get_or-set_other l at j v d (λ e. omega arith)

-- an element behind a run is as it was
pub sets_behind : (vs l : List ℕ) (at j d : ℕ) → at + length vs ≤ j → get_or (sets l at vs) j d ≡ get_or l j d
sets_behind [] l at j d h = refl
sets_behind (v ∷ vs) l at j d h =
    sets_behind vs (set l at v) (suc at) j d (omega arith)
    ∙ get_or-set_other l at j v d (λ e. omega arith)

-- an element of a run that fits is what was stored
pub sets_at : (vs l : List ℕ) (at k d : ℕ) → k < length vs → at + k < length l → get_or (sets l at vs) (at + k) d ≡ get_or vs k d
sets_at [] l at k d h f = absurd (omega arith)
sets_at (v ∷ vs) l at zero d h f =
    rw (add-zero at) (sets_before vs (set l at v) (suc at) at d (omega arith) ∙ get_or-set_same l at v d (omega arith))
sets_at (v ∷ vs) l at (suc k) d h f =
    rw (add-suc at k, ← suc-add at k) (sets_at vs (set l at v) (suc at) k d (omega arith) (simp length-set (omega arith)))

-- a store before a run can be made after it
set_sets : (vs l : List ℕ) (i at x : ℕ) → i < at → sets (set l i x) at vs ≡ set (sets l at vs) i x
set_sets [] l i at x h = refl
set_sets (v ∷ vs) l i at x h =
    rw (set_comm l i at x v (λ e. omega arith)) (set_sets vs (set l at v) i (suc at) x (omega arith))

-- two runs that do not touch can be made in either order
pub sets_apart : (a b l : List ℕ) (i j : ℕ) → i + length a ≤ j → sets (sets l i a) j b ≡ sets (sets l j b) i a
sets_apart [] b l i j h = refl
sets_apart (x ∷ a) b l i j h =
    sets_apart a b (set l i x) (suc i) j (omega arith) ∙ rw (set_sets b l i j x (omega arith))

-- ---- a run stored in a run

-- an element of the run changed is that element of the list changed
set_within : (z a : List ℕ) (at i x : ℕ) → i < length z → sets a at (set z i x) ≡ set (sets a at z) (at + i) x
set_within [] a at i x h = absurd (omega arith)
set_within (y ∷ z) a at zero x h = rw (add-zero at, ← set_sets z (set a at y) at (suc at) x (omega arith), set-set a at y x)
set_within (y ∷ z) a at (suc i) x h = set_within z (set a at y) (suc at) i x (omega arith) ∙ rw (add-suc at i, suc-add at i)

-- a run stored in a run, and that in a list: one after the other in the list
pub sets_within : (v z a : List ℕ) (at i : ℕ) → i + length v ≤ length z → sets a at (sets z i v) ≡ sets (sets a at z) (at + i) v
sets_within [] z a at i h = refl
sets_within (x ∷ v) z a at i h =
    sets_within v (set z i x) a at (suc i) (simp length-set (omega arith))
    ∙ rw (set_within z a at i x (omega arith), add-suc at i)

-- ---- a run stored behind a list

behind_first : (x : ℕ) (vs l : List ℕ) (at : ℕ) → sets (x ∷ l) (suc at) vs ≡ x ∷ sets l at vs
behind_first x [] l at = refl
behind_first x (v ∷ vs) l at = behind_first x vs (set l at v) (suc at)

-- stored right behind p it is stored at the start of what follows p
pub sets_after : (p l vs : List ℕ) → sets (p ++ l) (length p) vs ≡ p ++ sets l 0 vs
sets_after [] l vs = refl
sets_after (x ∷ p) l vs = behind_first x vs (p ++ l) (length p) ∙ ap (λ (q : List ℕ). x ∷ q) (sets_after p l vs)

-- ---- a reply filled from its start, piece by piece

-- a piece stored right behind the pieces before it
pub then_at : (p q l : List ℕ) (k : ℕ) → length p ≡ k → sets (sets l 0 p) k q ≡ sets l 0 (p ++ q)
then_at p q l k e = rw (← e, sets_append p q l 0, zero-add (length p))

-- pieces stored over zeros leave the zeros behind them
pub over_zeros : (vs : List ℕ) (n m : ℕ) → length vs + m ≡ n → sets (replicate n 0) 0 vs ≡ vs ++ replicate m 0
over_zeros vs n m e =
    rw (← e, ← replicate-append-replicate {A = ℕ} (length vs) m 0)
    (sets-eq vs (replicate (length vs) 0 ++ replicate m 0) 0 (simp (length-append, length-replicate) (omega arith))
    ∙ rw (zero-add (length vs), drop_at {A = ℕ} (replicate (length vs) 0) (replicate m 0) (length vs) (length-replicate (length vs) 0)))

-- a zero, wherever it is asked for
zeros : (n j : ℕ) → get_or {A = ℕ} (replicate n 0) j 0 ≡ 0
zeros n j = by (ltb j n) refl
  where
    by : (b : Bool) → ltb j n ≡ b → get_or {A = ℕ} (replicate n 0) j 0 ≡ 0
    by true l = get_or-replicate n j 0 0 (ltb-true j n l)
    by false l = past_end (replicate n 0) j (simp length-replicate (ltb-false j n l))

-- a run stored over zeros reads as the run: past its end there is 0 in both
pub byte_over_zeros : (v : List ℕ) (n : ℕ) → length v ≤ n → (j : ℕ) → get_or (sets (replicate n 0) 0 v) j 0 ≡ get_or v j 0
byte_over_zeros v n fits j = by (ltb j (length v)) refl
  where
    by : (b : Bool) → ltb j (length v) ≡ b → get_or (sets (replicate n 0) 0 v) j 0 ≡ get_or v j 0
    by true l =
        let h = ltb-true j (length v) l in
        let q = sets_at v (replicate n 0) 0 j 0 h (simp length-replicate (omega arith)) in
        rw (zero-add j) at q
    by false l =
        let h = ltb-false j (length v) l in
        sets_behind v (replicate n 0) 0 j 0 (omega arith) ∙ zeros n j ∙ sym (past_end v j h)
