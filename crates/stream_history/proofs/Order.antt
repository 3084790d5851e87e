-- First in, first out, on paper.
use mathlib.Core.Path.{◌≡◌, refl, sym, ap}
use Prim.Native.Nat.{ℕ, zero, suc, ◌+◌, ◌≤◌, ◌<◌}
use native.Mathlib.Omega.{arith}
use native.Mathlib.Nat.{suc_inj, suc-ne-zero}
use lib.ListN.{length, length-append}
use mathlib.Core.List.{List, [], ◌∷◌, ◌++◌, append_assoc}
use Rattle.stream_words.specs.declared.Time.{Time}
use Rattle.stream_history.specs.Paper.{Frame, Pair, Paper, Event, frame_of, rest, filled, step, noted, wholes, dequeues, Calm}
use Rattle.stream_history.specs.Paper.Event.{put, whole, damaged, handed, begun, ended, sized, changed, idle}
use Rattle.stream_history.proofs.Sound.{Fits}

-- each event is one that a stream can make
abbrev pub Legal : Paper → List Event → Type 0
Legal p [] = Unit {0}
Legal p (e ∷ es) = Fits p e × Legal (step p e) es

-- ---- a buffer comes to the head of its queue

-- k stands in the incoming queue behind a: once as many whole arrivals have come as a is long, it is the first
pub first_in : (es : List Event) (p : Paper) (a : List ℕ) (k : ℕ) (b : List ℕ)
    → p.incoming ≡ a ++ k ∷ b → Calm es → wholes es ≡ length a → (r : List ℕ) × ((noted p es).incoming ≡ k ∷ r)
first_in [] p [] k b h c n = (b, h)
first_in [] p (x ∷ a) k b h c n = absurd (suc-ne-zero (length a) (sym n))
first_in (put j ∷ es) p a k b h c n = first_in es (step p (put j)) a k (b ++ (j ∷ [])) (rw h (append_assoc a (k ∷ b) (j ∷ []))) c n
first_in (whole d t ∷ es) p [] k b h c n = absurd (suc-ne-zero (wholes es) n)
first_in (whole d t ∷ es) p (x ∷ a) k b h c n = first_in es (step p (whole d t)) a k b (rw h) c (suc_inj n)
first_in (damaged ∷ es) p a k b h c n = first_in es (step p damaged) a k b h c n
first_in (handed ∷ es) p a k b h c n = first_in es (step p handed) a k b h c n
first_in (begun ∷ es) p a k b h c n = first_in es (step p begun) a k b h c n
first_in (ended m ∷ es) p a k b h c n = absurd c
first_in (sized m ∷ es) p a k b h c n = first_in es (step p (sized m)) a k b h c n
first_in (changed d j ∷ es) p a k b h c n = first_in es (step p (changed d j)) a k b h c n
first_in (idle ∷ es) p a k b h c n = first_in es p a k b h c n

filled_keeps : (i : List ℕ) (f : Frame) (a : List Pair) (x : Pair) (b : List Pair) → (r : List Pair) × (filled i f (a ++ x ∷ b) ≡ a ++ x ∷ r)
filled_keeps [] f a x b = (b, refl)
filled_keeps (k ∷ i) f a x b = (b ++ (record { index = k; frame = f } ∷ []), append_assoc a (x ∷ b) (record { index = k; frame = f } ∷ []))

-- x stands in the outgoing queue behind a: once as many dequeues have come as a is long, it is the first
pub first_out : (es : List Event) (p : Paper) (a : List Pair) (x : Pair) (b : List Pair)
    → p.outgoing ≡ a ++ x ∷ b → Calm es → dequeues es ≡ length a → (r : List Pair) × ((noted p es).outgoing ≡ x ∷ r)
first_out [] p [] x b h c n = (b, h)
first_out [] p (y ∷ a) x b h c n = absurd (suc-ne-zero (length a) (sym n))
first_out (put j ∷ es) p a x b h c n = first_out es (step p (put j)) a x b h c n
first_out (whole d t ∷ es) p a x b h c n =
    let (r, e) = filled_keeps p.incoming (frame_of p d t) a x b in
    first_out es (step p (whole d t)) a x r (rw h e) c n
first_out (damaged ∷ es) p a x b h c n = first_out es (step p damaged) a x b h c n
first_out (handed ∷ es) p [] x b h c n = absurd (suc-ne-zero (dequeues es) n)
first_out (handed ∷ es) p (y ∷ a) x b h c n = first_out es (step p handed) a x b (rw h) c (suc_inj n)
first_out (begun ∷ es) p a x b h c n = first_out es (step p begun) a x b h c n
first_out (ended m ∷ es) p a x b h c n = absurd c
first_out (sized m ∷ es) p a x b h c n = first_out es (step p (sized m)) a x b h c n
first_out (changed d j ∷ es) p a x b h c n = first_out es (step p (changed d j)) a x b h c n
first_out (idle ∷ es) p a x b h c n = first_out es p a x b h c n

-- ---- how many are outgoing

length_rest : {A : Type 0} (l : List A) → 0 < length l → length (rest l) + 1 ≡ length l
length_rest [] h = absurd (omega arith)
length_rest (x ∷ l) h = omega arith

length_filled : (i : List ℕ) (f : Frame) (o : List Pair) → 0 < length i → length (filled i f o) ≡ length o + 1
length_filled [] f o h = absurd (omega arith)
length_filled (k ∷ i) f o h = omega (arith, length-append o (record { index = k; frame = f } ∷ []))

length_filled_most : (i : List ℕ) (f : Frame) (o : List Pair) → length (filled i f o) ≤ length o + 1
length_filled_most [] f o = omega arith
length_filled_most (k ∷ i) f o = omega (arith, length-append o (record { index = k; frame = f } ∷ []))

-- no more dequeues than buffers that were outgoing and whole arrivals
out_bound : (es : List Event) (p : Paper) → Calm es → Legal p es → length (noted p es).outgoing + dequeues es ≤ length p.outgoing + wholes es
out_bound [] p c l = omega arith
out_bound (put j ∷ es) p c l = out_bound es (step p (put j)) c l.1
out_bound (whole d t ∷ es) p c l =
    omega (arith, out_bound es (step p (whole d t)) c l.1, length_filled_most p.incoming (frame_of p d t) p.outgoing)
out_bound (damaged ∷ es) p c l = out_bound es (step p damaged) c l.1
out_bound (handed ∷ es) p c l = omega (arith, out_bound es (step p handed) c l.1, length_rest p.outgoing l.0)
out_bound (begun ∷ es) p c l = out_bound es (step p begun) c l.1
out_bound (ended m ∷ es) p c l = absurd c
out_bound (sized m ∷ es) p c l = out_bound es (step p (sized m)) c l.1
out_bound (changed d j ∷ es) p c l = out_bound es (step p (changed d j)) c l.1
out_bound (idle ∷ es) p c l = out_bound es p c l.1

-- while there are enough incoming buffers, each whole arrival adds one
out_length : (es : List Event) (p : Paper) → Calm es → Legal p es → wholes es ≤ length p.incoming
    → length (noted p es).outgoing + dequeues es ≡ length p.outgoing + wholes es
out_length [] p c l h = omega arith
out_length (put j ∷ es) p c l h = out_length es (step p (put j)) c l.1 (omega (arith, length-append p.incoming (j ∷ [])))
out_length (whole d t ∷ es) p c l h =
    omega (
      arith,
      out_length es (step p (whole d t)) c l.1 (omega (arith, length_rest p.incoming (omega arith))),
      length_filled p.incoming (frame_of p d t) p.outgoing (omega arith),
    )
out_length (damaged ∷ es) p c l h = out_length es (step p damaged) c l.1 h
out_length (handed ∷ es) p c l h = omega (arith, out_length es (step p handed) c l.1 h, length_rest p.outgoing l.0)
out_length (begun ∷ es) p c l h = out_length es (step p begun) c l.1 h
out_length (ended m ∷ es) p c l h = absurd c
out_length (sized m ∷ es) p c l h = out_length es (step p (sized m)) c l.1 h
out_length (changed d j ∷ es) p c l h = out_length es (step p (changed d j)) c l.1 h
out_length (idle ∷ es) p c l h = out_length es p c l.1 h

-- ---- lists of events that are put together

pub noted_append : (a b : List Event) (p : Paper) → noted p (a ++ b) ≡ noted (noted p a) b
noted_append [] b p = refl
noted_append (e ∷ a) b p = noted_append a b (step p e)

calm_append : (a b : List Event) → Calm (a ++ b) → Calm a × Calm b
calm_append [] b c = (tt, c)
calm_append (put j ∷ a) b c = calm_append a b c
calm_append (whole d t ∷ a) b c = calm_append a b c
calm_append (damaged ∷ a) b c = calm_append a b c
calm_append (handed ∷ a) b c = calm_append a b c
calm_append (begun ∷ a) b c = calm_append a b c
calm_append (ended m ∷ a) b c = absurd c
calm_append (sized m ∷ a) b c = calm_append a b c
calm_append (changed d j ∷ a) b c = calm_append a b c
calm_append (idle ∷ a) b c = calm_append a b c

legal_append : (a b : List Event) (p : Paper) → Legal p (a ++ b) → Legal p a × Legal (noted p a) b
legal_append [] b p l = (tt, l)
legal_append (e ∷ a) b p l = let (x, y) = legal_append a b (step p e) l.1 in ((l.0, x), y)

dequeues_append : (a b : List Event) → dequeues (a ++ b) ≡ dequeues a + dequeues b
dequeues_append [] b = omega arith
dequeues_append (put j ∷ a) b = dequeues_append a b
dequeues_append (whole d t ∷ a) b = dequeues_append a b
dequeues_append (damaged ∷ a) b = dequeues_append a b
dequeues_append (handed ∷ a) b = omega (arith, dequeues_append a b)
dequeues_append (begun ∷ a) b = dequeues_append a b
dequeues_append (ended m ∷ a) b = dequeues_append a b
dequeues_append (sized m ∷ a) b = dequeues_append a b
dequeues_append (changed d j ∷ a) b = dequeues_append a b
dequeues_append (idle ∷ a) b = dequeues_append a b

-- the events up to the whole arrival before which n came, it, and the events behind it
pub record At (es : List Event) (n : ℕ) : Type 0 where
  pub front : List Event
  pub bytes : List ℕ
  pub time : Time
  pub back : List Event
  pub is : es ≡ front ++ whole bytes time ∷ back
  pub place : wholes front ≡ n

at_cons : (e : Event) (es : List Event) (n m : ℕ) → ((f : List Event) → wholes f ≡ n → wholes (e ∷ f) ≡ m) → At es n → At (e ∷ es) m
at_cons e es n m h t = record {
  front = e ∷ t.front;
  bytes = t.bytes;
  time = t.time;
  back = t.back;
  is = ap (λ (l : List Event). e ∷ l) t.is;
  place = h t.front t.place;
}

at_whole : (es : List Event) (n : ℕ) → n < wholes es → At es n
at_whole [] n h = absurd (omega arith)
at_whole (put j ∷ es) n h = at_cons (put j) es n n (λ f e. e) (at_whole es n h)
at_whole (whole d t ∷ es) zero h = record { front = []; bytes = d; time = t; back = es; is = refl; place = refl }
at_whole (whole d t ∷ es) (suc n) h = at_cons (whole d t) es n (suc n) (λ f e. ap suc e) (at_whole es n (omega arith))
at_whole (damaged ∷ es) n h = at_cons damaged es n n (λ f e. e) (at_whole es n h)
at_whole (handed ∷ es) n h = at_cons handed es n n (λ f e. e) (at_whole es n h)
at_whole (begun ∷ es) n h = at_cons begun es n n (λ f e. e) (at_whole es n h)
at_whole (ended m ∷ es) n h = at_cons (ended m) es n n (λ f e. e) (at_whole es n h)
at_whole (sized m ∷ es) n h = at_cons (sized m) es n n (λ f e. e) (at_whole es n h)
at_whole (changed d j ∷ es) n h = at_cons (changed d j) es n n (λ f e. e) (at_whole es n h)
at_whole (idle ∷ es) n h = at_cons idle es n n (λ f e. e) (at_whole es n h)

-- ---- a buffer that is handed in

abbrev pub pair_of : ℕ → Paper → List ℕ → Time → Pair
pair_of k p b t = record { index = k; frame = frame_of p b t }

-- after as many whole arrivals as there were incoming buffers it is the first of them
pub comes_first : (p : Paper) (k : ℕ) (es : List Event) → Calm es → wholes es ≡ length p.incoming
    → (r : List ℕ) × ((noted (step p (put k)) es).incoming ≡ k ∷ r)
comes_first p k es c n = first_in es (step p (put k)) p.incoming k [] refl c n

-- after as many dequeues as there were outgoing and incoming ones it is the first outgoing one, with the arrival that it got
pub record Leaves (p : Paper) (k : ℕ) (es : List Event) : Type 0 where
  pub at : At es (length p.incoming)
  pub behind : List Pair
  pub first : (noted (step p (put k)) es).outgoing ≡ pair_of k (noted (step p (put k)) at.front) at.bytes at.time ∷ behind

leaves_at : (p : Paper) (k : ℕ) (front : List Event) (b : List ℕ) (t : Time) (back : List Event)
    → Calm (front ++ whole b t ∷ back) → Legal (step p (put k)) (front ++ whole b t ∷ back)
    → dequeues (front ++ whole b t ∷ back) ≡ length p.outgoing + length p.incoming → wholes front ≡ length p.incoming
    → (r : List Pair) × ((noted (step p (put k)) (front ++ whole b t ∷ back)).outgoing ≡ pair_of k (noted (step p (put k)) front) b t ∷ r)
leaves_at p k front b t back c l n w =
    let q : Paper = step p (put k) in
    let q1 : Paper = noted q front in
    let (c1, c2) = calm_append front (whole b t ∷ back) c in
    let (l1, l2) = legal_append front (whole b t ∷ back) q l in
    let (r1, e1) = comes_first p k front c1 w in
    let e2 : (step q1 (whole b t)).outgoing ≡ q1.outgoing ++ pair_of k q1 b t ∷ [] = rw e1 in
    let d : dequeues back ≡ length q1.outgoing =
    omega (arith, out_length front q c1 l1 (omega (arith, length-append p.incoming (k ∷ []))), dequeues_append front (whole b t ∷ back)) in
    rw (noted_append front (whole b t ∷ back) q) (first_out back (step q1 (whole b t)) q1.outgoing (pair_of k q1 b t) [] e2 c2 d)

pub leaves : (p : Paper) (k : ℕ) (es : List Event) → Calm es → Legal (step p (put k)) es
    → 0 < length (noted (step p (put k)) es).outgoing
    → dequeues es ≡ length p.outgoing + length p.incoming → Leaves p k es
leaves p k es c l g n = go (at_whole es (length p.incoming) (omega (arith, out_bound es (step p (put k)) c l)))
  where
    go : At es (length p.incoming) → Leaves p k es
    go t =
        let (r, e) = leaves_at p k t.front t.bytes t.time t.back (rw t.is at c) (rw t.is at l) (rw t.is at n) t.place in
        record { at = t; behind = r; first = rw t.is e }
