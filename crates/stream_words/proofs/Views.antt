-- The moves of the line, by the words that change: the first step from stores to lists, which knows no store. Assumes nothing.
use mathlib.Core.Path.{◌≡◌, refl, sym, ap, ◌∙◌}
use Prim.Native.Nat.{ℕ, suc, ◌+◌, ◌-◌, ◌%◌, ◌^◌, ◌≤◌, ◌<◌}
use native.Mathlib.Omega.{arith}
use borrow.Author.Tests.{lt-ltb, le-ltb}
use mathlib.Core.List.{List, [], ◌∷◌, ◌++◌}
use lib.ListN.{length, get_or}
use lib.Signed.{mag}
use mir.Syntax.{w32}
use mir.Val.{to_z, of_z}
use Rattle.wire_signed.specs.Signed.{bits}
use Rattle.wire_signed.proofs.Integers.{bits_back}
use Rattle.stream_words.specs.declared.Time.{Time}
use Rattle.stream_words.specs.declared.Filled.{Filled}
use Rattle.wire_read.specs.Lists.{tab, rest}
use Rattle.stream_words.specs.Stream.{Queues, with_queues, on_queues}
use Rattle.stream_words.specs.Words.{low, time_of, lined_in, holding_in, place_in, index_in, frame_in, queues_in, stream_in}
use Rattle.stream_words.specs.Moves.{emptied, pushed, filled_by, filled_oldest, popped}
use Rattle.wire_read.proofs.Tabs.{tab_none, tab_length, tab_same, tab_snoc, tab_cons}
use Rattle.stream_words.proofs.Kept.{index_kept, frame_kept, run_kept, queues_are, line_changed}

-- how many stand in the line, by the two queues
pub line_length : (w : List ℕ) → length (queues_in w).outgoing + length (queues_in w).incoming ≡ lined_in w
unfolding queues_in
line_length w = rw (tab_length, tab_length) (omega arith)

-- no buffer is in the line
pub empty_view : (v w : List ℕ) (g : ℕ) → get_or v 8 0 ≡ g → get_or v 10 0 ≡ 0 → get_or v 11 0 ≡ 0 → ((q : ℕ) → (q ≡ 8 → ⊥) → (q ≡ 10 → ⊥) → (q ≡ 11 → ⊥) → get_or v q 0 ≡ get_or w q 0)
    → stream_in v ≡ with_queues (stream_in w) (emptied g)
unfolding emptied queues_in
empty_view v w g v8 v10 v11 other =
    let d : holding_in v ≡ 0 = omega arith in
    let n : lined_in v - holding_in v ≡ 0 = omega arith in
    run_kept v w _ (λ j h. other j (λ e. omega arith) (λ e. omega arith) (λ e. omega arith)) (other 12 (λ e. omega arith) (λ e. omega arith) (λ e. omega arith))
    (λ j h. other j (λ e. omega arith) (λ e. omega arith) (λ e. omega arith))
    (queues_are (queues_in v) g [] [] v8 (rw n (tab_none _)) (rw d (tab_none _)))

-- there is room
pushed_is : (q : Queues) (k : ℕ) → length q.outgoing + length q.incoming < 32
    → pushed q k ≡ record { granted = q.granted; incoming = q.incoming ++ (k ∷ []); outgoing = q.outgoing }
unfolding pushed
pushed_is q k h = rw (lt-ltb (length q.outgoing + length q.incoming) 32 h)

-- a full line takes no more
pub push_full : (w : List ℕ) (k : ℕ) → 32 ≤ lined_in w → stream_in w ≡ on_queues (λ q. pushed q k) (stream_in w)
unfolding stream_in pushed
push_full w k h = rw (le-ltb (length (queues_in w).outgoing + length (queues_in w).incoming) 32 (omega (arith, line_length w)))

-- k joins the line
module _ (v w : List ℕ) (k n d p : ℕ) (hn : n ≡ lined_in w) (room : n < 32) (hd : d ≡ holding_in w) (hp : p ≡ place_in w n)
    (vp : low (get_or v (16 + p) 0) ≡ k) (v10 : get_or v 10 0 ≡ d) (v11 : get_or v 11 0 ≡ n + 1)
    (other : (q : ℕ) → (q ≡ 16 + p → ⊥) → (q ≡ 10 → ⊥) → (q ≡ 11 → ⊥) → get_or v q 0 ≡ get_or w q 0) where
  push_nine : get_or v 9 0 ≡ get_or w 9 0
  push_nine = other 9 (λ e. omega arith) (λ e. omega arith) (λ e. omega arith)

  -- those that stood in the line stand there
  push_index : (i : ℕ) → i < n → index_in v i ≡ index_in w i
  push_index i h =
      let e = push_nine in
      index_kept v w i i (rw e) (other (16 + place_in w i) (λ e. omega arith) (λ e. omega arith) (λ e. omega arith))

  push_frame : (i : ℕ) → i < n → frame_in v i ≡ frame_in w i
  push_frame i h =
      let e = push_nine in
      frame_kept v w i i (rw e) (λ q l u m. other q (λ e. omega arith) (λ e. omega arith) (λ e. omega arith))

  push_last : index_in v n ≡ k
  unfolding index_in
  push_last =
      let e : place_in v n ≡ p = rw push_nine (omega arith) in
      rw (e, vp)

  push_incoming : (queues_in v).incoming ≡ (queues_in w).incoming ++ (k ∷ [])
  unfolding queues_in
  push_incoming =
      let more : lined_in v - holding_in v ≡ (lined_in w - holding_in w) + 1 = omega arith in
      let same : holding_in v ≡ holding_in w = omega arith in
      let end : holding_in w + (lined_in w - holding_in w) ≡ n = omega arith in
      rw (more, tab_snoc, same, end, push_last)
      (ap (λ (l : List ℕ). l ++ (k ∷ [])) (tab_same (λ j. index_in v (holding_in w + j)) (λ j. index_in w (holding_in w + j)) _ (λ i h. push_index (holding_in w + i) (omega arith))))

  push_outgoing : (queues_in v).outgoing ≡ (queues_in w).outgoing
  unfolding queues_in
  push_outgoing =
      let same : holding_in v ≡ holding_in w = omega arith in
      rw same (tab_same (λ j. frame_in v j) (λ j. frame_in w j) (holding_in w) (λ i h. push_frame i (omega arith)))

  pub push_view : stream_in v ≡ with_queues (stream_in w) (pushed (queues_in w) k)
  push_view =
      line_changed v w _ _ (λ j h. other j (λ e. omega arith) (λ e. omega arith) (λ e. omega arith)) (other 12 (λ e. omega arith) (λ e. omega arith) (λ e. omega arith))
      (λ j h. other j (λ e. omega arith) (λ e. omega arith) (λ e. omega arith))
      push_incoming push_outgoing
      ∙ ap (with_queues (stream_in w)) (sym (pushed_is (queues_in w) k (omega (arith, line_length w))))

-- a line that begins one place on
place_next : (v w : List ℕ) → get_or v 9 0 ≡ (get_or w 9 0 % 32 + 1) % 32 → (i j : ℕ) → j ≡ suc i → place_in v i ≡ place_in w j
place_next v w h i j e = omega arith

ahead : (a b i : ℕ) → a ≡ b - 1 → 0 < b → b + i ≡ suc (a + i)
ahead a b i e h = omega arith

both_less : (a b n d : ℕ) → a ≡ n - 1 → b ≡ d - 1 → 0 < d → d ≤ n → a - b ≡ n - d
both_less a b n d e f h l = omega arith

-- the counts, by their words
lined_is : (v : List ℕ) (n : ℕ) → get_or v 11 0 ≡ n → n ≤ 32 → lined_in v ≡ n
lined_is v n e h = omega arith

holding_is : (v : List ℕ) (d n : ℕ) → get_or v 10 0 ≡ d → get_or v 11 0 ≡ n → d ≤ n → n ≤ 32 → holding_in v ≡ d
holding_is v d n e f h l = omega arith

-- the first of each queue
pub first_held : (w : List ℕ) → 0 < holding_in w → (queues_in w).outgoing ≡ frame_in w 0 ∷ rest (queues_in w).outgoing
unfolding queues_in
first_held w h = rw (tab_cons (λ j. frame_in w j) (holding_in w) h)

pub first_waiting : (w : List ℕ) (d : ℕ) → d ≡ holding_in w → d < lined_in w → (queues_in w).incoming ≡ index_in w d ∷ rest (queues_in w).incoming
unfolding queues_in
first_waiting w d e h =
    let z : d + 0 ≡ d = omega arith in
    rw (sym e, tab_cons (λ j. index_in w (d + j)) (lined_in w - d) (omega arith), z)

-- an empty queue
pub none_held : (w : List ℕ) → holding_in w ≡ 0 → (queues_in w).outgoing ≡ []
unfolding queues_in
none_held w h = rw (h, tab_none)

pub none_waiting : (w : List ℕ) → lined_in w ≤ holding_in w → (queues_in w).incoming ≡ []
unfolding queues_in
none_waiting w h =
    let e : lined_in w - holding_in w ≡ 0 = omega arith in
    rw (e, tab_none)

pub held_length : (w : List ℕ) → length (queues_in w).outgoing ≡ holding_in w
unfolding queues_in
held_length w = tab_length (λ j. frame_in w j) (holding_in w)

-- no frame is held
pub pop_none : (w : List ℕ) → holding_in w ≡ 0 → stream_in w ≡ on_queues (λ q. popped q) (stream_in w)
unfolding stream_in popped
pop_none w h = rw (none_held w h)

-- the first of the line leaves it
module _ (v w : List ℕ) (n d : ℕ) (hn : n ≡ lined_in w) (hd : d ≡ holding_in w) (some : 0 < d)
    (v9 : get_or v 9 0 ≡ (get_or w 9 0 % 32 + 1) % 32) (v10 : get_or v 10 0 ≡ d - 1) (v11 : get_or v 11 0 ≡ n - 1)
    (other : (q : ℕ) → (q ≡ 9 → ⊥) → (q ≡ 10 → ⊥) → (q ≡ 11 → ⊥) → get_or v q 0 ≡ get_or w q 0) where
  pop_lined : lined_in v ≡ n - 1
  pop_lined = lined_is v (n - 1) v11 (omega arith)

  pop_holding : holding_in v ≡ d - 1
  pop_holding = holding_is v (d - 1) (n - 1) v10 v11 (omega arith) (omega arith)

  pop_incoming : (queues_in v).incoming ≡ (queues_in w).incoming
  unfolding queues_in
  pop_incoming =
      let same : lined_in v - holding_in v ≡ n - d = both_less _ _ n d pop_lined pop_holding some (omega arith) in
      rw (same, sym hd, sym hn) (tab_same (λ j. index_in v (holding_in v + j)) (λ j. index_in w (d + j)) _
      (λ i h. index_kept v w (holding_in v + i) (d + i) (place_next v w v9 _ _ (ahead _ d i pop_holding some)) (other _ (λ e. omega arith) (λ e. omega arith) (λ e. omega arith))))

  pop_outgoing : (queues_in v).outgoing ≡ rest (queues_in w).outgoing
  unfolding queues_in
  pop_outgoing =
      rw (pop_holding, sym hd, tab_cons (λ j. frame_in w j) d some) (tab_same (λ j. frame_in v j) (λ j. frame_in w (suc j)) _
      (λ i h. frame_kept v w i (suc i) (place_next v w v9 i (suc i) refl) (λ q l u m. other q (λ e. omega arith) (λ e. omega arith) (λ e. omega arith))))

  pub pop_view : stream_in v ≡ with_queues (stream_in w) (popped (queues_in w))
  unfolding popped
  pop_view =
      line_changed v w _ _ (λ j h. other j (λ e. omega arith) (λ e. omega arith) (λ e. omega arith)) (other 12 (λ e. omega arith) (λ e. omega arith) (λ e. omega arith))
      (λ j h. other j (λ e. omega arith) (λ e. omega arith) (λ e. omega arith))
      pop_incoming pop_outgoing

one_on : (d i : ℕ) → d + 1 + i ≡ d + suc i
one_on d i = omega arith

-- the first that waits gets a frame
filled_is : (q : Queues) (k : ℕ) (i : List ℕ) (a b : ℕ) (t : Time) → q.incoming ≡ k ∷ i
    → filled_oldest q a b t ≡ record { granted = q.granted; incoming = i; outgoing = q.outgoing ++ (record { index = k; number = a; used = b; time = t } ∷ []) }
unfolding filled_oldest
filled_is q k i a b t h = ap (λ (l : List ℕ). filled_by l q a b t) h

pub fill_none : (w : List ℕ) (a b : ℕ) (t : Time) → lined_in w ≤ holding_in w → stream_in w ≡ on_queues (λ q. filled_oldest q a b t) (stream_in w)
unfolding stream_in filled_oldest queues_in
fill_none w a b t h =
    let e : lined_in w - holding_in w ≡ 0 = omega arith in
    rw (e, tab_none)

-- a time by the bits of its numbers
pub time_back : (t : Time) (x y : ℕ) → mag t.seconds < 2 ^ 31 → x ≡ bits (to_z w32 (of_z w32 t.seconds)) → mag t.microseconds < 2 ^ 31 → y ≡ bits (to_z w32 (of_z w32 t.microseconds))
    → time_of x y ≡ t
time_back t x y h e k f = rw (bits_back t.seconds x h e, bits_back t.microseconds y k f)

module _ (v w : List ℕ) (d p a b : ℕ) (t : Time) (hd : d ≡ holding_in w) (some : d < lined_in w) (hp : p ≡ place_in w d)
    (va : low (get_or v (48 + p) 0) ≡ a) (vb : low (get_or v (80 + p) 0) ≡ b) (vt : time_of (low (get_or v (112 + p) 0)) (low (get_or v (144 + p) 0)) ≡ t) (v10 : get_or v 10 0 ≡ d + 1)
    (under : (q : ℕ) → q < 48 → (q ≡ 10 → ⊥) → get_or v q 0 ≡ get_or w q 0)
    (apart : (q : ℕ) → 16 ≤ q → ((q + 16) % 32 ≡ p → ⊥) → get_or v q 0 ≡ get_or w q 0)
    (behind : (q : ℕ) → 176 ≤ q → get_or v q 0 ≡ get_or w q 0) where
  fill_lined : lined_in v ≡ lined_in w
  fill_lined = rw (under 11 (omega arith) (λ e. omega arith))

  fill_holding : holding_in v ≡ d + 1
  fill_holding = rw (v10, fill_lined) (omega arith)

  fill_index : (i : ℕ) → index_in v i ≡ index_in w i
  fill_index i = let e = under 9 (omega arith) (λ e. omega arith) in index_kept v w i i (rw e) (under _ (omega arith) (λ e. omega arith))

  fill_frame : (i : ℕ) → i < d → frame_in v i ≡ frame_in w i
  fill_frame i h = let e = under 9 (omega arith) (λ e. omega arith) in frame_kept v w i i (rw e) (λ q l u m. apart q l (λ e. omega arith))

  fill_last : frame_in v d ≡ record { index = index_in w (d + 0); number = a; used = b; time = t }
  unfolding frame_in
  fill_last =
      let e : place_in v d ≡ p = rw (under 9 (omega arith) (λ e. omega arith)) (omega arith) in
      let z : d + 0 ≡ d = omega arith in
      rw (e, va, vb, vt, fill_index d, z)

  -- those that wait, the first of them apart
  fill_waiting : (queues_in w).incoming ≡ index_in w (d + 0) ∷ tab (λ j. index_in w (d + suc j)) (lined_in w - d - 1)
  unfolding queues_in
  fill_waiting = rw (sym hd) (tab_cons (λ j. index_in w (d + j)) (lined_in w - d) (omega arith))

  fill_incoming : (queues_in v).incoming ≡ tab (λ j. index_in w (d + suc j)) (lined_in w - d - 1)
  unfolding queues_in
  fill_incoming =
      let less : lined_in w - (d + 1) ≡ lined_in w - d - 1 = omega arith in
      rw (fill_holding, fill_lined, less) (tab_same (λ j. index_in v (d + 1 + j)) (λ j. index_in w (d + suc j)) _ (λ i h.
      let s : d + 1 + i ≡ d + suc i = one_on d i in
      rw s (fill_index (d + suc i))))

  fill_outgoing : (queues_in v).outgoing ≡ (queues_in w).outgoing ++ (record { index = index_in w (d + 0); number = a; used = b; time = t } ∷ [])
  unfolding queues_in
  fill_outgoing =
      rw (fill_holding, sym hd, tab_snoc (λ j. frame_in v j) d, fill_last)
      (ap (λ (l : List Filled). l ++ (record { index = index_in w (d + 0); number = a; used = b; time = t } ∷ [])) (tab_same (λ j. frame_in v j) (λ j. frame_in w j) d fill_frame))

  pub fill_view : stream_in v ≡ with_queues (stream_in w) (filled_oldest (queues_in w) a b t)
  fill_view =
      line_changed v w _ _ (λ j h. under j (omega arith) (λ e. omega arith)) (under 12 (omega arith) (λ e. omega arith)) behind fill_incoming fill_outgoing
      ∙ ap (with_queues (stream_in w)) (sym (filled_is (queues_in w) _ _ a b t fill_waiting))
