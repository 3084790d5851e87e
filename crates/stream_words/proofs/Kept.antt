-- Words that stay: what else stands in the words then stays too. Assumes nothing.
use mathlib.Core.Path.{◌≡◌, ap, ◌∙◌}
use Prim.Native.Nat.{ℕ, ◌+◌, ◌%◌, ◌^◌, ◌≤◌, ◌<◌}
use native.Mathlib.Omega.{arith}
use mathlib.Core.List.{List}
use lib.ListN.{get_or}
use Rattle.stream_words.specs.declared.Filled.{Filled}
use Rattle.stream_words.specs.Stream.{Queues, with_queues}
use Rattle.stream_words.specs.Words.{low, lined_in, holding_in, place_in, index_in, frame_in, queues_in, maps_in, stream_in}
use Rattle.wire_read.proofs.Tabs.{tab_same}

-- a number of 32 bits
pub low_small : (n : ℕ) → n < 2 ^ 32 → low n ≡ n
low_small n h = omega arith

-- the ith in the line of v stands where the jth in that of w does
pub index_kept : (v w : List ℕ) (i j : ℕ) → place_in v i ≡ place_in w j → get_or v (16 + place_in w j) 0 ≡ get_or w (16 + place_in w j) 0 → index_in v i ≡ index_in w j
unfolding index_in
index_kept v w i j e h = rw (e, h)

-- the words of a place in the rings stand 32 apart
pub frame_kept : (v w : List ℕ) (i j : ℕ) → place_in v i ≡ place_in w j → ((q : ℕ) → 16 ≤ q → q < 176 → (q + 16) % 32 ≡ place_in w j → get_or v q 0 ≡ get_or w q 0) → frame_in v i ≡ frame_in w j
unfolding frame_in index_in
frame_kept v w i j e h =
    rw (
      e,
      h (16 + place_in w j) (omega arith) (omega arith) (omega arith),
      h (48 + place_in w j) (omega arith) (omega arith) (omega arith),
      h (80 + place_in w j) (omega arith) (omega arith) (omega arith),
      h (112 + place_in w j) (omega arith) (omega arith) (omega arith),
      h (144 + place_in w j) (omega arith) (omega arith) (omega arith),
    )

-- the map counts stay
pub maps_kept : (v w : List ℕ) → ((q : ℕ) → 176 ≤ q → get_or v q 0 ≡ get_or w q 0) → maps_in v ≡ maps_in w
unfolding maps_in
maps_kept v w h = tab_same (λ k. get_or v (176 + k) 0) (λ k. get_or w (176 + k) 0) 32 (λ k l. h (176 + k) (omega arith))

-- the record of the stream, its next number and its map counts stay
pub run_kept : (v w : List ℕ) (q : Queues) → ((j : ℕ) → j < 8 → get_or v j 0 ≡ get_or w j 0) → get_or v 12 0 ≡ get_or w 12 0 → ((j : ℕ) → 176 ≤ j → get_or v j 0 ≡ get_or w j 0) → queues_in v ≡ q
    → stream_in v ≡ with_queues (stream_in w) q
unfolding stream_in
run_kept v w q h n m e =
    rw (
      h 0 (omega arith),
      h 1 (omega arith),
      h 2 (omega arith),
      h 3 (omega arith),
      h 4 (omega arith),
      h 5 (omega arith),
      h 6 (omega arith),
      h 7 (omega arith),
      n,
      maps_kept v w m,
      e,
    )

-- queues by their parts
pub queues_are : (q : Queues) (g : ℕ) (i : List ℕ) (o : List Filled) → q.granted ≡ g → q.incoming ≡ i → q.outgoing ≡ o
    → q ≡ record { granted = g; incoming = i; outgoing = o }
queues_are q g i o a b c =
    ap (λ (x : ℕ). record { granted = x; incoming = q.incoming; outgoing = q.outgoing }) a
    ∙ ap (λ (x : List ℕ). record { granted = g; incoming = x; outgoing = q.outgoing }) b
    ∙ ap (λ (x : List Filled). record { granted = g; incoming = i; outgoing = x }) c

granted_kept : (v w : List ℕ) → get_or v 8 0 ≡ get_or w 8 0 → (queues_in v).granted ≡ (queues_in w).granted
unfolding queues_in
granted_kept v w h = h

-- the line stays
line_kept : (v w : List ℕ) → ((q : ℕ) → 9 ≤ q → q < 176 → (q ≡ 12 → ⊥) → get_or v q 0 ≡ get_or w q 0) → ((queues_in v).incoming ≡ (queues_in w).incoming) × ((queues_in v).outgoing ≡ (queues_in w).outgoing)
unfolding queues_in
line_kept v w h =
    let h₉ = h 9 (omega arith) (omega arith) (λ e. omega arith) in
    let n : lined_in v ≡ lined_in w = rw (h 11 (omega arith) (omega arith) (λ e. omega arith)) in
    let d : holding_in v ≡ holding_in w = rw (h 10 (omega arith) (omega arith) (λ e. omega arith), n) in (
      rw (d, n) (tab_same (λ i. index_in v (holding_in w + i)) (λ i. index_in w (holding_in w + i)) _ (λ i l. index_kept v w _ _ (rw h₉) (h _ (omega arith) (omega arith) (λ e. omega arith)))),
      rw d (tab_same (λ i. frame_in v i) (λ i. frame_in w i) _ (λ i l. frame_kept v w i i (rw h₉) (λ q a b m. h q (omega arith) b (λ e. omega arith)))),
    )

-- all buffers stay
pub queues_kept : (v w : List ℕ) → ((q : ℕ) → 8 ≤ q → q < 176 → (q ≡ 12 → ⊥) → get_or v q 0 ≡ get_or w q 0) → queues_in v ≡ queues_in w
queues_kept v w h =
    let l = line_kept v w (λ q a b c. h q (omega arith) b c) in
    queues_are (queues_in v) _ _ _ (granted_kept v w (h 8 (omega arith) (omega arith) (λ e. omega arith))) l.0 l.1

-- the line alone changes
pub line_changed : (v w : List ℕ) (i : List ℕ) (o : List Filled) → ((q : ℕ) → q < 9 → get_or v q 0 ≡ get_or w q 0) → get_or v 12 0 ≡ get_or w 12 0 → ((j : ℕ) → 176 ≤ j → get_or v j 0 ≡ get_or w j 0) → (queues_in v).incoming ≡ i → (queues_in v).outgoing ≡ o
    → stream_in v ≡ with_queues (stream_in w) (record { granted = (queues_in w).granted; incoming = i; outgoing = o })
unfolding queues_in
line_changed v w i o f n m a b = run_kept v w _ (λ j h. f j (omega arith)) n m (queues_are (queues_in v) _ i o (f 8 (omega arith)) a b)
