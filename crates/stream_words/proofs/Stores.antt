-- The stores that make the moves: the second step. Assumes nothing.
use mathlib.Core.Path.{◌≡◌, refl, ap, ◌∙◌}
use Prim.Native.Nat.{ℕ, ◌+◌, ◌-◌, ◌%◌, ◌^◌, ◌<◌}
use native.Mathlib.Omega.{arith}
use mathlib.Core.List.{List, [], ◌∷◌}
use lib.ListN.{length, get_or, set, length-set}
use lib.Seq.{get_or-set_same, get_or-set_other}
use Rattle.stream_words.specs.declared.Time.{Time}
use Rattle.stream_words.specs.Stream.{with_queues}
use Rattle.stream_words.specs.Words.{low, time_of, lined_in, holding_in, place_in, queues_in, stream_in}
use Rattle.stream_words.specs.Moves.{emptied, pushed, filled_oldest, popped}
use Rattle.stream_words.proofs.Kept.{low_small}
use Rattle.stream_words.proofs.Views.{empty_view, push_view, pop_view, fill_view}

-- pairs of a place and what is stored there, one after another
abbrev stores : List ℕ → List (ℕ × ℕ) → List ℕ
stores w [] = w
stores w (s ∷ l) = stores (set w s.0 s.1) l

-- place q is none of theirs
abbrev Apart : ℕ → List (ℕ × ℕ) → Type 0
Apart q [] = Unit {0}
Apart q (s ∷ l) = (q ≡ s.0 → ⊥) × Apart q l

stores_other : (l : List (ℕ × ℕ)) (w : List ℕ) (q : ℕ) → Apart q l → get_or (stores w l) q 0 ≡ get_or w q 0
stores_other [] w q h = refl
stores_other (s ∷ l) w q h = stores_other l (set w s.0 s.1) q h.1 ∙ get_or-set_other w s.0 q s.1 0 h.0

stores_here : (l : List (ℕ × ℕ)) (w : List ℕ) (a x : ℕ) → a < length w → Apart a l → get_or (stores (set w a x) l) a 0 ≡ x
stores_here l w a x h o = stores_other l (set w a x) a o ∙ get_or-set_same w a x 0 h

module _ (w : List ℕ) (long : length w ≡ 208) where
  pub empty_words : (g : ℕ) → stream_in (set (set (set w 8 g) 10 0) 11 0) ≡ with_queues (stream_in w) (emptied g)
  empty_words g =
      empty_view _ w g
      (stores_here ((10, 0) ∷ (11, 0) ∷ []) w 8 g (omega arith) (λ e. omega arith, (λ e. omega arith, tt)))
      (stores_here ((11, 0) ∷ []) (set w 8 g) 10 0 (simp length-set (omega arith)) (λ e. omega arith, tt))
      (stores_here [] (set (set w 8 g) 10 0) 11 0 (simp length-set (omega arith)) tt)
      (λ q a b c. stores_other ((8, g) ∷ (10, 0) ∷ (11, 0) ∷ []) w q (a, (b, (c, tt))))

  pub push_words : (k n d p : ℕ) → k < 2 ^ 32 → n ≡ lined_in w → n < 32 → d ≡ holding_in w → p ≡ place_in w n
      → stream_in (set (set (set w (16 + p) k) 10 d) 11 (n + 1)) ≡ with_queues (stream_in w) (pushed (queues_in w) k)
  push_words k n d p small hn room hd hp =
      push_view _ w k n d p hn room hd hp
      (ap low (stores_here ((10, d) ∷ (11, n + 1) ∷ []) w (16 + p) k (omega arith) (λ e. omega arith, (λ e. omega arith, tt))) ∙ low_small k small)
      (stores_here ((11, n + 1) ∷ []) (set w (16 + p) k) 10 d (simp length-set (omega arith)) (λ e. omega arith, tt))
      (stores_here [] (set (set w (16 + p) k) 10 d) 11 (n + 1) (simp length-set (omega arith)) tt)
      (λ q a b c. stores_other ((16 + p, k) ∷ (10, d) ∷ (11, n + 1) ∷ []) w q (a, (b, (c, tt))))

  pub pop_words : (n d : ℕ) → n ≡ lined_in w → d ≡ holding_in w → 0 < d
      → stream_in (set (set (set w 9 ((get_or w 9 0 % 32 + 1) % 32)) 10 (d - 1)) 11 (n - 1)) ≡ with_queues (stream_in w) (popped (queues_in w))
  pop_words n d hn hd some =
      let h = (get_or w 9 0 % 32 + 1) % 32 in
      pop_view _ w n d hn hd some
      (stores_here ((10, d - 1) ∷ (11, n - 1) ∷ []) w 9 h (omega arith) (λ e. omega arith, (λ e. omega arith, tt)))
      (stores_here ((11, n - 1) ∷ []) (set w 9 h) 10 (d - 1) (simp length-set (omega arith)) (λ e. omega arith, tt))
      (stores_here [] (set (set w 9 h) 10 (d - 1)) 11 (n - 1) (simp length-set (omega arith)) tt)
      (λ q a b c. stores_other ((9, h) ∷ (10, d - 1) ∷ (11, n - 1) ∷ []) w q (a, (b, (c, tt))))

  pub fill_words : (d p a b x y : ℕ) (t : Time) → a < 2 ^ 32 → b < 2 ^ 32 → x < 2 ^ 32 → y < 2 ^ 32 → time_of x y ≡ t → d ≡ holding_in w → d < lined_in w → p ≡ place_in w d
      → stream_in (set (set (set (set (set w (48 + p) a) (80 + p) b) (112 + p) x) (144 + p) y) 10 (d + 1)) ≡ with_queues (stream_in w) (filled_oldest (queues_in w) a b t)
  fill_words d p a b x y t ha hb hx hy ht hd some hp =
      let l : List (ℕ × ℕ) = (48 + p, a) ∷ (80 + p, b) ∷ (112 + p, x) ∷ (144 + p, y) ∷ (10, d + 1) ∷ [] in
      let w₁ = set w (48 + p) a in
      let w₂ = set w₁ (80 + p) b in
      let w₃ = set w₂ (112 + p) x in
      let w₄ = set w₃ (144 + p) y in
      fill_view _ w d p a b t hd some hp
      (ap low (stores_here ((80 + p, b) ∷ (112 + p, x) ∷ (144 + p, y) ∷ (10, d + 1) ∷ []) w (48 + p) a (omega arith)
      (λ e. omega arith, (λ e. omega arith, (λ e. omega arith, (λ e. omega arith, tt))))) ∙ low_small a ha)
      (ap low (stores_here ((112 + p, x) ∷ (144 + p, y) ∷ (10, d + 1) ∷ []) w₁ (80 + p) b (simp length-set (omega arith)) (λ e. omega arith, (λ e. omega arith, (λ e. omega arith, tt)))) ∙ low_small b hb)
      (rw (
        stores_here ((144 + p, y) ∷ (10, d + 1) ∷ []) w₂ (112 + p) x (simp length-set (omega arith)) (λ e. omega arith, (λ e. omega arith, tt)),
        stores_here ((10, d + 1) ∷ []) w₃ (144 + p) y (simp length-set (omega arith)) (λ e. omega arith, tt),
        low_small x hx,
        low_small y hy,
      ) ht)
      (stores_here [] w₄ 10 (d + 1) (simp length-set (omega arith)) tt)
      (λ q h i. stores_other l w q (λ e. omega arith, (λ e. omega arith, (λ e. omega arith, (λ e. omega arith, (i, tt))))))
      (λ q h i. stores_other l w q (λ e. i (omega arith), (λ e. i (omega arith), (λ e. i (omega arith), (λ e. i (omega arith), (λ e. omega arith, tt))))))
      (λ q h. stores_other l w q (λ e. omega arith, (λ e. omega arith, (λ e. omega arith, (λ e. omega arith, (λ e. omega arith, tt))))))
