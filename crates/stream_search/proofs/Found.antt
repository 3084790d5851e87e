-- Which queue a buffer is in, by where it stands in the line. Assumes nothing.
use mathlib.Core.Path.{◌≡◌, refl, sym, ◌∙◌}
use mathlib.Core.Bool.{Bool, true, false, cond, ◌||◌}
use Prim.Native.Nat.{ℕ, ◌+◌, ◌-◌, ◌%◌, ◌≤◌, ◌<◌}
use native.Mathlib.Omega.{arith}
use native.Mathlib.Decide.{dec_lt}
use borrow.Author.Tests.{eq-eqb, ne_eqb, lt-ltb, le-ltb}
use lib.Dec.{eqb, ltb}
use Rattle.std.proofs.Math.Bool.{or-true}
use Rattle.std.proofs.lemmas.Bool.{or_parts}
use mathlib.Core.List.{List, [], ◌∷◌, ◌++◌}
use lib.ListN.{get_or}
use Rattle.stream_words.specs.declared.Standing.TheVariants.{Dequeued, Incoming, Outgoing}
use Rattle.stream_words.specs.Words.{low, lined_in, holding_in, place_in, index_in, frame_in, queues_in}
use Rattle.stream_words.specs.Moves.{no_frame, of_buffer, is_incoming, is_outgoing, entry_of, has_room, pushed, standing_of}
use Rattle.wire_read.specs.Lists.{any}
use Rattle.stream_words.specs.Stream.{Queues}
use Rattle.stream_search.specs.Found.{FoundAt, FoundIn}
use Rattle.wire_read.proofs.Tabs.{any_none, any_found, first_found}

-- the index of one in the line, by its place
index_at : (w : List ℕ) (j q : ℕ) → place_in w j ≡ q → index_in w j ≡ low (get_or w (16 + q) 0)
unfolding index_in
index_at w j q e = rw e

-- The line begins at place h of the ring and is n long.
module _ (w : List ℕ) (k h n : ℕ) (hh : h ≡ get_or w 9 0 % 32) (hn : n ≡ lined_in w) where
  -- found in the part of the line before the ring's end
  pub found_first : (to p : ℕ) → to ≤ 32 → to ≤ h + n → FoundIn w k h to p → p < to → FoundAt w k (p - h)
  found_first to p room short f l =
      let g = f.behind in
      record {
        within = omega arith;
        before = λ j m e. f.before (h + j) (omega arith) (omega arith) (sym (index_at w j (h + j) (omega arith)) ∙ e);
        here = λ m. index_at w (p - h) p (omega arith) ∙ f.here l;
      }

  -- not found in a line that ends before the ring
  pub found_straight : (p : ℕ) → h + n ≤ 32 → FoundIn w k h (h + n) p → FoundAt w k (p - h)
  found_straight p short f = go (dec_lt p (h + n))
    where
      go : Dec (p < h + n) → FoundAt w k (p - h)
      go (yes l) = found_first (h + n) p short (omega arith) f l
      go (no l) =
          let g = f.within in
          record {
            within = omega arith;
            before = λ j m e. f.before (h + j) (omega arith) (omega arith) (sym (index_at w j (h + j) (omega arith)) ∙ e);
            here = λ m. absurd (omega arith);
          }

  -- looked for behind the ring's end, where it goes on at place 0
  pub found_second : (p q : ℕ) → 32 < h + n → FoundIn w k h 32 p → (p < 32 → ⊥) → FoundIn w k 0 (h + n - 32) q → FoundAt w k (q + (32 - h))
  found_second p q long f none g =
      let r = g.within in
      record {
        within = omega arith;
        before = λ j m e. by j m e (dec_lt (h + j) 32);
        here = λ m. index_at w (q + (32 - h)) q (omega arith) ∙ g.here (omega arith);
      }
    where
      by : (j : ℕ) → j < q + (32 - h) → index_in w j ≡ k → Dec (h + j < 32) → ⊥
      by j m e (yes l) = f.before (h + j) (omega arith) (omega arith) (sym (index_at w j (h + j) (omega arith)) ∙ e)
      by j m e (no l) = g.before (h + j - 32) (omega arith) (omega arith) (sym (index_at w j (h + j - 32) (omega arith)) ∙ e)

module _ (w : List ℕ) (k i : ℕ) (f : FoundAt w k i) where
  -- the entries before it are of other buffers
  before_it : (j : ℕ) → j < i → of_buffer k (frame_in w j) ≡ false
  unfolding frame_in
  before_it j h = ne_eqb (index_in w j) k (f.before j h)

  here_it : i < lined_in w → of_buffer k (frame_in w i) ≡ true
  unfolding frame_in
  here_it h = eq-eqb (index_in w i) k (f.here h)

  outgoing_found : i < holding_in w → is_outgoing (queues_in w) k ≡ true
  unfolding is_outgoing queues_in
  outgoing_found h = any_found (of_buffer k) (λ j. frame_in w j) (holding_in w) i h (here_it (omega arith))

  pub entry_found : i < holding_in w → entry_of (queues_in w) k ≡ frame_in w i
  unfolding entry_of queues_in
  entry_found h = first_found (of_buffer k) no_frame (λ j. frame_in w j) (holding_in w) i h before_it (here_it (omega arith))

  outgoing_none : holding_in w ≤ i → is_outgoing (queues_in w) k ≡ false
  unfolding is_outgoing queues_in
  outgoing_none h = any_none (of_buffer k) (λ j. frame_in w j) (holding_in w) (λ j l. before_it j (omega arith))

  incoming_found : holding_in w ≤ i → i < lined_in w → is_incoming (queues_in w) k ≡ true
  unfolding is_incoming queues_in
  incoming_found h l =
      let e : holding_in w + (i - holding_in w) ≡ i = omega arith in
      any_found (λ x. eqb x k) (λ j. index_in w (holding_in w + j)) (lined_in w - holding_in w) (i - holding_in w) (omega arith) (rw e (eq-eqb (index_in w i) k (f.here l)))

  incoming_none : lined_in w ≤ i → is_incoming (queues_in w) k ≡ false
  unfolding is_incoming queues_in
  incoming_none h = any_none (λ x. eqb x k) (λ j. index_in w (holding_in w + j)) (lined_in w - holding_in w) (λ j l. ne_eqb _ k (f.before (holding_in w + j) (omega arith)))

  -- in a queue
  pub line_told : ltb i (lined_in w) ≡ (is_incoming (queues_in w) k || is_outgoing (queues_in w) k)
  line_told = go (dec_lt i (lined_in w)) (dec_lt i (holding_in w))
    where
      go : Dec (i < lined_in w) → Dec (i < holding_in w) → ltb i (lined_in w) ≡ (is_incoming (queues_in w) k || is_outgoing (queues_in w) k)
      go (yes h) (yes l) = rw (lt-ltb i (lined_in w) h, outgoing_found l) (sym (or-true (is_incoming (queues_in w) k)))
      go (yes h) (no l) = rw (lt-ltb i (lined_in w) h, incoming_found (omega arith) h)
      go (no h) l = rw (le-ltb i (lined_in w) (omega arith), incoming_none (omega arith), outgoing_none (omega arith))

  -- in which
  pub standing_outgoing : i < holding_in w → Outgoing (frame_in w i) ≡ standing_of (queues_in w) k
  unfolding standing_of
  standing_outgoing h = rw (outgoing_found h, entry_found h)

  pub standing_incoming : holding_in w ≤ i → i < lined_in w → Incoming ≡ standing_of (queues_in w) k
  unfolding standing_of
  standing_incoming h l = rw (outgoing_none h, incoming_found h l)

  pub standing_dequeued : lined_in w ≤ i → Dequeued ≡ standing_of (queues_in w) k
  unfolding standing_of
  standing_dequeued h = rw (outgoing_none (omega arith), incoming_none h)

-- ---- a buffer that joins the line

any_last : {A : Type 0} (p : A → Bool) (l : List A) (x : A) → p x ≡ true → any p (l ++ (x ∷ [])) ≡ true
unfolding any
any_last p [] x e = rw e
any_last p (y ∷ l) x e = go (p y) (any_last p l x e)
  where
    go : (b : Bool) → any p (l ++ (x ∷ [])) ≡ true → cond b true (any p (l ++ (x ∷ []))) ≡ true
    go true r = refl
    go false r = r

-- one that was in neither queue waits then, or is still in neither where the line was full
pub standing_pushed : (q : Queues) (k : ℕ) → (is_incoming q k || is_outgoing q k) ≡ false → standing_of (pushed q k) k ≡ cond (has_room q) Incoming Dequeued
unfolding standing_of pushed is_incoming is_outgoing
standing_pushed q k h = go (has_room q) (or_parts (any (λ x. eqb x k) q.incoming) (any (of_buffer k) q.outgoing) h)
  where
    r : Bool → Queues
    r b = cond b (record { granted = q.granted; incoming = q.incoming ++ (k ∷ []); outgoing = q.outgoing }) q

    go : (b : Bool) → (any (λ x. eqb x k) q.incoming ≡ false) × (any (of_buffer k) q.outgoing ≡ false)
        → cond (any (of_buffer k) (r b).outgoing) (Outgoing (entry_of (r b) k)) (cond (any (λ x. eqb x k) (r b).incoming) Incoming Dequeued) ≡ cond b Incoming Dequeued
    go true (i, o) = rw (o, any_last (λ x. eqb x k) q.incoming k (eq-eqb k k refl))
    go false (i, o) = rw (o, i)
