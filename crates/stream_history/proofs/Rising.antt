-- The places of the arrivals handed over in a run rise, and if there are as many as were accepted they are all of them.
use mathlib.Core.Path.{◌≡◌, refl, sym, ap, ◌∙◌, subst}
use mathlib.Core.Bool.{Bool, true, false, cond}
use Prim.Native.Nat.{ℕ, zero, suc, ◌+◌, ◌≤◌, ◌<◌}
use native.Mathlib.Omega.{arith}
use native.Mathlib.Numerals.{add-one}
use mathlib.Core.List.{List, [], ◌∷◌, ◌++◌, map, append_assoc, append-nil, head-eq_of_cons-eq, tail-eq_of_cons-eq}
use lib.ListN.{length, length-append}
use Rattle.stream_run.specs.Stream.{stopped_run}
use Rattle.stream_history.specs.Paper.{Frame, Pair, Paper, Event, blank, frame_of, rest, filled, step, noted, place_in_run, first, given, handed_over, numbers_below}
use Rattle.stream_history.specs.Paper.Event.{put, whole, damaged, handed, begun, ended, sized, changed, idle}
use Rattle.stream_history.proofs.Lists.{map_snoc}
use Rattle.stream_history.proofs.Sound.{Sound, Fits, sound_step}
use Rattle.stream_history.proofs.Order.{Legal}

-- one or the other
pub data Either (A B : Type 0) : Type 0 where
  left : A → Either A B
  right : B → Either A B

-- some of the numbers below n, each above the one before
pub Rising : List ℕ → ℕ → Type 0
Rising l zero = l ≡ []
Rising l (suc n) = Either (Rising l n) ((k : List ℕ) × (l ≡ k ++ (n ∷ [])) × Rising k n)

rising_length : (n : ℕ) (l : List ℕ) → Rising l n → length l ≤ n
unfolding Rising
rising_length zero l r = omega (arith, ap length r)
rising_length (suc n) l (Either.left r) = omega (arith, rising_length n l r)
rising_length (suc n) l (Either.right (k, e, r)) = omega (arith, rising_length n k r, ap length e, length-append k (n ∷ []))

-- as many as there are below n: all of them
rising_all : (n : ℕ) (l : List ℕ) → Rising l n → length l ≡ n → l ≡ numbers_below n
unfolding Rising
rising_all zero l r h = r
rising_all (suc n) l (Either.left r) h = absurd (omega (arith, rising_length n l r, h))
rising_all (suc n) l (Either.right (k, e, r)) h =
    e ∙ ap (λ (x : List ℕ). x ++ (n ∷ [])) (rising_all n k r (omega (arith, h, ap length e, length-append k (n ∷ []))))

-- where the last of two lists ends
last_of : (l m k : List ℕ) (x : ℕ) → l ++ m ≡ k ++ (x ∷ []) → Either (m ≡ []) ((j : List ℕ) × (k ≡ l ++ j))
last_of [] m k x e = right (k, refl)
last_of (y ∷ l) [] k x e = left refl
last_of (y ∷ l) (z ∷ m) [] x e = absurd (omega (arith, ap length (tail-eq_of_cons-eq e), length-append l (z ∷ m)))
last_of (y ∷ l) (z ∷ m) (w ∷ k) x e = go (last_of l (z ∷ m) k x (tail-eq_of_cons-eq e))
  where
    go : Either (z ∷ m ≡ []) ((j : List ℕ) × (k ≡ l ++ j)) → Either (z ∷ m ≡ []) ((j : List ℕ) × (w ∷ k ≡ y ∷ l ++ j))
    go (Either.left h) = left h
    go (Either.right (j, h)) = right (j, cc (head-eq_of_cons-eq e, h))

-- a part from the start rises too
rising_part : (n : ℕ) (l m : List ℕ) → Rising (l ++ m) n → Rising l n
unfolding Rising
rising_part zero [] m r = refl
rising_part zero (x ∷ l) m r = absurd (omega (arith, ap length r))
rising_part (suc n) l m (Either.left r) = left (rising_part n l m r)
rising_part (suc n) l m (Either.right (k, e, r)) = go (last_of l m k n e) (rising_part n l)
  where
    go : Either (m ≡ []) ((j : List ℕ) × (k ≡ l ++ j)) → ((j : List ℕ) → Rising (l ++ j) n → Rising l n) → Either (Rising l n) ((k : List ℕ) × (l ≡ k ++ (n ∷ [])) × Rising k n)
    go (Either.left h) again = right (k, sym (append-nil l) ∙ sym (ap (λ (x : List ℕ). l ++ x) h) ∙ e, r)
    go (Either.right (j, h)) again = left (again j (subst (λ (x : List ℕ). Rising x n) h r))

-- What the places handed over keep.
pub record Ordered (p : Paper) (l : List ℕ) : Type 0 where
  pub many : length l ≡ p.run.handed
  pub rises : Rising (l ++ map place_in_run p.outgoing) p.run.accepted

skip : (l : List ℕ) (n : ℕ) → Rising l n → Rising l (n + 1)
unfolding Rising
skip l n r = subst (Rising l) (sym (add-one n)) (left r)

pick : (l : List ℕ) (n : ℕ) → Rising l n → Rising (l ++ (n ∷ [])) (n + 1)
unfolding Rising
pick l n r = subst (Rising (l ++ (n ∷ []))) (sym (add-one n)) (right (l, refl, r))

rises_filled : (l : List ℕ) (i : List ℕ) (f : Frame) (o : List Pair) → Rising (l ++ map place_in_run o) f.place → Rising (l ++ map place_in_run (filled i f o)) (f.place + 1)
rises_filled l [] f o r = skip (l ++ map place_in_run o) f.place r
rises_filled l (k ∷ i) f o r =
    subst (λ (x : List ℕ). Rising x (f.place + 1))
    (append_assoc l (map place_in_run o) (f.place ∷ []) ∙ sym (ap (λ (x : List ℕ). l ++ x) (map_snoc place_in_run o (record { index = k; frame = f }))))
    (pick (l ++ map place_in_run o) f.place r)

ordered_handed : (l : List ℕ) (o : List Pair) (h n : ℕ) → 0 < length o → length l ≡ h → Rising (l ++ map place_in_run o) n
    → (length (l ++ map place_in_run (first o)) ≡ h + 1) × Rising ((l ++ map place_in_run (first o)) ++ map place_in_run (rest o)) n
ordered_handed l [] h n s e r = absurd (omega arith)
ordered_handed l (x ∷ o) h n s e r =
    (omega (arith, length-append l (x.frame.place ∷ []), e), subst (λ (y : List ℕ). Rising y n) (sym (append_assoc l (x.frame.place ∷ []) (map place_in_run o))) r)

ordered_step : (p : Paper) (l : List ℕ) (e : Event) → Sound p → Fits p e → Ordered p l → Ordered (step p e) (given p l e)
unfolding Rising
ordered_step p l (put k) s f o = record { many = o.many; rises = o.rises }
ordered_step p l (whole b t) s f o = record { many = o.many; rises = rises_filled l p.incoming (frame_of p b t) p.outgoing o.rises }
ordered_step p l damaged s f o = record { many = o.many; rises = skip (l ++ map place_in_run p.outgoing) p.run.accepted o.rises }
ordered_step p l handed s f o =
    let (x, y) = ordered_handed l p.outgoing p.run.handed p.run.accepted f o.many o.rises in record { many = x; rises = y }
ordered_step p l begun s f o = record { many = refl; rises = ap (map place_in_run) (s.none f) }
ordered_step p l (ended n) s f o = go p.running
  where
    stays : Rising (l ++ []) p.run.accepted
    stays = subst (λ (x : List ℕ). Rising x p.run.accepted) (sym (append-nil l)) (rising_part p.run.accepted l (map place_in_run p.outgoing) o.rises)

    go : (x : Bool) → Ordered (record { size = p.size; granted = n; running = false; run = cond x (stopped_run p.run (length p.outgoing)) p.run; incoming = []; outgoing = []; maps = p.maps }) l
    go true = record { many = o.many; rises = stays }
    go false = record { many = o.many; rises = stays }
ordered_step p l (sized n) s f o = record { many = o.many; rises = o.rises }
ordered_step p l (changed c k) s f o = record { many = o.many; rises = o.rises }
ordered_step p l idle s f o = o

pub ordered_after : (es : List Event) (p : Paper) (l : List ℕ) → Sound p → Legal p es → Ordered p l → Ordered (noted p es) (handed_over p l es)
ordered_after [] p l s f o = o
ordered_after (e ∷ es) p l s f o = ordered_after es (step p e) (given p l e) (sound_step p e s f.0) f.1 (ordered_step p l e s f.0 o)

-- none handed over, none accepted
pub ordered_blank : (size : ℕ) → Ordered (blank size) []
unfolding Rising
ordered_blank size = record { many = refl; rises = refl }

-- as many handed over as were accepted: all of them, in their order
pub all_handed : (p : Paper) (l : List ℕ) → Ordered p l → p.run.handed ≡ p.run.accepted → l ≡ numbers_below p.run.accepted
all_handed p l o e = rising_all p.run.accepted l (rising_part p.run.accepted l (map place_in_run p.outgoing) o.rises) (o.many ∙ e)
