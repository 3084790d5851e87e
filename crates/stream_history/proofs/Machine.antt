-- Lists of calls on any machine: what holds of one call holds of all.
use mathlib.Core.Path.{◌≡◌, refl, ap}
use mathlib.Core.List.{List, [], ◌∷◌, ◌++◌, head-eq_of_cons-eq, tail-eq_of_cons-eq, nil≢cons}
use Rattle.stream_history.specs.Calls.{leaves}
use Rattle.stream_history.specs.Paper.{Paper, Event, step, noted, tells}
use Rattle.stream_history.proofs.Sound.{Fits}
use Rattle.stream_history.proofs.Order.{Legal}

-- how the machine answers, what it leaves, and what that tells
module _ {W C A : Type 0} (a : W → C → A) (n : W → C → W) (t : Paper → C → A → Event) where
  pub leaves_append : (x y : List C) (w : W) → leaves n w (x ++ y) ≡ leaves n (leaves n w x) y
  leaves_append [] y w = refl
  leaves_append (c ∷ x) y w = leaves_append x y (n w c)

  pub noted_tells : (x y : List C) (w : W) (p : Paper)
      → noted p (tells a n t w p (x ++ y)) ≡ noted (noted p (tells a n t w p x)) (tells a n t (leaves n w x) (noted p (tells a n t w p x)) y)
  noted_tells [] y w p = refl
  noted_tells (c ∷ x) y w p = noted_tells x y (n w c) (step p (t p c (a w c)))

  -- A list of calls, cut where its events are cut.
  pub record Cut (w : W) (p : Paper) (cs : List C) (front : List Event) (e : Event) : Type 0 where
    pub fore : List C
    pub call : C
    pub aft : List C
    pub is : cs ≡ fore ++ call ∷ aft
    pub tells_front : tells a n t w p fore ≡ front
    pub tells_call : t (noted p (tells a n t w p fore)) call (a (leaves n w fore) call) ≡ e

  pub cut : (cs : List C) (w : W) (p : Paper) (front : List Event) (e : Event) (back : List Event) → tells a n t w p cs ≡ front ++ e ∷ back → Cut w p cs front e
  cut [] w p [] e back h = absurd (nil≢cons h)
  cut [] w p (f ∷ front) e back h = absurd (nil≢cons h)
  cut (c ∷ cs) w p [] e back h = record { fore = []; call = c; aft = cs; is = refl; tells_front = refl; tells_call = head-eq_of_cons-eq h }
  cut (c ∷ cs) w p (f ∷ front) e back h = go (cut cs (n w c) (step p (t p c (a w c))) front e back (tail-eq_of_cons-eq h))
    where
      go : Cut (n w c) (step p (t p c (a w c))) cs front e → Cut w p (c ∷ cs) (f ∷ front) e
      go x = record {
        fore = c ∷ x.fore;
        call = x.call;
        aft = x.aft;
        is = ap (λ (l : List C). c ∷ l) x.is;
        tells_front = cc (head-eq_of_cons-eq h, x.tells_front);
        tells_call = x.tells_call;
      }

  -- what each call keeps, where its event is one that a stream can make
  module _ (Keeps : W → Paper → Type 0) (keeps : (w : W) (p : Paper) (c : C) → Keeps w p → Keeps (n w c) (step p (t p c (a w c)))) where
    pub keeps_after : (cs : List C) (w : W) (p : Paper) → Keeps w p → Keeps (leaves n w cs) (noted p (tells a n t w p cs))
    keeps_after [] w p k = k
    keeps_after (c ∷ cs) w p k = keeps_after cs (n w c) (step p (t p c (a w c))) (keeps w p c k)

    pub legal_tells : ((w : W) (p : Paper) (c : C) → Keeps w p → Fits p (t p c (a w c))) → (cs : List C) (w : W) (p : Paper) → Keeps w p → Legal p (tells a n t w p cs)
    legal_tells fits [] w p k = tt
    legal_tells fits (c ∷ cs) w p k = (fits w p c k, legal_tells fits cs (n w c) (step p (t p c (a w c))) (keeps w p c k))
