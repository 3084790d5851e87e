-- A call of one sort that is still in force: what one call more does to it. Assumes nothing.
use mathlib.Core.Path.{◌≡◌, refl, sym, ap, ap₂, ◌∙◌, subst}
use mathlib.Core.Logic.{◌⊎◌, inl, inr, ⊎_elim, ⊎_map}
use Prim.Native.Nat.{ℕ}
use mathlib.Core.List.{List, [], ◌∷◌, ◌++◌, append_assoc, head-eq_of_cons-eq, tail-eq_of_cons-eq, nil≢cons}
use Rattle.ioctl_table.specs.declared.table.Call.{Call as Asked}
use Rattle.claims.specs.Calls.{Kind, Call}
use Rattle.claims.specs.Calls.Call.{request}
use Rattle.claims.specs.Machine.{Session, more}
use Rattle.claims_together.specs.Waiting.{Accepted, InForce}

-- ---- lists

pub not_empty : {A : Type 0} (x : List A) (e : A) (y : List A) → [] ≡ x ++ e ∷ y → ⊥
not_empty [] e y h = absurd (nil≢cons h)
not_empty (d ∷ x) e y h = absurd (nil≢cons h)

-- an element of a list with one more at its end is that one, or one of the list
pub at_end : {A : Type 0} (b x : List A) (c e : A) (y : List A) → b ++ (c ∷ []) ≡ x ++ e ∷ y → ((x ≡ b) × (c ≡ e)) ⊎ ((z : List A) × (b ≡ x ++ e ∷ z))
at_end [] [] c e y h = inl (refl, head-eq_of_cons-eq h)
at_end [] (d ∷ x) c e y h = absurd (not_empty x e y (tail-eq_of_cons-eq h))
at_end (d ∷ b) [] c e y h = inr (b, ap (λ v. v ∷ b) (head-eq_of_cons-eq h))
at_end (d ∷ b) (f ∷ x) c e y h =
    ⊎_map (λ q. (ap₂ (λ v l. v ∷ l) (sym (head-eq_of_cons-eq h)) q.0, q.1)) (λ q. (q.0, ap₂ (λ v l. v ∷ l) (head-eq_of_cons-eq h) q.1))
    (at_end b x c e y (tail-eq_of_cons-eq h))

-- ---- in force

-- a call is no accepted one of this sort on the stream
abbrev pub Not : Session → Kind → (Asked → Type 0) → List Call → Call → Type 0
Not S k Sort h c = (w : ℕ) (a : List ℕ) → c ≡ request w a → Accepted S k Sort h w a → ⊥

module _ (S : Session) (k : Kind) (Sort Other : Asked → Type 0) where
  -- the calls up to it, and those since
  pub put_together : (cs : List Call) (r : InForce S k Sort Other cs) → more r.front (request r.word r.argument) ++ r.back ≡ cs
  put_together cs r = append_assoc r.front (request r.word r.argument ∷ []) r.back ∙ sym r.is

  -- it was the last call
  unfoldable pub now_in_force : (h : List Call) (w : ℕ) (a : List ℕ) → Accepted S k Sort h w a → InForce S k Sort Other (more h (request w a))
  now_in_force h w a e = record {
    front = h;
    word = w;
    argument = a;
    back = [];
    is = refl;
    accepted = e;
    since = λ x v b y q o. not_empty x (request v b) y q;
  }

  -- one call more, which is none of the other sort
  unfoldable pub still_in_force : (h : List Call) (c : Call) → Not S k Other h c → InForce S k Sort Other h → InForce S k Sort Other (more h c)
  still_in_force h c none r = record {
    front = r.front;
    word = r.word;
    argument = r.argument;
    back = more r.back c;
    is = ap (λ (l : List Call). more l c) r.is ∙ append_assoc r.front (request r.word r.argument ∷ r.back) (c ∷ []);
    accepted = r.accepted;
    since = λ x w a y q o. ⊎_elim
        (λ e. none w a e.1 (subst (λ (l : List Call). Accepted S k Other l w a) (ap (λ (l : List Call). more r.front (request r.word r.argument) ++ l) e.0 ∙ put_together h r) o))
        (λ e. r.since x w a e.0 e.1 o)
        (at_end r.back x c (request w a) y q);
  }
