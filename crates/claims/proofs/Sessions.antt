-- What is told of any session, one call at a time.
use mathlib.Core.Path.{◌≡◌, refl, sym, ap, ap₂, ◌∙◌, subst}
use mathlib.Core.Bool.{Bool, true, false, cond, not}
use Prim.Native.Nat.{ℕ}
use native.Mathlib.Omega.{arith}
use borrow.Author.Tests.{eq-eqb}
use lib.Dec.{eqb}
use mathlib.Core.List.{List, [], ◌∷◌, ◌++◌, append-nil, append_assoc}
use Rattle.ioctl_table.specs.Refusal.{errno_of}
use Rattle.ioctl_table.specs.Table.{request_of}
use Rattle.ioctl_table.proofs.Numbers.{errno_positive}
use Rattle.stream_words.specs.declared.Time.{Time}
use Rattle.stream_run.specs.Stream.{reduced}
use Rattle.stream_arrival.specs.declared.Arrival.{Arrival}
use Rattle.stream_arrival.specs.declared.Arrival.TheVariants as arrivals
use Rattle.stream_history.specs.Calls.{leaves}
use Rattle.stream_history.specs.Paper.{Paper, blank, step, refused_arrival}
use Rattle.stream_history.specs.Paper.Event.{idle}
use Rattle.stream_history.proofs.Machine.{noted_tells}
use Rattle.claims.specs.Calls.{Kind, type_of, Call}
use Rattle.claims.specs.Calls.Call.{request, arrival}
use Rattle.claims.specs.Machine.{Session, more, reply_in}
use Rattle.claims.specs.Words.{told_by, arrival_told, told, seen_in, opening_size, events_in, paper_in}
use Rattle.claims.specs.Desk.{Desk, opening_desk, choice, desk_from, desk_in}
use Rattle.claims.specs.Table.{Check, first_number, refused_by, placed_on, whole_on, arrived_on, arrival_number}

-- what holds at first, and with each call more, holds after every list
pub every : (P : List Call → Type 0) → P [] → ((h : List Call) (c : Call) → P h → P (more h c)) → (cs : List Call) → P cs
every P first on cs = go cs [] first
  where
    go : (cs h : List Call) → P h → P (h ++ cs)
    go [] h p = subst P (sym (append-nil h)) p
    go (c ∷ cs) h p = subst P (append_assoc h (c ∷ []) cs) (go cs (more h c) (on h c p))

-- the desk after one call more
desk_append : (s : List ℕ) (S : Session) (x y h : List Call) (q : Desk) → desk_from s S h q (x ++ y) ≡ desk_from s S (h ++ x) (desk_from s S h q x) y
desk_append s S [] y h q = ap (λ (l : List Call). desk_from s S l q y) (sym (append-nil h))
desk_append s S (c ∷ x) y h q =
    desk_append s S x y (more h c) (choice s q c (reply_in S h c))
    ∙ ap (λ (l : List Call). desk_from s S l (desk_from s S (more h c) (choice s q c (reply_in S h c)) x) y) (append_assoc h (c ∷ []) x)

pub desk_more : (s : List ℕ) (S : Session) (cs : List Call) (c : Call) → desk_in s S (more cs c) ≡ choice s (desk_in s S cs) c (reply_in S cs c)
desk_more s S cs c = desk_append s S cs (c ∷ []) [] (opening_desk s)

leaves_more : (cs h : List Call) → leaves more h cs ≡ h ++ cs
leaves_more [] h = sym (append-nil h)
leaves_more (c ∷ cs) h = leaves_more cs (more h c) ∙ append_assoc h (c ∷ []) cs

module _ (s : List ℕ) (S : Session) (k : Kind) where
  -- the paper of a stream after one call more
  pub paper_more : (cs : List Call) (c : Call) → paper_in s S k (more cs c) ≡ step (paper_in s S k cs) (told k (paper_in s S k cs) c (seen_in s S cs c))
  paper_more cs c =
      noted_tells (seen_in s S) more (told k) cs (c ∷ []) [] (blank (opening_size s k))
      ∙ ap (λ (h : List Call). step (paper_in s S k cs) (told k (paper_in s S k cs) c (seen_in s S h c))) (leaves_more cs [])

  -- the events of calls, the first of them apart
  pub events_cons : (h : List Call) (c : Call) (cs : List Call)
      → events_in s S k h (paper_in s S k h) (c ∷ cs) ≡ told k (paper_in s S k h) c (seen_in s S h c) ∷ events_in s S k (more h c) (paper_in s S k (more h c)) cs
  events_cons h c cs = ap (λ (p : Paper). told k (paper_in s S k h) c (seen_in s S h c) ∷ events_in s S k (more h c) p cs) (sym (paper_more h c))

-- an arrival that gives 0 is not refused
not_refused : (r : Arrival) → arrival_number r ≡ 0 → refused_arrival r ≡ false
not_refused (arrivals.Refused why) h = absurd (omega (arith, errno_positive why, h))
not_refused arrivals.Ignored h = refl
not_refused arrivals.Damaged h = refl
not_refused arrivals.Dropped h = refl
not_refused (arrivals.Stored k n) h = refl

module _ (s : List ℕ) (S : Session) (k : Kind) (cs : List Call) (P : Paper) where
  -- what an accepted request tells a stream
  pub told_request : (w : ℕ) (a : List ℕ) → (S.request cs w a).number ≡ 0
      → told k P (request w a) (seen_in s S cs (request w a)) ≡ told_by k P (request_of w).call a (S.request cs w a).argument
  told_request w a h = ap (λ (n : ℕ). cond (eqb n 0) (told_by k P (request_of w).call a (S.request cs w a).argument) idle) h

  -- and an arrival of its type that is not refused
  pub told_arrival : (f : List ℕ) (x y : ℕ) (other : List ℕ) → arrival_number (S.arrival cs (type_of k) f x y other) ≡ 0
      → told k P (arrival (type_of k) f x y other) (seen_in s S cs (arrival (type_of k) f x y other)) ≡ cond P.running (arrival_told k P (desk_in s S cs).services f x y) idle
  told_arrival f x y other h =
      ap₂ (λ (b c : Bool). cond b (cond c idle (cond P.running (arrival_told k P (desk_in s S cs).services f x y) idle)) idle)
      (eq-eqb (type_of k) (type_of k) refl) (not_refused (S.arrival cs (type_of k) f x y other) h)

-- an arrival that no test refuses is answered the rest
pub none_refuses : (cs : List Check) (r : Arrival) → first_number cs ≡ 0 → refused_by cs r ≡ r
none_refuses [] r h = refl
none_refuses (c ∷ cs) r h = go c.holds (none_refuses cs r) h
  where
    go : (x : Bool) → (first_number cs ≡ 0 → refused_by cs r ≡ r) → cond x (errno_of c.why) (first_number cs) ≡ 0 → cond x (arrivals.Refused c.why) (refused_by cs r) ≡ r
    go true on h = absurd (omega (arith, errno_positive c.why, h))
    go false on h = on h

-- which is no refusal
pub arrived_number : (k : Kind) (p : Paper) (services f : List ℕ) (t : Time) → arrival_number (arrived_on k p services f t) ≡ 0
arrived_number k p services f t = go p.running (whole_on k p.size services f t) p.incoming
  where
    go : (x y : Bool) (i : List ℕ) → arrival_number (cond (not x) arrivals.Ignored (cond y (placed_on i (reduced p.run.accepted)) arrivals.Damaged)) ≡ 0
    go false y i = refl
    go true false i = refl
    go true true [] = refl
    go true true (j ∷ i) = refl
