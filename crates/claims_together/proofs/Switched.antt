-- What each call does to a run and to the buffers of a stream, on paper. Assumes nothing.
use mathlib.Core.Path.{◌≡◌, refl, sym, ap, ap₂, ◌∙◌, subst}
use mathlib.Core.Logic.{⊎_elim}
use mathlib.Core.Bool.{Bool, true, false, cond}
use Prim.Native.Nat.{ℕ, ◌<◌}
use native.Mathlib.Omega.{arith}
use borrow.Author.Tests.{eqb-true, eqb-false}
use lib.Dec.{eqb}
use mathlib.Core.List.{List}
use Rattle.wire_read.specs.Words.{word_at}
use Rattle.ioctl_table.specs.Table.{request_of}
use Rattle.ioctl_table.specs.declared.table.Call.{Call as Asked}
use Rattle.ioctl_table.specs.declared.table.Call.TheVariants.{Unknown, Querycap, EnumFmt, GFmt, SFmt, TryFmt, Reqbufs, Querybuf, Qbuf, Dqbuf, Streamon, Streamoff, GCtrl, SCtrl, Queryctrl, Cropcap, GCrop, SCrop, GSlicedVbiCap}
use Rattle.stream_slots.specs.Slot.{buffer_at}
use Rattle.stream_maps.specs.declared.Change.{Change}
use Rattle.stream_history.specs.Paper.{Paper, step, refused_arrival}
use Rattle.stream_history.specs.Paper.Event.{whole, damaged, begun, changed, idle}
use Rattle.claims.specs.Calls.{Kind, type_of, Call, arrival_time}
use Rattle.claims.specs.Calls.Call.{request, arrival, change}
use Rattle.claims.specs.Machine.{Session, more}
use Rattle.claims.specs.Words.{type_at, request_told, paper_in}
use Rattle.claims.specs.Table.{whole_on}
use Rattle.claims.specs.Desk.{desk_in}
use Rattle.claims_together.specs.Waiting.{Starts, Ends, Grants, Accepted}
use Rattle.claims.proofs.Sessions.{paper_more}
use Rattle.claims_together.proofs.InForce.{Not}

-- ---- an accepted request

-- What it does, from one paper to the next; a buffer request was answered with n.
data Turn (c : Asked) (p q : Paper) (n : ℕ) : Type 0 where
  starts : c ≡ Streamon → q.running ≡ true → q.granted ≡ p.granted → Turn c p q n
  stops : c ≡ Streamoff → q.running ≡ false → q.granted ≡ p.granted → Turn c p q n
  asks : c ≡ Reqbufs → q.running ≡ false → q.granted ≡ n → Turn c p q n
  neither : (Starts c → ⊥) → (Ends c → ⊥) → q.running ≡ p.running → q.granted ≡ p.granted → Turn c p q n

-- the three calls, told apart from the others and from each other
abbrev pub turns : Asked → ℕ
turns Unknown = 0
turns Querycap = 0
turns EnumFmt = 0
turns GFmt = 0
turns SFmt = 0
turns TryFmt = 0
turns Reqbufs = 3
turns Querybuf = 0
turns Qbuf = 0
turns Dqbuf = 0
turns Streamon = 1
turns Streamoff = 2
turns GCtrl = 0
turns SCtrl = 0
turns Queryctrl = 0
turns Cropcap = 0
turns GCrop = 0
turns SCrop = 0
turns GSlicedVbiCap = 0

-- none of the three
quiet : (c : Asked) (p q : Paper) (n : ℕ) → turns c ≡ 0 → q.running ≡ p.running → q.granted ≡ p.granted → Turn c p q n
quiet c p q n k r g = neither (other Streamon (omega arith)) (⊎_elim (other Streamoff (omega arith)) (other Reqbufs (omega arith))) r g
  where
    other : (d : Asked) → 0 < turns d → c ≡ d → ⊥
    other d t e = omega (arith, t, k, ap turns e)

-- a STREAMON, in a run or not
started : (p : Paper) (n : ℕ) (on : Bool) → p.running ≡ on → Turn Streamon p (step p (cond on idle begun)) n
started p n true e = starts refl e refl
started p n false e = starts refl refl refl

turn : (k : Kind) (c : Asked) (p : Paper) (a b : List ℕ) → Turn c p (step p (request_told k p c a b)) (word_at b 0)
turn k Unknown p a b = quiet Unknown p (step p (request_told k p Unknown a b)) (word_at b 0) refl refl refl
turn k Querycap p a b = quiet Querycap p (step p (request_told k p Querycap a b)) (word_at b 0) refl refl refl
turn k EnumFmt p a b = quiet EnumFmt p (step p (request_told k p EnumFmt a b)) (word_at b 0) refl refl refl
turn k GFmt p a b = quiet GFmt p (step p (request_told k p GFmt a b)) (word_at b 0) refl refl refl
turn k SFmt p a b = quiet SFmt p (step p (request_told k p SFmt a b)) (word_at b 0) refl refl refl
turn k TryFmt p a b = quiet TryFmt p (step p (request_told k p TryFmt a b)) (word_at b 0) refl refl refl
turn k Reqbufs p a b = asks refl refl refl
turn k Querybuf p a b = quiet Querybuf p (step p (request_told k p Querybuf a b)) (word_at b 0) refl refl refl
turn k Qbuf p a b = quiet Qbuf p (step p (request_told k p Qbuf a b)) (word_at b 0) refl refl refl
turn k Dqbuf p a b = quiet Dqbuf p (step p (request_told k p Dqbuf a b)) (word_at b 0) refl refl refl
turn k Streamon p a b = started p (word_at b 0) p.running refl
turn k Streamoff p a b = stops refl refl refl
turn k GCtrl p a b = quiet GCtrl p (step p (request_told k p GCtrl a b)) (word_at b 0) refl refl refl
turn k SCtrl p a b = quiet SCtrl p (step p (request_told k p SCtrl a b)) (word_at b 0) refl refl refl
turn k Queryctrl p a b = quiet Queryctrl p (step p (request_told k p Queryctrl a b)) (word_at b 0) refl refl refl
turn k Cropcap p a b = quiet Cropcap p (step p (request_told k p Cropcap a b)) (word_at b 0) refl refl refl
turn k GCrop p a b = quiet GCrop p (step p (request_told k p GCrop a b)) (word_at b 0) refl refl refl
turn k SCrop p a b = quiet SCrop p (step p (request_told k p SCrop a b)) (word_at b 0) refl refl refl
turn k GSlicedVbiCap p a b = quiet GSlicedVbiCap p (step p (request_told k p GSlicedVbiCap a b)) (word_at b 0) refl refl refl

-- ---- any call

-- which request a call makes
abbrev pub call_in : Call → Asked
call_in (request w a) = (request_of w).call
call_in (arrival t f x y other) = Unknown
call_in (change c t o l) = Unknown

-- a stop
abbrev pub Stops : Asked → Type 0
Stops c = c ≡ Streamoff

-- What a call does to a stream, after those of h.
pub data Next (s : List ℕ) (S : Session) (k : Kind) (h : List Call) (c : Call) : Type 0 where
  begins : (w : ℕ) (a : List ℕ) → c ≡ request w a → Accepted S k Starts h w a → (paper_in s S k (more h c)).running ≡ true
      → (paper_in s S k (more h c)).granted ≡ (paper_in s S k h).granted → Next s S k h c
  ends : (w : ℕ) (a : List ℕ) → c ≡ request w a → Accepted S k Stops h w a → (paper_in s S k (more h c)).running ≡ false
      → (paper_in s S k (more h c)).granted ≡ (paper_in s S k h).granted → Next s S k h c
  grants : (w : ℕ) (a : List ℕ) → c ≡ request w a → Accepted S k Grants h w a → (paper_in s S k (more h c)).running ≡ false
      → (paper_in s S k (more h c)).granted ≡ word_at (S.request h w a).argument 0 → Next s S k h c
  leaves : Not S k Starts h c → Not S k Ends h c → (paper_in s S k (more h c)).running ≡ (paper_in s S k h).running
      → (paper_in s S k (more h c)).granted ≡ (paper_in s S k h).granted → Next s S k h c

module _ (s : List ℕ) (S : Session) (k : Kind) (h : List Call) where
  -- a call that is an accepted one of this sort on the stream
  abbrev IsOne : (Asked → Type 0) → Call → Type 0
  IsOne Sort (request w a) = Accepted S k Sort h w a
  IsOne Sort (arrival t f x y other) = ⊥
  IsOne Sort (change c t o l) = ⊥

  is_not : (Sort : Asked → Type 0) (c : Call) → (IsOne Sort c → ⊥) → Not S k Sort h c
  is_not Sort c none w a q o = none (subst (IsOne Sort) (sym q) o)

  accepted : (w : ℕ) (a : List ℕ) → word_at a (type_at (request_of w).call) ≡ type_of k → (S.request h w a).number ≡ 0
      → Turn (request_of w).call (paper_in s S k h) (paper_in s S k (more h (request w a))) (word_at (S.request h w a).argument 0) → Next s S k h (request w a)
  accepted w a n z (starts e r g) = begins w a refl (e, n, z) r g
  accepted w a n z (stops e r g) = ends w a refl (e, n, z) r g
  accepted w a n z (asks e r g) = grants w a refl (e, n, z) r g
  accepted w a n z (neither x y r g) = leaves (is_not Starts (request w a) (λ o. x o.0)) (is_not Ends (request w a) (λ o. y o.0)) r g

  -- one that is refused, or names another stream
  unheard : (w : ℕ) (a : List ℕ) → ((Sort : Asked → Type 0) → Accepted S k Sort h w a → ⊥) → paper_in s S k (more h (request w a)) ≡ paper_in s S k h
      → Next s S k h (request w a)
  unheard w a none same =
      leaves (is_not Starts (request w a) (none Starts)) (is_not Ends (request w a) (none Ends)) (ap (λ (q : Paper). q.running) same) (ap (λ (q : Paper). q.granted) same)

  asked : (w : ℕ) (a : List ℕ) (x y : Bool) → eqb (S.request h w a).number 0 ≡ x → eqb (word_at a (type_at (request_of w).call)) (type_of k) ≡ y → Next s S k h (request w a)
  asked w a x y e n = go x y e n (paper_more s S k h (request w a) ∙ ap₂ after e n)
    where
      after : Bool → Bool → Paper
      after u v = step (paper_in s S k h) (cond u (cond v (request_told k (paper_in s S k h) (request_of w).call a (S.request h w a).argument) idle) idle)

      go : (x y : Bool) → eqb (S.request h w a).number 0 ≡ x → eqb (word_at a (type_at (request_of w).call)) (type_of k) ≡ y → paper_in s S k (more h (request w a)) ≡ after x y
          → Next s S k h (request w a)
      go true true e n to =
          accepted w a (eqb-true (word_at a (type_at (request_of w).call)) (type_of k) n) (eqb-true (S.request h w a).number 0 e)
          (subst (λ (q : Paper). Turn (request_of w).call (paper_in s S k h) q (word_at (S.request h w a).argument 0)) (sym to)
          (turn k (request_of w).call (paper_in s S k h) a (S.request h w a).argument))
      go true false e n to = unheard w a (λ Sort o. eqb-false (word_at a (type_at (request_of w).call)) (type_of k) n o.1) to
      go false y e n to = unheard w a (λ Sort o. eqb-false (S.request h w a).number 0 e o.2) to

  arrived : (t : ℕ) (f : List ℕ) (x y : ℕ) (other : List ℕ) → Next s S k h (arrival t f x y other)
  arrived t f x y other =
      let told = paper_more s S k h (arrival t f x y other) in
      let (r, g) = go (eqb t (type_of k)) (refused_arrival (S.arrival h t f x y other)) (paper_in s S k h).running (whole_on k (paper_in s S k h).size (desk_in s S h).services f (arrival_time x y)) in
      leaves (is_not Starts (arrival t f x y other) (λ o. o)) (is_not Ends (arrival t f x y other) (λ o. o)) (ap (λ (q : Paper). q.running) told ∙ r) (ap (λ (q : Paper). q.granted) told ∙ g)
    where
      after : Bool → Bool → Bool → Bool → Paper
      after o u v z = step (paper_in s S k h) (cond o (cond u idle (cond v (cond z (whole f (arrival_time x y)) damaged) idle)) idle)

      go : (o u v z : Bool) → ((after o u v z).running ≡ (paper_in s S k h).running) × ((after o u v z).granted ≡ (paper_in s S k h).granted)
      go false u v z = (refl, refl)
      go true true v z = (refl, refl)
      go true false true true = (refl, refl)
      go true false true false = (refl, refl)
      go true false false z = (refl, refl)

  turned : (c : Change) (t o l : ℕ) → Next s S k h (change c t o l)
  turned c t o l =
      let told = paper_more s S k h (change c t o l) in
      let (r, g) = go (eqb (S.change h c t o l) 0) (eqb t (type_of k)) in
      leaves (is_not Starts (change c t o l) (λ o. o)) (is_not Ends (change c t o l) (λ o. o)) (ap (λ (q : Paper). q.running) told ∙ r) (ap (λ (q : Paper). q.granted) told ∙ g)
    where
      after : Bool → Bool → Paper
      after u v = step (paper_in s S k h) (cond u (cond v (changed c (buffer_at (paper_in s S k h).size o)) idle) idle)

      go : (u v : Bool) → ((after u v).running ≡ (paper_in s S k h).running) × ((after u v).granted ≡ (paper_in s S k h).granted)
      go false v = (refl, refl)
      go true true = (refl, refl)
      go true false = (refl, refl)

  pub next : (c : Call) → Next s S k h c
  next (request w a) = asked w a (eqb (S.request h w a).number 0) (eqb (word_at a (type_at (request_of w).call)) (type_of k)) refl refl
  next (arrival t f x y other) = arrived t f x y other
  next (change c t o l) = turned c t o l
