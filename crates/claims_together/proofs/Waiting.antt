-- A stopped stream told from an idle one: of every session whose numbers are those of the table. Assumes nothing.
use mathlib.Core.Path.{◌≡◌, refl, sym, ap, ap₂, ◌∙◌, subst}
use mathlib.Core.Logic.{◌≢◌, ◌⊎◌, inl, inr, ⊎_elim, ⊎_map}
use mathlib.Core.Bool.{Bool, true, false, cond, not, false≢true, true≢false}
use Prim.Native.Nat.{ℕ, ◌<◌}
use native.Mathlib.Omega.{arith}
use borrow.Author.Tests.{eqb-false}
use lib.Dec.{eqb}
use mathlib.Core.List.{List, [], ◌∷◌, ◌++◌, append-nil, append_assoc}
use lib.ListN.{length}
use Rattle.wire_read.specs.Words.{word_at}
use Rattle.ioctl_table.specs.Table.{argument_size, request_of}
use Rattle.ioctl_table.specs.declared.refusals.Refusal.TheVariants.{ArgumentLength, Closed, UnknownWord, WrongType, NoBuffers, NotStreaming, NothingOutgoing}
use Rattle.ioctl_table.specs.declared.table.Call.{Call as Asked}
use Rattle.ioctl_table.specs.declared.table.Call.TheVariants.{Dqbuf, Streamon}
use Rattle.stream_history.specs.Paper.{Paper}
use Rattle.claims.specs.Calls.{Kind, type_of, Call}
use Rattle.claims.specs.Calls.Call.{request}
use Rattle.claims.specs.Machine.{Session, more}
use Rattle.claims.specs.Words.{type_at, paper_in, papers_in}
use Rattle.claims.specs.Table.{Check, check, kind_of, no_stream, wrong_memory, paper_at, first_number, tests}
use Rattle.claims.specs.Demands.{Demand1}
use Rattle.claims_together.specs.Waiting.{Starts, Ends, Grants, Accepted, NoneOf, InForce, RunOn, BuffersExist, StoppedOrIdle}
use Rattle.claims.proofs.Sessions.{every}
use Rattle.claims_together.proofs.InForce.{Not, put_together, now_in_force, still_in_force}
use Rattle.claims_together.proofs.Switched.{Next, turns, call_in, next}

-- ---- a run stays on, or off

module _ (s : List ℕ) (S : Session) (k : Kind) where
  -- one call keeps it on, unless it is an accepted one that ends it
  keeps_on : (h : List Call) (c : Call) → (paper_in s S k h).running ≡ true → Not S k Ends h c → Next s S k h c → (paper_in s S k (more h c)).running ≡ true
  keeps_on h c on none (Next.begins w a q o r g) = r
  keeps_on h c on none (Next.ends w a q o r g) = absurd (none w a q (inl o.0, o.1, o.2))
  keeps_on h c on none (Next.grants w a q o r g) = absurd (none w a q (inr o.0, o.1, o.2))
  keeps_on h c on none (Next.leaves x y r g) = r ∙ on

  -- and off, unless it is an accepted STREAMON
  keeps_off : (h : List Call) (c : Call) → (paper_in s S k h).running ≡ false → Not S k Starts h c → Next s S k h c → (paper_in s S k (more h c)).running ≡ false
  keeps_off h c off none (Next.begins w a q o r g) = absurd (none w a q o)
  keeps_off h c off none (Next.ends w a q o r g) = r
  keeps_off h c off none (Next.grants w a q o r g) = r
  keeps_off h c off none (Next.leaves x y r g) = r ∙ off

  -- so do many
  steady : (on : Bool) (Other : Asked → Type 0)
      → ((h : List Call) (c : Call) → (paper_in s S k h).running ≡ on → Not S k Other h c → Next s S k h c → (paper_in s S k (more h c)).running ≡ on)
      → (cs h : List Call) → (paper_in s S k h).running ≡ on → NoneOf S k Other h cs → (paper_in s S k (h ++ cs)).running ≡ on
  steady on Other keeps [] h e none = ap (λ (l : List Call). (paper_in s S k l).running) (append-nil h) ∙ e
  steady on Other keeps (c ∷ cs) h e none =
      ap (λ (l : List Call). (paper_in s S k l).running) (sym (append_assoc h (c ∷ []) cs))
      ∙ steady on Other keeps cs (more h c)
      (keeps h c e (λ w a q o. none [] w a cs (ap (λ (x : Call). x ∷ cs) q) (subst (λ (l : List Call). Accepted S k Other l w a) (sym (append-nil h)) o)) (next s S k h c))
      (λ x w a y q o. none (c ∷ x) w a y (ap (λ (l : List Call). c ∷ l) q) (subst (λ (l : List Call). Accepted S k Other l w a) (append_assoc h (c ∷ []) x) o))

  -- the call that begins it, and the one that ends it
  turned_on : (h : List Call) (w : ℕ) (a : List ℕ) → Accepted S k Starts h w a → Next s S k h (request w a) → (paper_in s S k (more h (request w a))).running ≡ true
  turned_on h w a o (Next.begins v b q e r g) = r
  turned_on h w a o (Next.ends v b q e r g) = absurd (omega (arith, ap turns (sym o.0 ∙ ap call_in q ∙ e.0)))
  turned_on h w a o (Next.grants v b q e r g) = absurd (omega (arith, ap turns (sym o.0 ∙ ap call_in q ∙ e.0)))
  turned_on h w a o (Next.leaves x y r g) = absurd (x w a refl o)

  turned_off : (h : List Call) (w : ℕ) (a : List ℕ) → Accepted S k Ends h w a → Next s S k h (request w a) → (paper_in s S k (more h (request w a))).running ≡ false
  turned_off h w a o (Next.begins v b q e r g) =
      absurd (⊎_elim (λ x. omega (arith, ap turns (sym x ∙ ap call_in q ∙ e.0))) (λ x. omega (arith, ap turns (sym x ∙ ap call_in q ∙ e.0))) o.0)
  turned_off h w a o (Next.ends v b q e r g) = r
  turned_off h w a o (Next.grants v b q e r g) = r
  turned_off h w a o (Next.leaves x y r g) = absurd (y w a refl o)

  -- so what one call turned it to, it is, while none of the other sort is accepted
  lasts : (on : Bool) (Sort Other : Asked → Type 0)
      → ((h : List Call) (w : ℕ) (a : List ℕ) → Accepted S k Sort h w a → Next s S k h (request w a) → (paper_in s S k (more h (request w a))).running ≡ on)
      → ((h : List Call) (c : Call) → (paper_in s S k h).running ≡ on → Not S k Other h c → Next s S k h c → (paper_in s S k (more h c)).running ≡ on)
      → (cs : List Call) → InForce S k Sort Other cs → (paper_in s S k cs).running ≡ on
  lasts on Sort Other turned keeps cs r =
      let h : List Call = r.front in
      ap (λ (l : List Call). (paper_in s S k l).running) (sym (put_together S k Sort Other cs r))
      ∙ steady on Other keeps r.back (more h (request r.word r.argument)) (turned h r.word r.argument r.accepted (next s S k h (request r.word r.argument))) r.since

  pub is_on : (cs : List Call) → RunOn S k cs → (paper_in s S k cs).running ≡ true
  is_on = lasts true Starts Ends turned_on keeps_on

  pub is_off : (cs : List Call) → InForce S k Ends Starts cs → (paper_in s S k cs).running ≡ false
  is_off = lasts false Ends Starts turned_off keeps_off

  -- ---- a run that is on was begun, and buffers that are there were granted

  begun_by : (cs : List Call) → (paper_in s S k cs).running ≡ true → RunOn S k cs
  begun_by = every (λ (cs : List Call). (paper_in s S k cs).running ≡ true → RunOn S k cs) (λ e. absurd (false≢true e)) (λ h c before on. go h c before on (next s S k h c))
    where
      go : (h : List Call) (c : Call) → ((paper_in s S k h).running ≡ true → RunOn S k h) → (paper_in s S k (more h c)).running ≡ true → Next s S k h c → RunOn S k (more h c)
      go h c before on (Next.begins w a q o r g) = subst (λ (x : Call). RunOn S k (more h x)) (sym q) (now_in_force S k Starts Ends h w a o)
      go h c before on (Next.ends w a q o r g) = absurd (false≢true (sym r ∙ on))
      go h c before on (Next.grants w a q o r g) = absurd (false≢true (sym r ∙ on))
      go h c before on (Next.leaves x y r g) = still_in_force S k Starts Ends h c y (before (sym r ∙ on))

  pub granted_by : (cs : List Call) → 0 < (paper_in s S k cs).granted → BuffersExist S k cs
  unfolding now_in_force still_in_force
  granted_by = every (λ (cs : List Call). 0 < (paper_in s S k cs).granted → BuffersExist S k cs) (λ e. absurd (omega (arith, e))) (λ h c before some. go h c before some (next s S k h c))
    where
      longer : (h : List Call) (c : Call) → Not S k Grants h c → (paper_in s S k (more h c)).granted ≡ (paper_in s S k h).granted → 0 < (paper_in s S k (more h c)).granted
          → (0 < (paper_in s S k h).granted → BuffersExist S k h) → BuffersExist S k (more h c)
      longer h c none g some before =
          let (r, n) = before (subst (λ (n : ℕ). 0 < n) g some) in
          (still_in_force S k Grants Grants h c none r, n)

      -- a call of another sort grants nothing
      other : (h : List Call) (c : Call) (w : ℕ) (a : List ℕ) → c ≡ request w a → turns (request_of w).call < 3 → Not S k Grants h c
      other h c w a q t v b r o = omega (arith, t, ap turns (sym (ap call_in (sym r ∙ q)) ∙ o.0))

      go : (h : List Call) (c : Call) → (0 < (paper_in s S k h).granted → BuffersExist S k h) → 0 < (paper_in s S k (more h c)).granted → Next s S k h c → BuffersExist S k (more h c)
      go h c before some (Next.begins w a q o r g) = longer h c (other h c w a q (omega (arith, ap turns o.0))) g some before
      go h c before some (Next.ends w a q o r g) = longer h c (other h c w a q (omega (arith, ap turns o.0))) g some before
      go h c before some (Next.grants w a q o r g) =
          subst (λ (x : Call). BuffersExist S k (more h x)) (sym q) (now_in_force S k Grants Grants h w a o, subst (λ (n : ℕ). 0 < n) g some)
      go h c before some (Next.leaves x y r g) = longer h c (λ w a q o. y w a q (inr o.0, o.1, o.2)) g some before

-- ---- the numbers

-- a test that would give another number does not hold
pub past : (x : Bool) {n rest k : ℕ} → n ≢ k → cond x n rest ≡ k → (x ≡ false) × (rest ≡ k)
past true other h = absurd (other h)
past false other h = (refl, h)

-- where the rest gives a number, so does a test more that gives the same
same_number : (x : Bool) {n rest : ℕ} → rest ≡ n → cond x n rest ≡ n
same_number true e = refl
same_number false e = e

pub not_false : (x : Bool) → not x ≡ false → x ≡ true
not_false true e = refl
not_false false e = absurd (true≢false e)

-- the type of a stream names it
pub names : (k : Kind) (n : ℕ) → n ≡ type_of k → (kind_of n ≡ k) × (no_stream n ≡ false)
names k n e = (ap kind_of e ∙ (go k).0, ap no_stream e ∙ (go k).1)
  where
    go : (k : Kind) → (kind_of (type_of k) ≡ k) × (no_stream (type_of k) ≡ false)
    go Kind.pictures = (refl, refl)
    go Kind.captions = (refl, refl)

-- the own tests of a DQBUF, whether its type is wrong and the paper that it names being these
abbrev dequeue_tests : List ℕ → Bool → Paper → List Check
dequeue_tests a x p =
    check x WrongType ∷ wrong_memory a 48 ∷ check (eqb p.granted 0) NoBuffers ∷ check (not p.running) NotStreaming ∷ check (eqb (length p.outgoing) 0) NothingOutgoing ∷ []

module _ (s : List ℕ) (m : Kind → List ℕ) (k : Kind) (S : Session) (d : Demand1 s m S) where
  -- a request by its call
  pub by_call : (cs : List Call) (w : ℕ) (a : List ℕ) (c : Asked) → (request_of w).call ≡ c
      → (S.request cs w a).number
      ≡ first_number (check (not (eqb S.opening 0)) Closed ∷ check (eqb (argument_size c) 0) UnknownWord ∷ check (not (eqb (length a) (argument_size c))) ArgumentLength ∷ tests c s (papers_in s S cs) a)
  unfolding request_of
  by_call cs w a c e =
      d.requests cs w a
      ∙ ap (λ (x : Asked). first_number (check (not (eqb S.opening 0)) Closed ∷ check (eqb (argument_size x) 0) UnknownWord ∷ check (not (eqb (length a) (argument_size x))) ArgumentLength ∷ tests x s (papers_in s S cs) a)) e

  -- the paper that an argument names is that of the stream
  pub paper_at_law : (cs : List Call) (a : List ℕ) (at : ℕ) → word_at a at ≡ type_of k → paper_at (papers_in s S cs) a at ≡ paper_in s S k cs
  paper_at_law cs a at n = ap (papers_in s S cs) (names k (word_at a at) n).0

  -- a DQBUF that names the stream, by its paper
  by_dequeue : (cs : List Call) (w : ℕ) (a : List ℕ) → (request_of w).call ≡ Dqbuf → word_at a 4 ≡ type_of k
      → (S.request cs w a).number ≡ first_number (check (not (eqb S.opening 0)) Closed ∷ check (not (eqb (length a) 68)) ArgumentLength ∷ dequeue_tests a false (paper_in s S k cs))
  by_dequeue cs w a e kind =
      by_call cs w a Dqbuf e
      ∙ ap₂ (λ (x : Bool) (p : Paper). first_number (check (not (eqb S.opening 0)) Closed ∷ check (not (eqb (length a) 68)) ArgumentLength ∷ dequeue_tests a x p))
      (names k (word_at a 4) kind).1 (paper_at_law cs a 4 kind)

  -- In a run there are buffers, and the device is open.
  record Running (cs : List Call) : Type 0 where
    ready : not (eqb S.opening 0) ≡ false
    some : eqb (paper_in s S k cs).granted 0 ≡ false

  in_a_run : (cs : List Call) → (paper_in s S k cs).running ≡ true → Running cs
  in_a_run = every (λ (cs : List Call). (paper_in s S k cs).running ≡ true → Running cs) (λ e. absurd (false≢true e)) (λ h c before on. go h c before on (next s S k h c))
    where
      same : (h : List Call) (c : Call) → (paper_in s S k (more h c)).granted ≡ (paper_in s S k h).granted → Running h → Running (more h c)
      same h c e r = record { ready = r.ready; some = ap (λ (n : ℕ). eqb n 0) e ∙ r.some }

      -- a STREAMON is accepted only so
      start : (h : List Call) (w : ℕ) (a : List ℕ) → Accepted S k Starts h w a → Running h
      start h w a (o, n, z) =
          let here = paper_at_law h a 0 (subst (λ (c : Asked). word_at a (type_at c) ≡ type_of k) o n) in
          let (ready, e1) = past (not (eqb S.opening 0)) (λ n. omega (arith, n)) (sym (by_call h w a Streamon o) ∙ z) in
          let (long, e2) = past (not (eqb (length a) 4)) (λ n. omega (arith, n)) e1 in
          let (kind, e3) = past (no_stream (word_at a 0)) (λ n. omega (arith, n)) e2 in
          let (some, e4) = past (eqb (paper_at (papers_in s S h) a 0).granted 0) (λ n. omega (arith, n)) e3 in
          record { ready = ready; some = ap (λ (p : Paper). eqb p.granted 0) (sym here) ∙ some }

      go : (h : List Call) (c : Call) → ((paper_in s S k h).running ≡ true → Running h) → (paper_in s S k (more h c)).running ≡ true → Next s S k h c → Running (more h c)
      go h c before on (Next.begins w a q o r g) = same h c g (start h w a o)
      go h c before on (Next.ends w a q o r g) = absurd (false≢true (sym r ∙ on))
      go h c before on (Next.grants w a q o r g) = absurd (false≢true (sym r ∙ on))
      go h c before on (Next.leaves x y r g) = same h c g (before (sym r ∙ on))

  waits : (cs : List Call) (w : ℕ) (a : List ℕ) → (request_of w).call ≡ Dqbuf → word_at a 4 ≡ type_of k → (S.request cs w a).number ≡ 11 → RunOn S k cs × BuffersExist S k cs
  waits cs w a e kind h =
      let p : Paper = paper_in s S k cs in
      let (ready, e1) = past (not (eqb S.opening 0)) (λ n. omega (arith, n)) (sym (by_dequeue cs w a e kind) ∙ h) in
      let (long, e2) = past (not (eqb (length a) 68)) (λ n. omega (arith, n)) e1 in
      let (memory, e3) = past (not (eqb (word_at a 48) 1)) (λ n. omega (arith, n)) e2 in
      let (some, e4) = past (eqb p.granted 0) (λ n. omega (arith, n)) e3 in
      let (on, e5) = past (not p.running) (λ n. omega (arith, n)) e4 in
      (begun_by s S k cs (not_false p.running on), granted_by s S k cs (positive p.granted some))
    where
      positive : (n : ℕ) → eqb n 0 ≡ false → 0 < n
      positive n e = let z = eqb-false n 0 e in omega (arith, z)

  -- outside a run
  gives_22 : (cs : List Call) (w : ℕ) (a : List ℕ) → (paper_in s S k cs).running ≡ false → (request_of w).call ≡ Dqbuf → length a ≡ 68 → word_at a 4 ≡ type_of k → (S.request cs w a).number ≡ 22
  gives_22 cs w a off e long kind =
      by_dequeue cs w a e kind
      ∙ rw (long, off) (same_number (not (eqb S.opening 0)) (same_number (not (eqb (word_at a 48) 1)) (same_number (eqb (paper_in s S k cs).granted 0) refl)))

  -- in one, with nothing wrong in the argument
  gives_0_or_11 : (cs : List Call) (w : ℕ) (a : List ℕ) → RunOn S k cs → (request_of w).call ≡ Dqbuf → length a ≡ 68 → word_at a 4 ≡ type_of k → word_at a 48 ≡ 1
      → ((S.request cs w a).number ≡ 0) ⊎ ((S.request cs w a).number ≡ 11)
  gives_0_or_11 cs w a run e long kind memory =
      ⊎_map (λ n. is ∙ n) (λ n. is ∙ n) (go (eqb (length p.outgoing) 0))
    where
      p : Paper
      p = paper_in s S k cs

      on : p.running ≡ true
      on = is_on s S k cs run

      is : (S.request cs w a).number ≡ cond (eqb (length p.outgoing) 0) 11 0
      is = by_dequeue cs w a e kind ∙ rw ((in_a_run cs on).ready, long, memory, (in_a_run cs on).some, on) refl

      go : (x : Bool) → (cond {A = ℕ} x 11 0 ≡ 0) ⊎ (cond {A = ℕ} x 11 0 ≡ 11)
      go true = inr refl
      go false = inl refl

  pub stopped_or_idle : StoppedOrIdle S k
  stopped_or_idle = record {
    soon = waits;
    stopped = λ cs w a r e long kind. gives_22 cs w a (is_off s S k cs r) e long kind;
    exactly = λ cs w a e long kind memory. (
      λ h run. ⊎_elim (λ n. omega (arith, n, h)) (λ n. omega (arith, n, h)) (gives_0_or_11 cs w a run e long kind memory),
      λ none. gives_22 cs w a (off cs none (paper_in s S k cs).running refl) e long kind,
    );
    running = gives_0_or_11;
  }
    where
      off : (cs : List Call) → (RunOn S k cs → ⊥) → (x : Bool) → (paper_in s S k cs).running ≡ x → (paper_in s S k cs).running ≡ false
      off cs none true e = absurd (none (begun_by s S k cs e))
      off cs none false e = e
