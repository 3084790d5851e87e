-- Maps and unmaps that were accepted, place by place, against the paper's counts.
use mathlib.Core.Path.{◌≡◌, refl, sym, ap, ap₂, ◌∙◌, subst}
use mathlib.Core.Logic.{⊎_elim}
use mathlib.Core.Bool.{Bool, true, false, cond, not, ◌&&◌, true≢false, false≢true}
use Prim.Native.Nat.{ℕ, ◌+◌, ◌*◌, ◌%◌, ◌≤◌, ◌<◌}
use native.Mathlib.Omega.{arith}
use native.Mathlib.Nat.{add-zero}
use borrow.Author.Tests.{eqb-true, eq-eqb, leb-true, leb-false, le-leb, lt-leb}
use lib.Dec.{eqb, leb}
use mathlib.Core.List.{List, [], ◌∷◌, ◌++◌, append-nil, append_assoc}
use lib.ListN.{length}
use Rattle.wire_read.specs.Words.{word_at}
use Rattle.ioctl_table.specs.Table.{request_of, argument_size}
use Rattle.ioctl_table.specs.declared.table.Call.{Call as Asked}
use Rattle.ioctl_table.specs.declared.table.Call.TheVariants.{Unknown, Querycap, EnumFmt, GFmt, SFmt, TryFmt, Reqbufs, Querybuf, Qbuf, Dqbuf, Streamon, Streamoff, GCtrl, SCtrl, Queryctrl, Cropcap, GCrop, SCrop, GSlicedVbiCap}
use Rattle.stream_slots.specs.Slot.{slot_size, slot_offset, is_slot, buffer_at}
use Rattle.stream_slots.proofs.At.{slot_is, slot_of, buffer_of_law}
use Rattle.stream_slots.proofs.Slots.{slots_apart}
use Rattle.stream_words.specs.declared.Filled.{Filled}
use Rattle.stream_words.specs.declared.Standing.{Standing}
use Rattle.stream_words.specs.declared.Standing.TheVariants.{Dequeued, Incoming, Outgoing}
use Rattle.stream_words.specs.Moves.{standing_of}
use Rattle.stream_maps.specs.declared.Change.{Change}
use Rattle.stream_maps.specs.declared.Change.TheVariants.{Map, Unmap}
use Rattle.stream_maps.specs.Maps.{maps_of, is_mapped, any_mapped, moved}
use Rattle.stream_maps.proofs.Counts.{none_mapped, some_mapped, mapped_one}
use Rattle.stream_status.specs.declared.Status.{Status}
use Rattle.stream_status.specs.Buffer.{flags_of, described_of, returned_of}
use Rattle.buffer_replies.specs.Replies.{buffer_reply}
use Rattle.buffer_replies.proofs.Lengths.{buffer_flags, buffer_offset, buffer_slot}
use Rattle.stream_history.specs.Paper.{Pair, Paper, Event, blank, refused_arrival, same_sort, step}
use Rattle.stream_history.specs.Paper.Event.{put, whole, damaged, handed, begun, ended, sized, changed, idle}
use Rattle.stream_history.proofs.Lists.{All}
use Rattle.device_opening.specs.Opening.{longest_memory}
use Rattle.stream_history.proofs.Sound.{Sound, Fits, line_of}
use Rattle.stream_history.proofs.Tallies.{tally_one, opening_tally}
use Rattle.claims.specs.Calls.{Kind, type_of, Call, arrival_time}
use Rattle.claims.specs.Calls.Call.{request, arrival, change}
use Rattle.claims.specs.Machine.{Session, more}
use Rattle.claims.specs.Words.{type_at, request_told, told, seen_in, opening_size, paper_in, papers_in}
use Rattle.claims.specs.Desk.{desk_in}
use Rattle.claims.specs.Table.{kind_of, no_stream, paper_at, whole_on}
use Rattle.claims.specs.Answers.{queues_on, status_on, first_on, answer_on}
use Rattle.claims.specs.Demands.{Demand1, Answers}
use Rattle.claims.proofs.Sessions.{paper_more, every}
use Rattle.claims.proofs.Papers.{Papered}
use Rattle.claims_together.specs.Mapped.{is_one, accepted_from, accepted, TellsBuffer, MapsKept}
use Rattle.claims_together.proofs.Waiting.{past, not_false, by_call, paper_at_law, names}

-- ---- tests

and_false : (a : Bool) → (a && false) ≡ false
and_false true = refl
and_false false = refl

and_true : (a : Bool) → (a && true) ≡ a
and_true true = refl
and_true false = refl

both : (a b : Bool) → (a && b) ≡ true → (a ≡ true) × (b ≡ true)
both true b h = (refl, h)
both false b h = absurd (false≢true h)

-- two tests that hold together
alike : (a b : Bool) → (a ≡ true → b ≡ true) → (b ≡ true → a ≡ true) → a ≡ b
alike true b f g = sym (f refl)
alike false true f g = g refl
alike false false f g = refl

-- ---- a place, by the paper

-- how often it is mapped
abbrev value : Paper → ℕ → ℕ → ℕ
value p o l = cond (is_slot 32 p.size o l) (maps_of p.maps (buffer_at p.size o)) 0

-- whether an event is a change of this sort at the place
abbrev one_at : Change → Paper → ℕ → ℕ → Event → ℕ
one_at c p o l (put k) = 0
one_at c p o l (whole b t) = 0
one_at c p o l damaged = 0
one_at c p o l handed = 0
one_at c p o l begun = 0
one_at c p o l (ended n) = 0
one_at c p o l (sized n) = 0
one_at c p o l (changed d j) = cond (same_sort c d && (is_slot 32 p.size o l && eqb j (buffer_at p.size o))) 1 0
one_at c p o l idle = 0

either_zero : (b : Bool) (n : ℕ) → n ≡ 0 → cond b n 0 ≡ 0
either_zero true n e = e
either_zero false n e = refl

-- an event that a stream can make
module _ (p : Paper) (o l : ℕ) (s : Sound p) where
  changed_value : (d : Change) (j : ℕ) → Fits p (changed d j) → value (step p (changed d j)) o l + one_at Unmap p o l (changed d j) ≡ value p o l + one_at Map p o l (changed d j)
  changed_value d j f = by (is_slot 32 p.size o l)
    where
      k : ℕ
      k = buffer_at p.size o

      by : (b : Bool) → cond b (maps_of (moved d p.maps j) (buffer_at p.size o)) 0 + cond (same_sort Unmap d && (b && eqb j (buffer_at p.size o))) 1 0
          ≡ cond b (maps_of p.maps (buffer_at p.size o)) 0 + cond (same_sort Map d && (b && eqb j (buffer_at p.size o))) 1 0
      by true = tally_one d p.maps j k (omega (arith, f.0, s.few, s.maps.long)) f.1
      by false = rw (and_false (same_sort Unmap d), and_false (same_sort Map d))

  step_value : (e : Event) → Fits p e → value (step p e) o l + one_at Unmap p o l e ≡ value p o l + one_at Map p o l e
  step_value (put k) f = refl
  step_value (whole b t) f = refl
  step_value damaged f = refl
  step_value handed f = refl
  step_value begun f = refl
  step_value (ended n) f = refl
  step_value (sized n) f =
      let none : (k : ℕ) → maps_of p.maps k ≡ 0 = λ k. s.maps.spare k (omega (arith, f)) in
      rw (either_zero (is_slot 32 n o l) _ (none (buffer_at n o)), either_zero (is_slot 32 p.size o l) _ (none (buffer_at p.size o)))
  step_value (changed d j) f = changed_value d j f
  step_value idle f = refl

-- no request is one
quiet_request : (k : Kind) (c : Change) (p : Paper) (o l : ℕ) (call : Asked) (a b : List ℕ) → one_at c p o l (request_told k p call a b) ≡ 0
quiet_request k c p o l Unknown a b = refl
quiet_request k c p o l Querycap a b = refl
quiet_request k c p o l EnumFmt a b = refl
quiet_request k c p o l GFmt a b = refl
quiet_request k c p o l SFmt a b = refl
quiet_request k c p o l TryFmt a b = refl
quiet_request k c p o l Reqbufs a b = refl
quiet_request k c p o l Querybuf a b = refl
quiet_request k c p o l Qbuf a b = refl
quiet_request k c p o l Dqbuf a b = refl
quiet_request k c p o l Streamon a b = elim p.running as (λ x. one_at c p o l (cond x idle begun) ≡ 0) [ true ↦ refl | false ↦ refl ]
quiet_request k c p o l Streamoff a b = refl
quiet_request k c p o l GCtrl a b = refl
quiet_request k c p o l SCtrl a b = refl
quiet_request k c p o l Queryctrl a b = refl
quiet_request k c p o l Cropcap a b = refl
quiet_request k c p o l GCrop a b = refl
quiet_request k c p o l SCrop a b = refl
quiet_request k c p o l GSlicedVbiCap a b = refl

-- two places that mean the same buffer are the same
same_place : (n size : ℕ) → n ≤ 32 → (u v o l : ℕ) → is_slot n size u v ≡ true → (eqb u o && eqb v l) ≡ (is_slot 32 size o l && eqb (buffer_at size u) (buffer_at size o))
same_place n size few u v o l h = alike (eqb u o && eqb v l) (is_slot 32 size o l && eqb (buffer_at size u) (buffer_at size o)) to from
  where
    is : (0 < slot_size size) × (v ≡ slot_size size) × (u ≡ slot_offset (buffer_at size u) size) × (buffer_at size u < n)
    is = slot_is n size u v h

    wide : is_slot 32 size u v ≡ true
    wide = subst (λ (x : ℕ). is_slot 32 size x v ≡ true) (sym is.2) (subst (λ (x : ℕ). is_slot 32 size (slot_offset (buffer_at size u) size) x ≡ true) (sym is.1) (slot_of 32 size (buffer_at size u) (omega (arith, is.3)) is.0))

    to : (eqb u o && eqb v l) ≡ true → (is_slot 32 size o l && eqb (buffer_at size u) (buffer_at size o)) ≡ true
    to e =
        let (a, b) = both (eqb u o) (eqb v l) e in
        subst (λ (x : ℕ). (is_slot 32 size x l && eqb (buffer_at size u) (buffer_at size x)) ≡ true) (eqb-true u o a)
        (subst (λ (x : ℕ). (is_slot 32 size u x && eqb (buffer_at size u) (buffer_at size u)) ≡ true) (eqb-true v l b) (rw (wide, eq-eqb (buffer_at size u) (buffer_at size u) refl)))

    from : (is_slot 32 size o l && eqb (buffer_at size u) (buffer_at size o)) ≡ true → (eqb u o && eqb v l) ≡ true
    from e =
        let (a, b) = both (is_slot 32 size o l) (eqb (buffer_at size u) (buffer_at size o)) e in
        let that = slot_is 32 size o l a in
        rw (
          eq-eqb u o (is.2 ∙ ap (λ (k : ℕ). slot_offset k size) (eqb-true (buffer_at size u) (buffer_at size o) b) ∙ sym that.2),
          eq-eqb v l (is.1 ∙ sym that.1),
        )

-- ---- the calls

pub accepted_more : (S : Session) (k : Kind) (c : Change) (o l : ℕ) (cs h : List Call) (x : Call)
    → accepted_from S k c o l h (more cs x) ≡ accepted_from S k c o l h cs + cond (is_one S k c o l (h ++ cs) x) 1 0
accepted_more S k c o l [] h x = ap (λ (z : List Call). cond (is_one S k c o l z x) 1 0 + 0) (sym (append-nil h)) ∙ swap (cond (is_one S k c o l (h ++ []) x) 1 0)
  where
    swap : (n : ℕ) → n + 0 ≡ 0 + n
    swap n = omega arith
accepted_more S k c o l (y ∷ cs) h x =
    ap (λ (n : ℕ). cond (is_one S k c o l h y) 1 0 + n) (accepted_more S k c o l cs (more h y) x ∙ ap (λ (z : List Call). accepted_from S k c o l (more h y) cs + cond (is_one S k c o l z x) 1 0) (append_assoc h (y ∷ []) cs))
    ∙ group (cond (is_one S k c o l h y) 1 0) (accepted_from S k c o l (more h y) cs) (cond (is_one S k c o l (h ++ y ∷ cs) x) 1 0)
  where
    group : (a b c : ℕ) → a + (b + c) ≡ a + b + c
    group a b c = omega arith

module _ (s : List ℕ) (m : Kind → List ℕ) (S : Session) (k : Kind) (d : Demand1 s m S) (q : Papered s S k) where
  -- an accepted change of the stream is one of a granted buffer
  change_passed : (cs : List Call) (c : Change) (o l : ℕ) → S.change cs c (type_of k) o l ≡ 0
      → is_slot (paper_in s S k cs).granted (paper_in s S k cs).size o l ≡ true
  change_passed cs c o l h =
      let (x, a) = past (not (eqb S.opening 0)) (λ e. omega (arith, e)) (sym (d.changes cs c (type_of k) o l) ∙ h) in
      let (y, b) = past (no_stream (type_of k)) (λ e. omega (arith, e)) a in
      let (z, e) = past (not (is_slot (papers_in s S cs (kind_of (type_of k))).granted (papers_in s S cs (kind_of (type_of k))).size o l)) (λ e. omega (arith, e)) b in
      subst (λ (j : Kind). is_slot (papers_in s S cs j).granted (papers_in s S cs j).size o l ≡ true) (names k (type_of k) refl).0
      (not_false (is_slot (papers_in s S cs (kind_of (type_of k))).granted (papers_in s S cs (kind_of (type_of k))).size o l) z)

  -- a call is an accepted change of a place exactly where its event is
  one_told : (c : Change) (o l : ℕ) (cs : List Call) (x : Call) → cond (is_one S k c o l cs x) 1 0 ≡ one_at c (paper_in s S k cs) o l (told k (paper_in s S k cs) x (seen_in s S cs x))
  one_told c o l cs (request w a) = sym (by (eqb (S.request cs w a).number 0) (eqb (word_at a (type_at (request_of w).call)) (type_of k)))
    where
      by : (x y : Bool) → one_at c (paper_in s S k cs) o l (cond x (cond y (request_told k (paper_in s S k cs) (request_of w).call a (S.request cs w a).argument) idle) idle) ≡ 0
      by true true = quiet_request k c (paper_in s S k cs) o l (request_of w).call a (S.request cs w a).argument
      by true false = refl
      by false y = refl
  one_told c o l cs (arrival t f x y other) =
      sym (by (eqb t (type_of k)) (refused_arrival (S.arrival cs t f x y other)) (paper_in s S k cs).running (whole_on k (paper_in s S k cs).size (desk_in s S cs).services f (arrival_time x y)))
    where
      by : (z u v w : Bool) → one_at c (paper_in s S k cs) o l (cond z (cond u idle (cond v (cond w (whole f (arrival_time x y)) damaged) idle)) idle) ≡ 0
      by false u v w = refl
      by true true v w = refl
      by true false false w = refl
      by true false true true = refl
      by true false true false = refl
  one_told c o l cs (change e t u v) = by (eqb t (type_of k)) refl (eqb (S.change cs e t u v) 0) refl
    where
      p : Paper
      p = paper_in s S k cs

      by : (x : Bool) → eqb t (type_of k) ≡ x → (y : Bool) → eqb (S.change cs e t u v) 0 ≡ y
          → cond (same_sort c e && (x && (eqb u o && (eqb v l && y)))) 1 0 ≡ one_at c (paper_in s S k cs) o l (cond y (cond x (changed e (buffer_at (paper_in s S k cs).size u)) idle) idle)
      by false f y g = ap (λ (z : Bool). cond z 1 0) (and_false (same_sort c e)) ∙ quiet y
        where
          quiet : (y : Bool) → 0 ≡ one_at c (paper_in s S k cs) o l (cond y idle idle)
          quiet true = refl
          quiet false = refl
      by true f false g = ap (λ (z : Bool). cond z 1 0) (ap (λ (z : Bool). same_sort c e && (eqb u o && z)) (and_false (eqb v l)) ∙ ap (λ (z : Bool). same_sort c e && z) (and_false (eqb u o)) ∙ and_false (same_sort c e))
      by true f true g =
          ap (λ (z : Bool). cond (same_sort c e && z) 1 0)
          (ap (λ (z : Bool). eqb u o && z) (and_true (eqb v l))
          ∙ same_place p.granted p.size (q.sound cs).few u v o l
          (change_passed cs e u v (subst (λ (n : ℕ). S.change cs e n u v ≡ 0) (eqb-true t (type_of k) f) (eqb-true (S.change cs e t u v) 0 g))))

  -- maps that were accepted are the unmaps, and those that the paper has
  balance : (o l : ℕ) (cs : List Call) → accepted S k Map o l cs ≡ accepted S k Unmap o l cs + value (paper_in s S k cs) o l
  balance o l = every (λ cs. accepted S k Map o l cs ≡ accepted S k Unmap o l cs + value (paper_in s S k cs) o l)
      (omega (arith, either_zero (is_slot 32 (opening_size s k) o l) _ (opening_tally (opening_size s k) (buffer_at (opening_size s k) o))))
      (λ h c e. on h c e)
    where
      sum : (a b v w x y : ℕ) → a ≡ b + v → w + y ≡ v + x → a + x ≡ b + y + w
      sum a b v w x y e f = omega arith

      on : (h : List Call) (c : Call) → accepted S k Map o l h ≡ accepted S k Unmap o l h + value (paper_in s S k h) o l
          → accepted S k Map o l (more h c) ≡ accepted S k Unmap o l (more h c) + value (paper_in s S k (more h c)) o l
      on h c e =
          let p : Paper = paper_in s S k h in
          let v : Event = told k p c (seen_in s S h c) in
          rw (
            accepted_more S k Map o l h [] c,
            accepted_more S k Unmap o l h [] c,
            one_told Map o l h c,
            one_told Unmap o l h c,
            paper_more s S k h c,
          ) (sum (accepted S k Map o l h) (accepted S k Unmap o l h) (value p o l) (value (step p v) o l) (one_at Map p o l v) (one_at Unmap p o l v) e (step_value p o l (q.sound h) v (q.fits h c)))

-- ---- what is told of a buffer

-- An answer tells buffer j: its flag and its place.
pub record TellsIt (p : Paper) (j : ℕ) (b : List ℕ) : Type 0 where
  pub below : j < p.granted
  pub flag : word_at b 12 % 2 ≡ cond (is_mapped p.maps j) 1 0
  pub offset : word_at b 52 ≡ slot_offset j p.size
  pub slot : word_at b 56 ≡ slot_size p.size

-- it tells one
pub record Tells (p : Paper) (b : List ℕ) : Type 0 where
  pub index : ℕ
  pub it : TellsIt p index b

-- flags 2 and 4 do not touch flag 1
flag_least : (x : Bool) (t : Standing) → (flags_of x t ≤ 5) × (flags_of x t % 2 ≡ cond x 1 0)
flag_least true Dequeued = (omega arith, refl)
flag_least true Incoming = (omega arith, refl)
flag_least true (Outgoing f) = (omega arith, refl)
flag_least false Dequeued = (omega arith, refl)
flag_least false Incoming = (omega arith, refl)
flag_least false (Outgoing f) = (omega arith, refl)

described_told : (p : Paper) (kind j : ℕ) (t : Standing) (f : Filled) → j < p.granted → p.granted * slot_size p.size ≤ longest_memory
    → TellsIt p j (buffer_reply kind (described_of j (flags_of (is_mapped p.maps j) t) f p.size))
unfolding described_of
described_told p kind j t f below room =
    let st : Status = described_of j (flags_of (is_mapped p.maps j) t) f p.size in
    let end = slots_apart j p.granted p.size below in
    let (small, odd) = flag_least (is_mapped p.maps j) t in
    record {
      below = below;
      flag = ap (λ (n : ℕ). n % 2) (buffer_flags kind st (omega (arith, small))) ∙ odd;
      offset = buffer_offset kind st (omega (arith, end, room));
      slot = buffer_slot kind st (omega (arith, end, room));
    }

-- the first that is outgoing is one of those granted
first_below_law : (o : List Pair) (i : List ℕ) (g : ℕ) → All (λ k. k < g) (line_of o i) → eqb (length o) 0 ≡ false → (first_on o).index < g
first_below_law [] i g a e = absurd (true≢false e)
first_below_law (x ∷ o) i g a e = a.0

-- a buffer request with one test that holds
sixteen : (a c d e f g : Bool) → a ≡ false → c ≡ false → d ≡ false → e ≡ false → f ≡ true → ◌≡◌ {A = ℕ} (cond a 22 (cond c 14 (cond d 22 (cond e 22 (cond f 16 (cond g 16 0)))))) 16
sixteen a c d e f g p q r s t = rw (p, q, r, s, t)

-- one of count 0 that gives 16
left : (a c d e f g : Bool) → g ≡ false → ◌≡◌ {A = ℕ} (cond a 22 (cond c 14 (cond d 22 (cond e 22 (cond f 16 (cond g 16 0)))))) 16 → f ≡ true
left true c d e f g z h = absurd (omega (arith, h))
left false true d e f g z h = absurd (omega (arith, h))
left false false true e f g z h = absurd (omega (arith, h))
left false false false true f g z h = absurd (omega (arith, h))
left false false false false true g z h = refl
left false false false false false true z h = absurd (true≢false z)
left false false false false false false z h = absurd (omega (arith, h))

-- a QUERYBUF that no test refuses
accepts : (a c d e : Bool) → a ≡ false → c ≡ false → d ≡ false → e ≡ false → ◌≡◌ {A = ℕ} (cond a 22 (cond c 14 (cond d 22 (cond e 22 0)))) 0
accepts a c d e p q r s = rw (p, q, r, s)

-- a map with three that do not
passed : (x y z b : Bool) → x ≡ false → y ≡ false → z ≡ true → ◌≡◌ {A = ℕ} (cond x 22 (cond y 22 (cond (not z) 22 (cond b 75 0)))) (cond b 75 0)
passed x y z b e f g = rw (e, f, g)

module _ (s : List ℕ) (m : Kind → List ℕ) (S : Session) (k : Kind) (d : Demand1 s m S) (all : Answers s m S) (q : Papered s S k) where
  module _ (cs : List Call) (w : ℕ) (a : List ℕ) (type : word_at a 4 ≡ type_of k) (z : (S.request cs w a).number ≡ 0) where
    abbrev p : Paper
    p = paper_in s S k cs

    abbrev at : Paper
    at = paper_at (papers_in s S cs) a 4

    same : paper_at (papers_in s S cs) a 4 ≡ paper_in s S k cs
    same = paper_at_law s m k S d cs a 4 type

    -- the tests of every buffer call come first
    tests_left : (c : Asked) {rest : ℕ} → (request_of w).call ≡ c → 0 < argument_size c
        → (S.request cs w a).number ≡ cond (not (eqb S.opening 0)) 22 (cond (eqb (argument_size c) 0) 25 (cond (not (eqb (length a) (argument_size c))) 14 (cond (no_stream (word_at a 4)) 22 rest))) → rest ≡ 0
    tests_left c e some h =
        let (x1, r1) = past (not (eqb S.opening 0)) (λ n. omega (arith, n)) (sym h ∙ z) in
        let (x2, r2) = past (eqb (argument_size c) 0) (λ n. omega (arith, n)) r1 in
        let (x3, r3) = past (not (eqb (length a) (argument_size c))) (λ n. omega (arith, n)) r2 in
        (past (no_stream (word_at a 4)) (λ n. omega (arith, n)) r3).1

    -- what an accepted one answers
    answer_is : (c : Asked) → (request_of w).call ≡ c → (S.request cs w a).argument ≡ answer_on s (λ j. length (m j)) (papers_in s S cs) (desk_in s S cs) c a
    answer_is c e = all.arguments cs w a z ∙ ap (λ (x : Asked). answer_on s (λ j. length (m j)) (papers_in s S cs) (desk_in s S cs) x a) e

    pub by_query : (request_of w).call ≡ Querybuf → TellsIt (paper_in s S k cs) (word_at a 0) (S.request cs w a).argument
    by_query e =
        let r = tests_left Querybuf e (omega arith) (by_call s m k S d cs w a Querybuf e) in
        let (i, r1) = past (leb (paper_at (papers_in s S cs) a 4).granted (word_at a 0)) (λ n. omega (arith, n)) r in
        let below : word_at a 0 < (paper_in s S k cs).granted = omega (arith, leb-false (paper_at (papers_in s S cs) a 4).granted (word_at a 0) i, ap (λ (p : Paper). p.granted) same) in
        subst (TellsIt (paper_in s S k cs) (word_at a 0)) (sym (answer_is Querybuf e ∙ ap (λ (p : Paper). buffer_reply (word_at a 4) (status_on p (word_at a 0))) same))
        (described_told (paper_in s S k cs) (word_at a 4) (word_at a 0) (standing_of (queues_on (paper_in s S k cs)) (word_at a 0)) _ below (q.room cs))

    by_queue : (request_of w).call ≡ Qbuf → TellsIt (paper_in s S k cs) (word_at a 0) (S.request cs w a).argument
    by_queue e =
        let r = tests_left Qbuf e (omega arith) (by_call s m k S d cs w a Qbuf e) in
        let (i, r1) = past (not (eqb (word_at a 48) 1)) (λ n. omega (arith, n)) r in
        let (j, r2) = past (leb (paper_at (papers_in s S cs) a 4).granted (word_at a 0)) (λ n. omega (arith, n)) r1 in
        let below : word_at a 0 < (paper_in s S k cs).granted = omega (arith, leb-false (paper_at (papers_in s S cs) a 4).granted (word_at a 0) j, ap (λ (p : Paper). p.granted) same) in
        subst (TellsIt (paper_in s S k cs) (word_at a 0)) (sym (answer_is Qbuf e ∙ ap (λ (p : Paper). buffer_reply (word_at a 4) (status_on (step p (put (word_at a 0))) (word_at a 0))) same))
        (described_told (paper_in s S k cs) (word_at a 4) (word_at a 0) (standing_of (queues_on (step (paper_in s S k cs) (put (word_at a 0)))) (word_at a 0)) _ below (q.room cs))

    by_dequeue : (request_of w).call ≡ Dqbuf → TellsIt (paper_in s S k cs) (first_on (paper_in s S k cs).outgoing).index (S.request cs w a).argument
    unfolding returned_of
    by_dequeue e =
        let r = tests_left Dqbuf e (omega arith) (by_call s m k S d cs w a Dqbuf e) in
        let (i, r1) = past (not (eqb (word_at a 48) 1)) (λ n. omega (arith, n)) r in
        let (j, r2) = past (eqb (paper_at (papers_in s S cs) a 4).granted 0) (λ n. omega (arith, n)) r1 in
        let (u, r3) = past (not (paper_at (papers_in s S cs) a 4).running) (λ n. omega (arith, n)) r2 in
        let (v, r4) = past (eqb (length (paper_at (papers_in s S cs) a 4).outgoing) 0) (λ n. omega (arith, n)) r3 in
        let p : Paper = paper_in s S k cs in
        let f : Filled = first_on p.outgoing in
        let below = first_below_law p.outgoing p.incoming p.granted (q.sound cs).below (ap (λ (y : Paper). eqb (length y.outgoing) 0) (sym same) ∙ v) in
        subst (TellsIt p f.index) (sym (answer_is Dqbuf e ∙ ap (λ (y : Paper). buffer_reply (word_at a 4) (returned_of y.maps (first_on y.outgoing) y.size)) same))
        (described_told p (word_at a 4) f.index Dequeued f below (q.room cs))

    pub tells : TellsBuffer (request_of w).call → Tells (paper_in s S k cs) (S.request cs w a).argument
    tells c = ⊎_elim (λ e. record { index = word_at a 0; it = by_query e }) (λ h. ⊎_elim (λ e. record { index = word_at a 0; it = by_queue e }) (λ e. record { index = _; it = by_dequeue e }) h) c

  -- the count of a place that is told is that of its buffer
  module _ (cs : List Call) (j : ℕ) (below : j < (paper_in s S k cs).granted) where
    some_slot : 0 < slot_size (paper_in s S k cs).size
    some_slot = (q.sound cs).slots (omega arith)

    buffer_value : value (paper_in s S k cs) (slot_offset j (paper_in s S k cs).size) (slot_size (paper_in s S k cs).size) ≡ maps_of (paper_in s S k cs).maps j
    buffer_value =
        let p : Paper = paper_in s S k cs in
        rw (slot_of 32 p.size j (omega (arith, (q.sound cs).few)) some_slot, buffer_of_law j p.size some_slot)

    place_balance : accepted S k Map (slot_offset j (paper_in s S k cs).size) (slot_size (paper_in s S k cs).size) cs
        ≡ accepted S k Unmap (slot_offset j (paper_in s S k cs).size) (slot_size (paper_in s S k cs).size) cs + maps_of (paper_in s S k cs).maps j
    place_balance = balance s m S k d q (slot_offset j (paper_in s S k cs).size) (slot_size (paper_in s S k cs).size) cs
        ∙ ap (λ (n : ℕ). accepted S k Unmap (slot_offset j (paper_in s S k cs).size) (slot_size (paper_in s S k cs).size) cs + n) buffer_value

  -- a device with a map, or a buffer, is open
  opened_by_law : (cs : List Call) → (paper_in s S k cs ≡ blank (opening_size s k) → ⊥) → S.opening ≡ 0
  opened_by_law cs some = by (eqb S.opening 0) refl
    where
      by : (b : Bool) → eqb S.opening 0 ≡ b → S.opening ≡ 0
      by true e = eqb-true S.opening 0 e
      by false e = absurd (some (q.shut cs e))

  value_most : (cs : List Call) (o l : ℕ) → value (paper_in s S k cs) o l ≤ 255
  value_most cs o l = by (is_slot 32 (paper_in s S k cs).size o l)
    where
      by : (b : Bool) → cond b (maps_of (paper_in s S k cs).maps (buffer_at (paper_in s S k cs).size o)) 0 ≤ 255
      by true = (q.sound cs).maps.most (buffer_at (paper_in s S k cs).size o)
      by false = omega arith

  -- a place with a map is that of a buffer with one
  value_some : (cs : List Call) (o l : ℕ) → 0 < value (paper_in s S k cs) o l → 0 < maps_of (paper_in s S k cs).maps (buffer_at (paper_in s S k cs).size o)
  value_some cs o l = by (is_slot 32 (paper_in s S k cs).size o l)
    where
      by : (b : Bool) → 0 < cond b (maps_of (paper_in s S k cs).maps (buffer_at (paper_in s S k cs).size o)) 0 → 0 < maps_of (paper_in s S k cs).maps (buffer_at (paper_in s S k cs).size o)
      by true h = h
      by false h = absurd (omega arith)

  unmapped : (cs : List Call) (w : ℕ) (a : List ℕ) → (request_of w).call ≡ Reqbufs → word_at a 4 ≡ type_of k → (S.request cs w a).number ≡ 0
      → (o l : ℕ) → accepted S k Map o l cs ≡ accepted S k Unmap o l cs
  unmapped cs w a e type z o l =
      let r = tests_left cs w a type z Reqbufs e (omega arith) (by_call s m k S d cs w a Reqbufs e) in
      let (i, r1) = past (not (eqb (word_at a 8) 1)) (λ n. omega (arith, n)) r in
      let (j, r2) = past (any_mapped (paper_at (papers_in s S cs) a 4).maps) (λ n. omega (arith, n)) r1 in
      let none : any_mapped (paper_in s S k cs).maps ≡ false = ap (λ (p : Paper). any_mapped p.maps) (sym (same cs w a type z)) ∙ j in
      balance s m S k d q o l cs
      ∙ ap (λ (n : ℕ). accepted S k Unmap o l cs + n) (either_zero (is_slot 32 (paper_in s S k cs).size o l) _ (none_mapped (paper_in s S k cs).maps none (buffer_at (paper_in s S k cs).size o)))
      ∙ add-zero (accepted S k Unmap o l cs)

  held : (cs : List Call) (w : ℕ) (a : List ℕ) (o l : ℕ) → accepted S k Unmap o l cs < accepted S k Map o l cs
      → (request_of w).call ≡ Reqbufs → length a ≡ 20 → word_at a 4 ≡ type_of k → word_at a 8 ≡ 1 → (S.request cs w a).number ≡ 16
  held cs w a o l more-maps e long type memory =
      let some : 0 < maps_of (paper_in s S k cs).maps (buffer_at (paper_in s S k cs).size o) = value_some cs o l (omega (arith, balance s m S k d q o l cs)) in
      let mapped : any_mapped (paper_in s S k cs).maps ≡ true = some_mapped (paper_in s S k cs).maps (buffer_at (paper_in s S k cs).size o) some in
      let open_is : S.opening ≡ 0 = opened_by_law cs (λ h. omega (arith, some, ap (λ (p : Paper). maps_of p.maps (buffer_at (paper_in s S k cs).size o)) h, opening_tally (opening_size s k) (buffer_at (paper_in s S k cs).size o))) in
      by_call s m k S d cs w a Reqbufs e
      ∙ sixteen (not (eqb S.opening 0)) (not (eqb (length a) 20)) (no_stream (word_at a 4)) (not (eqb (word_at a 8) 1)) (any_mapped (paper_at (papers_in s S cs) a 4).maps)
      ((paper_at (papers_in s S cs) a 4).running && not (eqb (word_at a 0) 0))
      (ap (λ (n : ℕ). not (eqb n 0)) open_is) (ap (λ (n : ℕ). not (eqb n 20)) long) (names k (word_at a 4) type).1 (ap (λ (n : ℕ). not (eqb n 1)) memory)
      (ap (λ (p : Paper). any_mapped p.maps) (paper_at_law s m k S d cs a 4 type) ∙ mapped)

  only : (cs : List Call) (w : ℕ) (a : List ℕ) → (request_of w).call ≡ Reqbufs → word_at a 4 ≡ type_of k → word_at a 0 ≡ 0 → (S.request cs w a).number ≡ 16
      → (o : ℕ) × (l : ℕ) × (accepted S k Unmap o l cs < accepted S k Map o l cs)
  only cs w a e type zero z =
      let mapped : any_mapped (paper_at (papers_in s S cs) a 4).maps ≡ true =
      left (not (eqb S.opening 0)) (not (eqb (length a) 20)) (no_stream (word_at a 4)) (not (eqb (word_at a 8) 1)) (any_mapped (paper_at (papers_in s S cs) a 4).maps)
      ((paper_at (papers_in s S cs) a 4).running && not (eqb (word_at a 0) 0)) (ap (λ (n : ℕ). (paper_at (papers_in s S cs) a 4).running && not (eqb n 0)) zero ∙ and_false (paper_at (papers_in s S cs) a 4).running)
      (sym (by_call s m k S d cs w a Reqbufs e) ∙ z) in
      let p : Paper = paper_in s S k cs in
      let (j, some) = mapped_one p.maps (ap (λ (y : Paper). any_mapped y.maps) (sym (paper_at_law s m k S d cs a 4 type)) ∙ mapped) in
      let below : j < p.granted = granted_one j some in
      (slot_offset j p.size, slot_size p.size, omega (arith, place_balance cs j below, some))
    where
      granted_one : (j : ℕ) → 0 < maps_of (paper_in s S k cs).maps j → j < (paper_in s S k cs).granted
      granted_one j some = by (leb (paper_in s S k cs).granted j) refl
        where
          by : (b : Bool) → leb (paper_in s S k cs).granted j ≡ b → j < (paper_in s S k cs).granted
          by true e = absurd (omega (arith, some, (q.sound cs).maps.spare j (leb-true (paper_in s S k cs).granted j e)))
          by false e = leb-false (paper_in s S k cs).granted j e

  told_by_law : (cs : List Call) (c : Change) (o l : ℕ) → S.change cs c (type_of k) o l ≡ 0
      → (j : ℕ) × (j < 32) × ((w : ℕ) (a : List ℕ) → (request_of w).call ≡ Querybuf → length a ≡ 68 → word_at a 4 ≡ type_of k → word_at a 0 ≡ j
      → ((S.request cs w a).number ≡ 0) × (word_at (S.request cs w a).argument 52 ≡ o) × (word_at (S.request cs w a).argument 56 ≡ l))
  told_by_law cs c o l h =
      let p : Paper = paper_in s S k cs in
      let is = slot_is p.granted p.size o l (change_passed s m S k d q cs c o l h) in
      let open_is : S.opening ≡ 0 = opened_by_law cs (λ y. omega (arith, is.3, ap (λ (z : Paper). z.granted) y)) in (
        buffer_at p.size o,
        omega (arith, is.3, (q.sound cs).few),
        λ w a e long type index.
            let z : (S.request cs w a).number ≡ 0 =
            by_call s m k S d cs w a Querybuf e
            ∙ accepts (not (eqb S.opening 0)) (not (eqb (length a) 68)) (no_stream (word_at a 4)) (leb (paper_at (papers_in s S cs) a 4).granted (word_at a 0))
            (ap (λ (n : ℕ). not (eqb n 0)) open_is) (ap (λ (n : ℕ). not (eqb n 68)) long) (names k (word_at a 4) type).1
            (ap₂ (λ (y : Paper) (n : ℕ). leb y.granted n) (paper_at_law s m k S d cs a 4 type) index ∙ lt-leb p.granted (buffer_at p.size o) is.3) in
            let t = by_query cs w a type z e in
            (z, t.offset ∙ ap (λ (n : ℕ). slot_offset n p.size) index ∙ sym is.2, t.slot ∙ sym is.1),
      )

  -- the same as tests
  same_count : (u n : ℕ) → eqb (u + n) u ≡ eqb n 0
  same_count u n = alike (eqb (u + n) u) (eqb n 0) (λ h. eq-eqb n 0 (omega (arith, eqb-true (u + n) u h))) (λ h. eq-eqb (u + n) u (omega (arith, eqb-true n 0 h)))

  full_count : (u n : ℕ) → n ≤ 255 → eqb (u + n) (u + 255) ≡ leb 255 n
  full_count u n most =
      alike (eqb (u + n) (u + 255)) (leb 255 n) (λ h. le-leb 255 n (omega (arith, eqb-true (u + n) (u + 255) h))) (λ h. eq-eqb (u + n) (u + 255) (omega (arith, leb-true 255 n h)))

  flag_swap : (b : Bool) → ◌≡◌ {A = ℕ} (cond (not b) 1 0) (cond b 0 1)
  flag_swap true = refl
  flag_swap false = refl

  -- what a map gives, by the paper
  abbrev map_number : Paper → ℕ → ℕ → ℕ
  map_number p o l =
      cond (not (eqb S.opening 0)) 22 (cond (no_stream (type_of k)) 22 (cond (not (is_slot p.granted p.size o l)) 22 (cond (leb 255 (maps_of p.maps (buffer_at p.size o))) 75 0)))

  module _ (cs : List Call) (w : ℕ) (a : List ℕ) (c : TellsBuffer (request_of w).call) (type : word_at a 4 ≡ type_of k) (z : (S.request cs w a).number ≡ 0) where
    flagged : word_at (S.request cs w a).argument 12 % 2
        ≡ cond (eqb (accepted S k Map (word_at (S.request cs w a).argument 52) (word_at (S.request cs w a).argument 56) cs)
        (accepted S k Unmap (word_at (S.request cs w a).argument 52) (word_at (S.request cs w a).argument 56) cs)) 0 1
    flagged =
        let t = tells cs w a type z c in
        let n : ℕ = maps_of (paper_in s S k cs).maps t.index in
        let u : ℕ = accepted S k Unmap (slot_offset t.index (paper_in s S k cs).size) (slot_size (paper_in s S k cs).size) cs in
        t.it.flag ∙ flag_swap (eqb n 0) ∙ ap (λ (b : Bool). cond b 0 1) (sym (same_count u n))
        ∙ sym (rw (t.it.offset, t.it.slot, place_balance cs t.index t.it.below))

    mappable : S.change cs Map (type_of k) (word_at (S.request cs w a).argument 52) (word_at (S.request cs w a).argument 56)
        ≡ cond (eqb (accepted S k Map (word_at (S.request cs w a).argument 52) (word_at (S.request cs w a).argument 56) cs)
        (accepted S k Unmap (word_at (S.request cs w a).argument 52) (word_at (S.request cs w a).argument 56) cs + 255)) 75 0
    mappable =
        let t = tells cs w a type z c in
        let p : Paper = paper_in s S k cs in
        let n : ℕ = maps_of p.maps t.index in
        let open_is : S.opening ≡ 0 = opened_by_law cs (λ h. omega (arith, t.it.below, ap (λ (y : Paper). y.granted) h)) in
        let some : 0 < slot_size p.size = some_slot cs t.index t.it.below in
        rw (t.it.offset, t.it.slot, place_balance cs t.index t.it.below, full_count (accepted S k Unmap (slot_offset t.index p.size) (slot_size p.size) cs) n ((q.sound cs).maps.most t.index))
        (subst (λ (j : Kind). S.change cs Map (type_of k) (slot_offset t.index p.size) (slot_size p.size) ≡ map_number (papers_in s S cs j) (slot_offset t.index p.size) (slot_size p.size))
        (names k (type_of k) refl).0 (d.changes cs Map (type_of k) (slot_offset t.index p.size) (slot_size p.size))
        ∙ passed (not (eqb S.opening 0)) (no_stream (type_of k)) (is_slot p.granted p.size (slot_offset t.index p.size) (slot_size p.size))
        (leb 255 (maps_of p.maps (buffer_at p.size (slot_offset t.index p.size)))) (ap (λ (z : ℕ). not (eqb z 0)) open_is)
        (names k (type_of k) refl).1 (slot_of p.granted p.size t.index t.it.below some)
        ∙ ap (λ (j : ℕ). cond (leb 255 (maps_of p.maps j)) 75 0) (buffer_of_law t.index p.size some))

  pub maps_kept : MapsKept S k
  maps_kept = record {
    least = λ cs o l. omega (arith, balance s m S k d q o l cs);
    most = λ cs o l. omega (arith, balance s m S k d q o l cs, value_most cs o l);
    unmapped = unmapped;
    held = held;
    only = only;
    flagged = flagged;
    mappable = mappable;
    told = told_by_law;
  }
