-- Two machines that meet the demands are one.
use mathlib.Core.Path.{◌≡◌, refl, sym, ap, ap₂, ◌∙◌, subst, fun_ext}
use mathlib.Core.Bool.{Bool, true, false}
use mathlib.Core.Logic.{◌≢◌}
use Prim.Native.Nat.{ℕ}
use borrow.Author.Tests.{eqb-true, eqb-false}
use lib.Dec.{eqb}
use mathlib.Core.List.{List, []}
use lib.ListN.{length}
use Rattle.ioctl_table.specs.Table.{request_of}
use Rattle.stream_words.specs.Stream.{Run}
use Rattle.plane_rules.specs.declared.Place.{Place}
use Rattle.stream_maps.specs.declared.Change.{Change}
use Rattle.stream_arrival.specs.declared.Arrival.{Arrival}
use Rattle.stream_arrival.specs.Arrivals.{written_by}
use Rattle.stream_verdict.specs.declared.Verdict.{Verdict}
use Rattle.stream_verdict.specs.declared.Verdict.TheVariants.{Running, Blank, Gaps, Complete}
use Rattle.stream_history.specs.Paper.{Paper, blank, step, handed_over, tells}
use Rattle.stream_history.proofs.Meanings.{Means}
use Rattle.claims.specs.Calls.{Kind, type_of, Call, Reply, arrival_time}
use Rattle.claims.specs.Calls.Call.{request, arrival, change}
use Rattle.claims.specs.Calls.Reply.{answered, taken, numbered}
use Rattle.claims.specs.Machine.{Given, Session, more, reply_in}
use Rattle.claims.specs.Words.{told, seen_in, opening_size, paper_in, papers_in, handed_in}
use Rattle.claims.specs.Table.{first_number, request_tests, arrival_tests, change_tests, refused_by, kind_of, arrived_on}
use Rattle.claims.specs.Desk.{Desk, choice, desk_in}
use Rattle.claims.specs.Answers.{answer_on, plane_on}
use Rattle.claims.specs.Demands.{Demand1, Demand3, Counts, Answers}
use Rattle.claims_together.specs.NoRoom.{NoRoom}
use Rattle.claims.proofs.Sessions.{paper_more, every, desk_more}

-- a type is that of a stream, or of none
by_type_law : (P : ℕ → Type 0) → ((k : Kind) → P (type_of k)) → ((t : ℕ) → t ≢ type_of Kind.pictures → t ≢ type_of Kind.captions → P t) → (t : ℕ) → P t
by_type_law P of other t = go (eqb t (type_of Kind.pictures)) (eqb t (type_of Kind.captions)) refl refl
  where
    go : (x y : Bool) → eqb t (type_of Kind.pictures) ≡ x → eqb t (type_of Kind.captions) ≡ y → P t
    go true y e n = subst P (sym (eqb-true t (type_of Kind.pictures) e)) (of Kind.pictures)
    go false true e n = subst P (sym (eqb-true t (type_of Kind.captions) n)) (of Kind.captions)
    go false false e n = other t (eqb-false t (type_of Kind.pictures) e) (eqb-false t (type_of Kind.captions) n)

-- What makes every answer.
record Alike (s : List ℕ) (S T : Session) (h : List Call) : Type 0 where
  papers : papers_in s S h ≡ papers_in s T h
  desk : desk_in s S h ≡ desk_in s T h
  memory : (k : Kind) → S.memory k h ≡ T.memory k h

-- one session, told by its demands
record Told (s : List ℕ) (m : Kind → List ℕ) (S : Session) : Type 0 where
  one : Demand1 s m S
  three : (k : Kind) → Demand3 s m S k
  counts : (k : Kind) → Counts s S k
  all : Answers s m S

-- each verdict by the paper
verdict_by : (s : List ℕ) (m : Kind → List ℕ) (S : Session) → Told s m S → (k : Kind) (cs : List Call) (v : Verdict)
    → ((S.verdict cs (type_of k) ≡ v) → Means (paper_in s S k cs) (handed_in s S k cs) v) × (Means (paper_in s S k cs) (handed_in s S k cs) v → (S.verdict cs (type_of k) ≡ v))
verdict_by s m S t k cs Running = (t.counts k).running cs
verdict_by s m S t k cs Blank = (t.counts k).blank cs
verdict_by s m S t k cs Gaps = (t.counts k).gaps cs
verdict_by s m S t k cs Complete = (t.three k).complete cs

module _ (s : List ℕ) (m : Kind → List ℕ) (S T : Session) (t : Told s m S) (u : Told s m T) where
  same_opening : S.opening ≡ T.opening
  same_opening = t.one.opening ∙ sym u.one.opening

  module _ (h : List Call) (e : Alike s S T h) where
    same_paper : (k : Kind) → paper_in s S k h ≡ paper_in s T k h
    same_paper k = ap (λ (P : Kind → Paper). P k) e.papers

    same_number : (w : ℕ) (a : List ℕ) → (S.request h w a).number ≡ (T.request h w a).number
    same_number w a =
        t.one.requests h w a
        ∙ ap₂ (λ (n : ℕ) (P : Kind → Paper). first_number (request_tests n s P w a)) same_opening e.papers
        ∙ sym (u.one.requests h w a)

    same_argument : (w : ℕ) (a : List ℕ) → (S.request h w a).argument ≡ (T.request h w a).argument
    same_argument w a = go (eqb (S.request h w a).number 0) refl
      where
        go : (x : Bool) → eqb (S.request h w a).number 0 ≡ x → (S.request h w a).argument ≡ (T.request h w a).argument
        go true z =
            let n : (S.request h w a).number ≡ 0 = eqb-true (S.request h w a).number 0 z in
            t.all.arguments h w a n
            ∙ ap₂ (λ (P : Kind → Paper) (q : Desk). answer_on s (λ k. length (m k)) P q (request_of w).call a) e.papers e.desk
            ∙ sym (u.all.arguments h w a (sym (same_number w a) ∙ n))
        go false z =
            let n = eqb-false (S.request h w a).number 0 z in
            (t.one.kept h w a n).0 ∙ sym (u.one.kept h w a (λ k. n (same_number w a ∙ k))).0

    same_arrival : (i : ℕ) (f : List ℕ) (x y : ℕ) (other : List ℕ) → S.arrival h i f x y other ≡ T.arrival h i f x y other
    same_arrival i f x y other =
        t.one.arrivals h i f x y other
        ∙ ap₂ (λ (n : ℕ) (q : Desk). answer n (papers_in s S h) q) same_opening e.desk
        ∙ ap (λ (P : Kind → Paper). answer T.opening P (desk_in s T h)) e.papers
        ∙ sym (u.one.arrivals h i f x y other)
      where
        answer : ℕ → (Kind → Paper) → Desk → Arrival
        answer n P q = refused_by (arrival_tests n (λ k. length (m k)) P i (length other)) (arrived_on (kind_of i) (P (kind_of i)) q.services f (arrival_time x y))

    same_leaves : (i : ℕ) (f : List ℕ) (x y : ℕ) (other : List ℕ) → S.leaves h i f x y other ≡ T.leaves h i f x y other
    same_leaves i f x y other = by_type_law (λ (i : ℕ). S.leaves h i f x y other ≡ T.leaves h i f x y other) lent none i
      where
        lent : (k : Kind) → S.leaves h (type_of k) f x y other ≡ T.leaves h (type_of k) f x y other
        lent k =
            (t.three k).lends h f x y other
            ∙ ap₂ (λ (r : Arrival) (p : Paper). written_by r p.size other f) (same_arrival (type_of k) f x y other) (same_paper k)
            ∙ sym ((u.three k).lends h f x y other)

        none : (i : ℕ) → i ≢ type_of Kind.pictures → i ≢ type_of Kind.captions → S.leaves h i f x y other ≡ T.leaves h i f x y other
        none i p c = t.all.untouched h i f x y other p c ∙ sym (u.all.untouched h i f x y other p c)

    same_change : (c : Change) (i o l : ℕ) → S.change h c i o l ≡ T.change h c i o l
    same_change c i o l =
        t.one.changes h c i o l
        ∙ ap₂ (λ (n : ℕ) (P : Kind → Paper). first_number (change_tests n P c i o l)) same_opening e.papers
        ∙ sym (u.one.changes h c i o l)

    same_reply : (c : Call) → reply_in S h c ≡ reply_in T h c
    same_reply (request w a) = ap₂ answered (same_number w a) (same_argument w a)
    same_reply (arrival i f x y other) = ap taken (same_arrival i f x y other)
    same_reply (change c i o l) = ap numbered (same_change c i o l)

    same_seen : (c : Call) → seen_in s S h c ≡ seen_in s T h c
    same_seen c = ap₂ (λ (r : Reply) (q : Desk). (r, q.services)) (same_reply c) e.desk

    same_memory : (c : Call) (k : Kind) → S.memory k (more h c) ≡ T.memory k (more h c)
    same_memory (request w a) k = (t.three k).asks h w a ∙ e.memory k ∙ sym ((u.three k).asks h w a)
    same_memory (change c i o l) k = (t.three k).maps h c i o l ∙ e.memory k ∙ sym ((u.three k).maps h c i o l)
    same_memory (arrival i f x y other) k = go (eqb i (type_of k)) refl
      where
        here : S.memory k (more h (arrival (type_of k) f x y other)) ≡ T.memory k (more h (arrival (type_of k) f x y other))
        here =
            (t.three k).writes h f x y other
            ∙ ap (λ (r : Arrival). written_by r (paper_in s S k h).size (S.memory k h) f) (same_arrival (type_of k) f x y other)
            ∙ ap₂ (λ (p : Paper) (l : List ℕ). written_by (T.arrival h (type_of k) f x y other) p.size l f) (same_paper k) (e.memory k)
            ∙ sym ((u.three k).writes h f x y other)

        go : (b : Bool) → eqb i (type_of k) ≡ b → S.memory k (more h (arrival i f x y other)) ≡ T.memory k (more h (arrival i f x y other))
        go true n =
            subst (λ (i : ℕ). S.memory k (more h (arrival i f x y other)) ≡ T.memory k (more h (arrival i f x y other))) (sym (eqb-true i (type_of k) n)) here
        go false n =
            let away = eqb-false i (type_of k) n in
            (t.three k).elsewhere h i f x y other away ∙ e.memory k ∙ sym ((u.three k).elsewhere h i f x y other away)

    one_more_law : (c : Call) → Alike s S T (more h c)
    one_more_law c = record {
      papers = fun_ext λ k. paper_more s S k h c
          ∙ ap₂ (λ (p : Paper) (r : Reply × List ℕ). step p (told k p c r)) (same_paper k) (same_seen c) ∙ sym (paper_more s T k h c);
      desk = desk_more s S h c ∙ ap₂ (λ (q : Desk) (r : Reply). choice s q c r) e.desk (same_reply c) ∙ sym (desk_more s T h c);
      memory = same_memory c;
    }

  alike : (cs : List Call) → Alike s S T cs
  alike = every (Alike s S T) (record { papers = refl; desk = refl; memory = λ k. (t.three k).begins ∙ sym (u.three k).begins }) (λ h c e. one_more_law h e c)

  -- the numbers handed over are the same, since all that is seen is
  same_handed : (k : Kind) (cs : List Call) → handed_in s S k cs ≡ handed_in s T k cs
  same_handed k cs =
      let z : Paper = blank (opening_size s k) in
      let r : seen_in s S ≡ seen_in s T = fun_ext λ h. fun_ext λ c. same_seen h (alike h) c in
      ap (λ (f : List Call → Call → Reply × List ℕ). handed_over z [] (tells f more (told k) [] z cs)) r

  same_verdict : (cs : List Call) (i : ℕ) → S.verdict cs i ≡ T.verdict cs i
  same_verdict cs = by_type_law (λ (i : ℕ). S.verdict cs i ≡ T.verdict cs i) of (λ i p c. t.all.others cs i p c ∙ sym (u.all.others cs i p c))
    where
      of : (k : Kind) → S.verdict cs (type_of k) ≡ T.verdict cs (type_of k)
      of k =
          let v : Verdict = T.verdict cs (type_of k) in
          (verdict_by s m S t k cs v).1
          (subst (λ (l : List ℕ). Means (paper_in s S k cs) l v) (sym (same_handed k cs))
          (subst (λ (p : Paper). Means p (handed_in s T k cs) v) (sym (same_paper cs (alike cs) k)) ((verdict_by s m T u k cs v).0 refl)))

  same_counts : (k : Kind) (cs : List Call) → S.counts k cs ≡ T.counts k cs
  same_counts k cs = (t.counts k).counted cs ∙ ap (λ (p : Paper). p.run) (same_paper cs (alike cs) k) ∙ sym ((u.counts k).counted cs)

  same_plane : (cs : List Call) (n k : ℕ) → S.plane cs n k ≡ T.plane cs n k
  same_plane cs n k = t.all.planes cs n k ∙ ap₂ (λ (o : ℕ) (q : Desk). plane_on o s q n k) same_opening (alike cs).desk ∙ sym (u.all.planes cs n k)

  same_request : (cs : List Call) (w : ℕ) (a : List ℕ) → S.request cs w a ≡ T.request cs w a
  same_request cs w a = ap₂ (λ (n : ℕ) (l : List ℕ). record { number = n; argument = l }) (same_number cs (alike cs) w a) (same_argument cs (alike cs) w a)

  -- all that can be seen is the same, so the sessions are
  same_session : S ≡ T
  same_session =
      ap₂ (λ (o : ℕ) (r : List Call → ℕ → List ℕ → Given).
      record { opening = o; request = r; arrival = S.arrival; leaves = S.leaves; change = S.change; memory = S.memory; counts = S.counts; verdict = S.verdict; plane = S.plane })
      same_opening (fun_ext λ cs. fun_ext λ w. fun_ext λ a. same_request cs w a)
      ∙ ap₂ (λ (r : List Call → ℕ → List ℕ → ℕ → ℕ → List ℕ → Arrival) (l : List Call → ℕ → List ℕ → ℕ → ℕ → List ℕ → List ℕ).
      record { opening = T.opening; request = T.request; arrival = r; leaves = l; change = S.change; memory = S.memory; counts = S.counts; verdict = S.verdict; plane = S.plane })
      (fun_ext λ cs. fun_ext λ i. fun_ext λ f. fun_ext λ x. fun_ext λ y. fun_ext λ other. same_arrival cs (alike cs) i f x y other)
      (fun_ext λ cs. fun_ext λ i. fun_ext λ f. fun_ext λ x. fun_ext λ y. fun_ext λ other. same_leaves cs (alike cs) i f x y other)
      ∙ ap (λ (c : List Call → Change → ℕ → ℕ → ℕ → ℕ).
      record { opening = T.opening; request = T.request; arrival = T.arrival; leaves = T.leaves; change = c; memory = S.memory; counts = S.counts; verdict = S.verdict; plane = S.plane })
      (fun_ext λ cs. fun_ext λ c. fun_ext λ i. fun_ext λ o. fun_ext λ l. same_change cs (alike cs) c i o l)
      ∙ ap₂ (λ (l : Kind → List Call → List ℕ) (r : Kind → List Call → Run).
      record { opening = T.opening; request = T.request; arrival = T.arrival; leaves = T.leaves; change = T.change; memory = l; counts = r; verdict = S.verdict; plane = S.plane })
      (fun_ext λ k. fun_ext λ cs. (alike cs).memory k) (fun_ext λ k. fun_ext λ cs. same_counts k cs)
      ∙ ap₂ (λ (v : List Call → ℕ → Verdict) (p : List Call → ℕ → ℕ → Place).
      record { opening = T.opening; request = T.request; arrival = T.arrival; leaves = T.leaves; change = T.change; memory = T.memory; counts = T.counts; verdict = v; plane = p })
      (fun_ext λ cs. fun_ext λ i. same_verdict cs i) (fun_ext λ cs. fun_ext λ n. fun_ext λ k. same_plane cs n k)

pub no_room : NoRoom
no_room M N x y = fun_ext λ s. fun_ext λ m. same_session s m (M s m) (N s m)
    (record { one = x.demand_1 s m; three = x.demand_3 s m; counts = x.counts s m; all = x.answers s m })
    (record { one = y.demand_1 s m; three = y.demand_3 s m; counts = y.counts s m; all = y.answers s m })
