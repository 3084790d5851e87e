-- What is answered: all that fits and nothing else; and what becomes of an answer that is offered again. Assumes nothing.
use mathlib.Core.Path.{◌≡◌, refl, sym, ap, ◌∙◌}
use mathlib.Core.Logic.{◌≢◌}
use mathlib.Core.Bool.{Bool, true, false, cond, ◌&&◌, false≢true}
use mathlib.Core.List.{List}
use Prim.Native.Nat.{ℕ, ◌*◌, ◌/◌, ◌%◌, ◌≤◌, ◌<◌}
use native.Mathlib.Omega.{arith}
use lib.Dec.{eqb, ltb}
use lib.ListN.{get_or, set, replicate}
use Rattle.wire_read.specs.Lists.{tab}
use Rattle.wire_read.proofs.Tabs.{tab_same, tab_get}
use Rattle.sheet_rules.specs.Folds.{any_below}
use Rattle.sheet_rules.proofs.Truth.{both, any_at, any_of_law}
use Rattle.service_rules.specs.Services.{Service, Each, has, set_of, offers, offered_at, capability_lines}
use Rattle.service_rules.specs.Negotiation.{asked_at, common, fitting_at, negotiated_lines, union_of, count_below, carrying}
use Rattle.service_rules.proofs.Members.{each, each_of_two, in_set, set_same, set_most}

-- ---- the table of the services and the lines

-- 33 lines carry something, and all four services are among them
pub capability_carries : carrying capability_lines ≡ 33
unfolding capability_lines offered_at set_of count_below tab
capability_carries = refl

pub capability_union : union_of capability_lines ≡ 0x5401
unfolding union_of capability_lines offered_at set_of has any_below tab
capability_union = refl

-- ---- all that fit, and no fewer

module _ (asked : ℕ) (lines : List ℕ) where
  -- a service is answered at a place exactly if it is in what is asked for there and in what is offered there
  pub fitting_has : Each (λ s. (k : ℕ) → has (fitting_at asked lines k) s.bit ≡ (has (asked_at asked lines k) s.bit && has (offered_at k) s.bit))
  unfolding fitting_at common
  fitting_has = (λ k. (at k).0, λ k. (at k).1, λ k. (at k).2, λ k. (at k).3)
    where
      at : (k : ℕ) → Each (λ s. has (set_of (λ t. has (asked_at asked lines k) t.bit && has (offered_at k) t.bit)) s.bit ≡ (has (asked_at asked lines k) s.bit && has (offered_at k) s.bit))
      at k = in_set (λ t. has (asked_at asked lines k) t.bit && has (offered_at k) t.bit)

  -- that is: it was asked for there, and the table of the services has it there
  pub all_that_fit : (k : ℕ) → Each (λ s. has (fitting_at asked lines k) s.bit ≡ (has (asked_at asked lines k) s.bit && offers s (k / 24) (k % 24)))
  unfolding offered_at
  all_that_fit k =
      each_of_two {P = λ (s : Service). (j : ℕ) → has (fitting_at asked lines j) s.bit ≡ (has (asked_at asked lines j) s.bit && has (offered_at j) s.bit)} {Q = λ (s : Service). has (offered_at k) s.bit ≡ offers s (k / 24) (k % 24)}
      (λ s i o. i k ∙ ap (λ (x : Bool). has (asked_at asked lines k) s.bit && x) o) fitting_has (in_set (λ s. offers s (k / 24) (k % 24)))

  -- nothing but services
  pub fitting_most : (k : ℕ) → fitting_at asked lines k ≤ 0x5401
  unfolding fitting_at common
  fitting_most k = set_most _

never : (x : Bool) → (x && false) ≡ false
never true = refl
never false = refl

-- line 0 of a field has none
pub first_line_empty : (asked : ℕ) (lines : List ℕ) (f : ℕ) → fitting_at asked lines (24 * f) ≡ 0
unfolding fitting_at common offered_at set_of
first_line_empty asked lines f =
    set_same (λ s. has (asked_at asked lines (24 * f)) s.bit && has (set_of (λ t. offers t (24 * f / 24) (24 * f % 24))) s.bit) (λ s. false)
    (each {P = λ (s : Service). has (set_of (λ t. offers t (24 * f / 24) (24 * f % 24))) s.bit ≡ false}
    {Q = λ (s : Service). (has (asked_at asked lines (24 * f)) s.bit && has (set_of (λ t. offers t (24 * f / 24) (24 * f % 24))) s.bit) ≡ false}
    (λ s i. ap (λ (x : Bool). has (asked_at asked lines (24 * f)) s.bit && x) i ∙ never (has (asked_at asked lines (24 * f)) s.bit)) none)
    ∙ refl
  where
    e : 24 * f % 24 ≡ 0
    e = omega arith

    none : Each (λ s. has (set_of (λ t. offers t (24 * f / 24) (24 * f % 24))) s.bit ≡ false)
    none =
        let i = in_set (λ t. offers t (24 * f / 24) (24 * f % 24)) in
        (i.0 ∙ rw e (never (ltb (24 * f / 24) 2)), i.1 ∙ rw e (never (ltb (24 * f / 24) 1)), i.2 ∙ rw e (never (ltb (24 * f / 24) 2)), i.3 ∙ rw e (never (ltb (24 * f / 24) 1)))

-- a set in which no bit is a service's is answered with no services, whatever the lines ask for
pub nothing_fits : (lines : List ℕ) → negotiated_lines 0x0002 lines ≡ replicate 48 0
unfolding negotiated_lines fitting_at common offered_at set_of has tab
nothing_fits lines = refl

-- ---- an answer that is offered again

once : (x y : Bool) → ((x && y) && y) ≡ (x && y)
once true true = refl
once true false = refl
once false y = refl

squeezed : (u x y : Bool) → (u ≡ true → x ≡ true) → ((x && y) ≡ true → u ≡ true) → (u && y) ≡ (x && y)
squeezed true true y f g = refl
squeezed true false y f g = absurd (false≢true (f refl))
squeezed false true true f g = g refl
squeezed false true false f g = refl
squeezed false false y f g = refl

module _ (asked : ℕ) (lines : List ℕ) where
  -- what is answered at a place, read there
  pub answered_at_law : (k : ℕ) → k < 48 → get_or (negotiated_lines asked lines) k 0 ≡ fitting_at asked lines k
  unfolding negotiated_lines
  answered_at_law k h = tab_get (fitting_at asked lines) 48 k 0 h

  settled : (k : ℕ) → common (fitting_at asked lines k) (offered_at k) ≡ fitting_at asked lines k
  unfolding common fitting_at
  settled k =
      set_same _ _
      (each {P = λ (s : Service). has (fitting_at asked lines k) s.bit ≡ (has (asked_at asked lines k) s.bit && has (offered_at k) s.bit)}
      {Q = λ (s : Service). (has (fitting_at asked lines k) s.bit && has (offered_at k) s.bit) ≡ (has (asked_at asked lines k) s.bit && has (offered_at k) s.bit)}
      (λ s i. ap (λ (x : Bool). x && has (offered_at k) s.bit) i ∙ once (has (asked_at asked lines k) s.bit) (has (offered_at k) s.bit))
      (in_set (λ t. has (asked_at asked lines k) t.bit && has (offered_at k) t.bit)))

  again_at : (k : ℕ) → k < 48 → common (get_or (negotiated_lines asked lines) k 0) (offered_at k) ≡ fitting_at asked lines k
  again_at k h = rw (answered_at_law k h) (settled k)

  -- the lines of an answer, asked for line by line, answer themselves
  pub again_by_lines : negotiated_lines 0 (negotiated_lines asked lines) ≡ negotiated_lines asked lines
  unfolding negotiated_lines fitting_at
  again_by_lines = tab_same _ _ 48 again_at

module _ (asked : ℕ) (lines : List ℕ) (given : eqb asked 0 ≡ false) where
  -- a service is on one of the answered lines
  union_has : Each (λ s. has (union_of (negotiated_lines asked lines)) s.bit ≡ any_below 48 (λ j. has (get_or (negotiated_lines asked lines) j 0) s.bit))
  unfolding union_of
  union_has = in_set (λ s. any_below 48 (λ j. has (get_or (negotiated_lines asked lines) j 0) s.bit))

  -- then it was asked for, and it is on every line that offers it
  union_at : (k : ℕ) → k < 48 → common (union_of (negotiated_lines asked lines)) (offered_at k) ≡ common asked (offered_at k)
  unfolding common
  union_at k h = set_same _ _ (each_of_two {P = λ (s : Service). (j : ℕ) → Fits s j} {Q = λ (s : Service). has (union_of (negotiated_lines asked lines)) s.bit ≡ any_below 48 (λ j. has (get_or (negotiated_lines asked lines) j 0) s.bit)} one fits union_has)
    where
      Fits : Service → ℕ → Type 0
      Fits s j = has (fitting_at asked lines j) s.bit ≡ (has asked s.bit && has (offered_at j) s.bit)

      fits : Each (λ s. (j : ℕ) → Fits s j)
      fits = each {P = λ (s : Service). (k : ℕ) → has (fitting_at asked lines k) s.bit ≡ (has (asked_at asked lines k) s.bit && has (offered_at k) s.bit)}
          {Q = λ (s : Service). (j : ℕ) → Fits s j} (λ s i j. rw given at (i j)) (fitting_has asked lines)

      one : (s : Service) → ((j : ℕ) → Fits s j)
          → has (union_of (negotiated_lines asked lines)) s.bit ≡ any_below 48 (λ j. has (get_or (negotiated_lines asked lines) j 0) s.bit)
          → (has (union_of (negotiated_lines asked lines)) s.bit && has (offered_at k) s.bit) ≡ (has asked s.bit && has (offered_at k) s.bit)
      one s i u =
          squeezed (has (union_of (negotiated_lines asked lines)) s.bit) (has asked s.bit) (has (offered_at k) s.bit)
          (λ e. let r = any_at 48 (λ j. has (get_or (negotiated_lines asked lines) j 0) s.bit) (sym u ∙ e) in
          (both (has asked s.bit) (has (offered_at r.0) s.bit) (sym (i r.0) ∙ ap (λ (l : ℕ). has l s.bit) (sym (answered_at_law asked lines r.0 r.1)) ∙ r.2)).0)
          (λ e. u ∙ any_of_law 48 (λ j. has (get_or (negotiated_lines asked lines) j 0) s.bit) k h (ap (λ (l : ℕ). has l s.bit) (answered_at_law asked lines k h) ∙ i k ∙ e))

  asked_alone : (k : ℕ) → common asked (offered_at k) ≡ fitting_at asked lines k
  unfolding fitting_at
  asked_alone k = rw given

  either_at : (k : ℕ) → k < 48 → (b : Bool) → common (cond b (get_or (negotiated_lines asked lines) k 0) (union_of (negotiated_lines asked lines))) (offered_at k) ≡ fitting_at asked lines k
  either_at k h true = again_at asked lines k h
  either_at k h false = union_at k h ∙ asked_alone k

  -- the answer to a set of services, offered again as it is, answers itself
  pub again_by_set : negotiated_lines (union_of (negotiated_lines asked lines)) (negotiated_lines asked lines) ≡ negotiated_lines asked lines
  unfolding negotiated_lines fitting_at
  again_by_set = tab_same _ _ 48 (λ k h. either_at k h (eqb (union_of (negotiated_lines asked lines)) 0))

-- one line asked for by itself: its answer, offered again as it is, asks for the service on all of its lines
abbrev line_ten : List ℕ
line_ten = negotiated_lines 0 (set (replicate 48 0) 10 0x0001)

pub not_again : negotiated_lines (union_of line_ten) line_ten ≢ line_ten
unfolding negotiated_lines union_of fitting_at common offered_at set_of has any_below tab
not_again e = absurd (omega (arith, ap (λ (l : List ℕ). get_or l 11 0) e))
