-- What the definitions of specs/ say in each case.
use Rattle.std.proofs.Common.{◌≡◌, ℕ, ◌+◌, ◌≤◌, Bool, true, false, ◌&&◌, eqb, leb, List, length, get_or, set, ap, ◌∙◌, arith, length-set, leb-true}
use mathlib.Core.Bool.{false≢true}
use Rattle.stream_words.specs.declared.Time.{Time}
use Rattle.stream_words.specs.Stream.{Stream}
use Rattle.stream_words.specs.Words.{low, stream_in}
use Rattle.stream_words.proofs.Record.{stored, stream_set, number_set, accepted_is, number_is}
use Rattle.stream_run.specs.Stream.{Numbered}
use Rattle.stream_arrival.specs.Arrivals.{Arrived, run_limit, next_number, counted, accepted_of, arrival_of}

-- a frame that is taken as whole is no longer than the frame size
pub whole_short : (whole : Bool) (n size : ℕ) → (whole && leb n size) ≡ true → n ≤ size
whole_short true n size h = leb-true n size h
whole_short false n size h = absurd (false≢true h)

-- an accepted arrival takes the next number on with the count
pub counted_numbered : (s : Stream) → Numbered s → Numbered (counted s)
counted_numbered s h = omega (arith, h)

-- the two words that count an arrival: x stands for the number behind n
pub counted_words : (w : List ℕ) (n x : ℕ) → length w ≡ 208 → n ≡ low (get_or w 12 0) → x ≡ next_number n
    → stream_in (set (set w 3 (get_or w 3 0 + 1)) 12 x) ≡ counted (stream_in w)
counted_words w n x long e f =
    let on : low x ≡ next_number (stream_in w).number = omega (arith, e, f, number_is w) in
    number_set (set w 3 (get_or w 3 0 + 1)) x (length-set w 3 (get_or w 3 0 + 1) ∙ long)
    ∙ ap (λ (s : Stream). stored s 12 x) (stream_set w 3 (get_or w 3 0 + 1) long (omega arith))
    ∙ rw (on, accepted_is w)

-- an arrival that nothing refuses: t is the stream with the arrival counted, r what becomes of it then
pub arrival_accepted : (s : Stream) (lent n : ℕ) (whole : Bool) (size : ℕ) (time : Time)
    → eqb lent s.length ≡ true → eqb s.streaming 0 ≡ false → leb run_limit s.run.accepted ≡ false
    → (t : Stream) → t ≡ counted s → (m : ℕ) → m ≡ s.number → (r : Arrived) → r ≡ accepted_of t m n whole size time
    → r ≡ arrival_of s lent n whole size time
unfolding arrival_of
arrival_accepted s lent n whole size time f g h t e m k r d = simp (f, g, h, d, e, k)
