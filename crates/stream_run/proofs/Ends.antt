-- What stores in the record do, by the stream before them. Assumes nothing.
use mathlib.Core.Path.{◌≡◌}
use Prim.Native.Nat.{ℕ}
use borrow.Author.Tests.{ne_eqb}
use lib.ListN.{length}
use Rattle.stream_words.specs.Stream.{Stream, on_queues}
use Rattle.stream_words.specs.Moves.{emptied}
use Rattle.stream_words.proofs.Record.{stored}
use Rattle.stream_run.specs.Stream.{stopped}

module _ (s : Stream) (n : ℕ) where
  -- a stop, by whether a run is on
  pub idle_end : s.streaming ≡ 0 → on_queues (λ q. emptied n) s ≡ stopped s n
  unfolding stopped
  idle_end h = simp h

  pub run_end : (d : ℕ) → (s.streaming ≡ 0 → ⊥) → d ≡ length s.queues.outgoing → on_queues (λ q. emptied n) (stored (stored s 1 0) 7 d) ≡ stopped s n
  unfolding stopped
  run_end d h e = simp (ne_eqb s.streaming 0 h, e)
