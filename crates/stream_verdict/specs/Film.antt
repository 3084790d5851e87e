-- The verdict on the film of the last run.
use Rattle.std.specs.Prelude.{ℕ, cond, eqb}
use Rattle.stream_words.specs.Stream.{Run, Stream}
use Rattle.stream_run.specs.Stream.{streaming}
use Rattle.stream_verdict.specs.declared.Verdict.{Verdict}
use Rattle.stream_verdict.specs.declared.Verdict.TheVariants.{Running, Blank, Gaps, Complete}

-- of a run that is over: blank if none was handed over or there was no run, complete if all accepted arrivals were, else with gaps
unfoldable pub verdict_after : Run → Verdict
verdict_after r =
    cond (eqb r.ran 0) Blank
    (cond (eqb r.handed 0) Blank
    (cond (eqb r.handed r.accepted) Complete Gaps))

-- running while streaming, else of the last run
unfoldable pub verdict_of : Stream → Verdict
verdict_of s = cond (streaming s) Running (verdict_after s.run)

-- the number of each
abbrev pub verdict_number : Verdict → ℕ
verdict_number Running = 0
verdict_number Blank = 1
verdict_number Gaps = 2
verdict_number Complete = 3
