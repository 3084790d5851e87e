-- What STREAMON and STREAMOFF of one stream answer.
use Rattle.std.specs.Prelude.{ℕ, List}
use Rattle.stream_words.specs.Stream.{Stream}
use Rattle.stream_run.specs.Switches.{start_of, stop_of}
use Rattle.buffer_calls.specs.Buffers.{StreamAnswer, stepped}

-- STREAMON and STREAMOFF: the argument stays, and neither type nor size matters
unfoldable pub streamon_of : Stream → ℕ → ℕ → List ℕ → StreamAnswer
streamon_of s kind size a = stepped (start_of s) a

unfoldable pub streamoff_of : Stream → ℕ → ℕ → List ℕ → StreamAnswer
streamoff_of s kind size a = stepped (stop_of s) a
