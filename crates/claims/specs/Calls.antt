-- Calls on a device, and what is given back.
use Rattle.std.specs.Prelude.{ℕ, ◌%◌, ◌^◌, List}
use Rattle.wire_signed.specs.Signed.{signed}
use Rattle.stream_words.specs.declared.Time.{Time}
use Rattle.stream_maps.specs.declared.Change.{Change}
use Rattle.stream_arrival.specs.declared.Arrival.{Arrival}

-- The streams.
pub data Kind : Type 0 where
  pictures : Kind
  captions : Kind

-- each has a type, by which requests and arrivals name it
abbrev pub type_of : Kind → ℕ
type_of Kind.pictures = 1
type_of Kind.captions = 6

-- A call: a request, any word and any argument; an arrival, any type, any bytes, the 32 bits of its seconds and of its microseconds, and
-- what is lent if not the memory of the stream of that type; or a change of the maps, which is a map or an unmap: any type, offset and length.
pub data Call : Type 0 where
  request : ℕ → List ℕ → Call
  arrival : ℕ → List ℕ → ℕ → ℕ → List ℕ → Call
  change : Change → ℕ → ℕ → ℕ → Call

-- What is given back: of a request its number and its argument, of an arrival its answer, of a map or an unmap its number.
pub data Reply : Type 0 where
  answered : ℕ → List ℕ → Reply
  taken : Arrival → Reply
  numbered : ℕ → Reply

-- a time of two numbers of 32 bits with a sign
abbrev pub arrival_time : ℕ → ℕ → Time
arrival_time x y = record { seconds = signed (x % 2 ^ 32); microseconds = signed (y % 2 ^ 32) }
