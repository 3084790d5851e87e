-- The stream that stands in 208 words. Places 0 to 7 are its record, 8 the buffers granted. The buffers in the queues stand in one line: the ith
-- of the line has place (word 9 + i) modulo 32 in five rings of 32 words each, from 16 on its index, from 48 the frame's number, from 80 its bytes
-- used, from 112 and 144 its time. Word 11 says how many stand in the line, and word 10 how many of them, from its start, hold a frame: those are
-- outgoing, the others incoming. Word 12 is the number that the next arrival gets. From 176 on stands how often each buffer is mapped, in the order of
-- the indices. Words 13 to 15 are not used.
use Rattle.std.specs.Prelude.{ℕ, ◌+◌, ◌-◌, ◌%◌, ◌^◌, min, List, get_or}
use Rattle.wire_signed.specs.Signed.{signed}
use Rattle.stream_words.specs.declared.Time.{Time}
use Rattle.stream_words.specs.declared.Filled.{Filled}
use Rattle.wire_read.specs.Lists.{tab}
use Rattle.stream_words.specs.Stream.{Queues, Stream}

-- the lower 32 bits of a word
abbrev pub low : ℕ → ℕ
low n = n % 2 ^ 32

-- a time, given by the 32 bits of each number
abbrev pub time_of : ℕ → ℕ → Time
time_of sec usec = record { seconds = signed sec; microseconds = signed usec }

-- how many buffers stand in the line: there is room for 32
abbrev pub lined_in : List ℕ → ℕ
lined_in w = min (get_or w 11 0) 32

-- how many of them hold a frame
abbrev pub holding_in : List ℕ → ℕ
holding_in w = min (get_or w 10 0) (lined_in w)

-- the place in the rings of the ith in line
abbrev pub place_in : List ℕ → ℕ → ℕ
place_in w i = (get_or w 9 0 + i) % 32

-- its index
unfoldable pub index_in : List ℕ → ℕ → ℕ
index_in w i = low (get_or w (16 + place_in w i) 0)

-- the frame in it
unfoldable pub frame_in : List ℕ → ℕ → Filled
frame_in w i =
    record {
      index = index_in w i;
      number = low (get_or w (48 + place_in w i) 0);
      used = low (get_or w (80 + place_in w i) 0);
      time = time_of (low (get_or w (112 + place_in w i) 0)) (low (get_or w (144 + place_in w i) 0));
    }

-- the buffers in the words
unfoldable pub queues_in : List ℕ → Queues
queues_in w =
    record {
      granted = get_or w 8 0;
      incoming = tab (λ i. index_in w (holding_in w + i)) (lined_in w - holding_in w);
      outgoing = tab (λ i. frame_in w i) (holding_in w);
    }

-- how often each buffer is mapped
unfoldable pub maps_in : List ℕ → List ℕ
maps_in w = tab (λ k. get_or w (176 + k) 0) 32

-- the stream in the words
unfoldable pub stream_in : List ℕ → Stream
stream_in w =
    record {
      length = get_or w 0 0;
      streaming = get_or w 1 0;
      run = record { ran = get_or w 2 0; accepted = get_or w 3 0; handed = get_or w 4 0; damaged = get_or w 5 0; dropped = get_or w 6 0; discarded = get_or w 7 0 };
      number = low (get_or w 12 0);
      queues = queues_in w;
      maps = maps_in w;
    }
