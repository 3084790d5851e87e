-- No machine with one of the faults of the maps meets the demands.
use mathlib.Core.Path.{◌≡◌, refl}
use mathlib.Core.Logic.{inl}
use Prim.Native.Nat.{ℕ, ◌<◌}
use native.Mathlib.Omega.{arith}
use mathlib.Core.List.{List}
use Rattle.wire_read.specs.Words.{word_at}
use Rattle.ioctl_table.specs.Table.{request_of, call_of, known_words}
use Rattle.ioctl_table.specs.declared.table.Call.TheVariants.{Querybuf}
use Rattle.stream_maps.specs.declared.Change.TheVariants.{Map}
use Rattle.stream_words.specs.Moves.{no_frame}
use Rattle.stream_status.specs.declared.Status.{Status}
use Rattle.stream_status.specs.Buffer.{described_of}
use Rattle.buffer_replies.specs.Replies.{buffer_reply}
use Rattle.buffer_replies.proofs.Lengths.{buffer_length, buffer_index, buffer_word}
use Rattle.claims.specs.Calls.{Kind, type_of}
use Rattle.claims_maps.specs.Faults.{MapFaults}

-- an argument of QUERYBUF that names a buffer of a stream
abbrev named : Kind → ℕ → Status
named k j = described_of j 0 no_frame 0

named_index : (k : Kind) (j : ℕ) → j < 32 → word_at (buffer_reply (type_of k) (named k j)) 0 ≡ j
unfolding described_of
named_index k j h = buffer_index (type_of k) (named k j) (omega arith)

named_type : (k : Kind) (j : ℕ) → word_at (buffer_reply (type_of k) (named k j)) 4 ≡ type_of k
named_type Kind.pictures j = buffer_word 1 (named Kind.pictures j) 1 (omega arith) (omega arith)
named_type Kind.captions j = buffer_word 6 (named Kind.captions j) 1 (omega arith) (omega arith)

-- the word of QUERYBUF
querybuf : (request_of 0xC0445609).call ≡ Querybuf
unfolding request_of call_of known_words
querybuf = refl

pub map_faults : MapFaults
map_faults = record {
  granted_anew = λ M (s, m, k, cs, w, a, o, l, e, type, z, more-maps) x. omega (arith, more-maps, (x.maps_kept s m k).unmapped cs w a e type z o l);
  held_by_other = λ M (s, m, k, cs, w, a, e, type, zero, z, none) x.
      let (o, l, more-maps) = (x.maps_kept s m k).only cs w a e type zero z in
      omega (arith, more-maps, none o l);
  mapped_too_often = λ M (s, m, k, cs, o, l, h) x. omega (arith, h, (x.maps_kept s m k).most cs o l);
  misflagged = λ M (s, m, k, cs, w, a, c, type, z, lies) x. lies ((x.maps_kept s m k).flagged cs w a c type z);
  any_length_law = λ M (s, m, k, cs, o, l, h, none) x.
      let (j, few, told) = (x.maps_kept s m k).told cs Map o l h in
      let a : List ℕ = buffer_reply (type_of k) (named k j) in
      let (z, at, long) = told 0xC0445609 a querybuf (buffer_length (type_of k) (named k j)) (named_type k j) (named_index k j few) in
      none 0xC0445609 a (inl querybuf) (named_type k j) z long;
}
