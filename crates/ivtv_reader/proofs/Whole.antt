-- What is stored are all of the records. Assumes nothing.
use mathlib.Core.Path.{◌≡◌, refl, sym, ◌∙◌}
use mathlib.Core.Bool.{Bool, true, false, cond}
use mathlib.Core.List.{List, []}
use Prim.Native.Nat.{ℕ, ◌<◌}
use native.Mathlib.Omega.{arith}
use lib.ListN.{length}
use lib.Seq.{sets}
use Rattle.wire_read.proofs.Stores.{sets_all}
use Rattle.ivtv_rules.specs.Lines.{record_of}
use Rattle.ivtv_rules.specs.Block.{joined, record_at, records_of}
use Rattle.ivtv_rules.specs.Reading.{mask_in, start_in, bit_on, count_in, line_at, lines_in, readable}
use Rattle.ivtv_rules.proofs.Joined.{joined_same}
use Rattle.ivtv_rules.proofs.Taken.{readable_parts, found_there}
use Rattle.ivtv_rules.proofs.Openings.{start_of_law, mask_most}
use Rattle.ivtv_reader.specs.Stored.{record_in, Room}
use Rattle.ivtv_reader.proofs.Openings.{start_most}
use Rattle.ivtv_reader.proofs.Taken.{records_length}

-- a block that can be read
module _ (b o : List ℕ) (t : readable b (length o) ≡ true) where
  each : (k : ℕ) → k < 36 → record_in b (start_in b) (mask_in b) k ≡ record_at (lines_in b) k
  each k h = rw (found_there b (length o) (readable_parts b (length o) t) k h) (by (bit_on (mask_in b) k))
    where
      by : (a : Bool) → cond a (record_of k (line_at b (start_in b) (count_in (mask_in b) k))) [] ≡ cond a (record_of k (cond a (line_at b (start_in b) (count_in (mask_in b) k)) [])) []
      by true = refl
      by false = refl

  -- its records fill the output
  pub whole_records : sets o 0 (joined (record_in b (start_in b) (mask_in b)) 36) ≡ records_of (lines_in b)
  unfolding records_of
  whole_records =
      let f = record_in b (start_in b) (mask_in b) in
      sets_all (joined f 36) o ((readable_parts b (length o) t).room ∙ sym (records_length b (start_in b) (mask_in b) 36))
      ∙ joined_same f (record_at (lines_in b)) 36 each

  -- what storing them asks for
  pub room_for : Room o b (start_in b) (mask_in b)
  room_for =
      let p = readable_parts b (length o) t in
      record {
        there = omega (arith, p.long);
        fits = omega (arith, p.room);
        low = start_most b;
        bits = mask_most b (start_of_law b p.opening);
      }
