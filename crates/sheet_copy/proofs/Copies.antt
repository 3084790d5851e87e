-- The device's copy of a sheet has the sheet's fields: behind the sheet stand zeros, and past a sheet's end there is 0 too.
-- Assumes nothing.
use Prim.Native.Nat.{ℕ, ◌+◌, ◌-◌, ◌≤◌}
use mathlib.Core.Path.{◌≡◌}
use mathlib.Core.List.{List}
use native.Mathlib.Omega.{arith}
use lib.ListN.{length, get_or, take, drop, replicate, length-drop}
use lib.Seq.{take-append-le, drop-append-le}
use Rattle.wire_read.specs.Words.{word_at}
use Rattle.wire_signed.specs.Signed.{signed_at}
use Rattle.wire_read.proofs.Stores.{over_zeros, byte_over_zeros}
use Rattle.wire_read.proofs.Words.{word_same}
use Rattle.sheet_copy.specs.Copy.{kept_of}
use Rattle.sheet_contents.specs.Contents.{identity_at, identity_of, formats_at, format_count, geometry_at, controls_at, control_count, format_at, control_at}
use Rattle.sheet_records.specs.Records.{format_code, format_description, control_id, control_kind, limits_of, control_flags, control_fields, control_record}

module _ (s : List ℕ) (fits : length s ≤ 2688) where
  kept_byte : (j : ℕ) → get_or (kept_of s) j 0 ≡ get_or s j 0
  unfolding kept_of
  kept_byte j = byte_over_zeros s 2688 fits j

  -- every word of the copy is the sheet's, and so is every number in it
  pub kept_word : (at : ℕ) → word_at (kept_of s) at ≡ word_at s at
  kept_word at = word_same (kept_of s) s at at (λ k h. kept_byte (at + k))

  pub kept_signed : (at : ℕ) → signed_at (kept_of s) at ≡ signed_at s at
  unfolding signed_at
  kept_signed at = rw (kept_word at)

  -- a part within the sheet is the sheet's
  pub kept_part : (at n : ℕ) → at + n ≤ length s → take n (drop at (kept_of s)) ≡ take n (drop at s)
  unfolding kept_of
  kept_part at n h =
      rw (
        over_zeros s 2688 (2688 - length s) (omega arith),
        drop-append-le at s (replicate (2688 - length s) 0) (omega arith),
        take-append-le n (drop at s) (replicate (2688 - length s) 0) (simp length-drop (omega arith)),
      )

  pub kept_format_count : format_count (kept_of s) ≡ format_count s
  unfolding format_count
  kept_format_count = kept_word 12

  pub kept_control_count : control_count (kept_of s) ≡ control_count s
  unfolding control_count
  kept_control_count = kept_word 28

  -- the places of the bodies
  kept_identity_at : identity_at (kept_of s) ≡ identity_at s
  unfolding identity_at
  kept_identity_at = kept_word 0

  kept_format_at : (k : ℕ) → format_at (kept_of s) k ≡ format_at s k
  unfolding format_at formats_at
  kept_format_at k = rw (kept_word 8)

  pub kept_geometry_at : geometry_at (kept_of s) ≡ geometry_at s
  unfolding geometry_at
  kept_geometry_at = kept_word 16

  kept_control_at : (k : ℕ) → control_at (kept_of s) k ≡ control_at s k
  unfolding control_at controls_at
  kept_control_at k = rw (kept_word 24)

  pub kept_code : (k : ℕ) → format_code (kept_of s) k ≡ format_code s k
  unfolding format_code
  kept_code k = rw (kept_format_at k) (kept_word (format_at s k))

  pub kept_description : (k : ℕ) → format_at s k + 36 ≤ length s → format_description (kept_of s) k ≡ format_description s k
  unfolding format_description
  kept_description k h = rw (kept_format_at k) (kept_part (format_at s k + 4) 32 (omega arith))

  pub kept_identity : identity_at s + 84 ≤ length s → identity_of (kept_of s) ≡ identity_of s
  unfolding identity_of
  kept_identity h = rw kept_identity_at (kept_part (identity_at s) 84 h)

  pub kept_id : (k : ℕ) → control_id (kept_of s) k ≡ control_id s k
  unfolding control_id
  kept_id k = rw (kept_control_at k) (kept_word (control_at s k))

  pub kept_limits : (k : ℕ) → limits_of (kept_of s) k ≡ limits_of s k
  unfolding limits_of
  kept_limits k =
      rw (
        kept_control_at k,
        kept_signed (control_at s k + 40),
        kept_signed (control_at s k + 44),
        kept_signed (control_at s k + 48),
        kept_signed (control_at s k + 52),
      )

  pub kept_control : (k : ℕ) → control_fields (kept_of s) k ≡ control_fields s k
  unfolding control_fields control_kind control_flags
  kept_control k =
      rw (kept_id k, kept_limits k, kept_control_at k, kept_word (control_at s k + 4), kept_word (control_at s k + 56))

  pub kept_record : (k : ℕ) → control_at s k + 68 ≤ length s → control_record (kept_of s) k ≡ control_record s k
  unfolding control_record
  kept_record k h = rw (kept_control_at k) (kept_part (control_at s k) 68 h)
