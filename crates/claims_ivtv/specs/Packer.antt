-- Any machine that writes and reads blocks, and ours.
use Rattle.std.specs.Prelude.{ℕ, List, length}
use Rattle.ivtv_rules.specs.Writing.{pack_number, packed}
use Rattle.ivtv_rules.specs.Reading.{unpack_number, unpacked}

-- what a call gives back: a number, and what its output holds then
pub record Gives : Type 0 where
  pub number : ℕ
  pub output : List ℕ

-- A machine: what it gives for what it is lent to read, and for what its output held before.
pub record Packer : Type 0 where
  pub pack : List ℕ → List ℕ → Gives
  pub unpack : List ℕ → List ℕ → Gives

-- ours, by the definitions that the contracts of pack and unpack cite
abbrev pub our_packer : Packer
our_packer = record {
  pack = λ s o. record { number = pack_number s (length o); output = packed s o };
  unpack = λ b o. record { number = unpack_number b (length o); output = unpacked b o };
}
