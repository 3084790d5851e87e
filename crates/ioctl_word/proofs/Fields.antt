-- The fields of a word and the word of four parts undo each other. Assumes nothing.
use mathlib.Core.Path.{◌≡◌}
use Prim.Native.Nat.{ℕ, ◌+◌, ◌*◌, ◌%◌, ◌<◌}
use native.Mathlib.Omega.{arith}
use Rattle.ioctl_word.specs.Word.{direction_of, size_of, letter_of, number_of, word_of}

-- a number is its four fields, each at its place
sum : (w : ℕ) → direction_of w * 1073741824 + size_of w * 65536 + letter_of w * 256 + number_of w ≡ w
sum w = omega arith

-- every 32-bit word is built of its own four fields
pub rebuild : (w : ℕ) → w < 4294967296 → word_of (direction_of w) (size_of w) (letter_of w) (number_of w) ≡ w
rebuild w h =
    let d : direction_of w % 4 ≡ direction_of w = omega arith in
    let s : size_of w % 16384 ≡ size_of w = omega arith in
    let l : letter_of w % 256 ≡ letter_of w = omega arith in
    let n : number_of w % 256 ≡ number_of w = omega arith in
    rw (d, s, l, n) (sum w)

-- each field of a built word is the part that it was built of, cut to the field's width
module _ (d s l n : ℕ) where
  pub direction_of_word : direction_of (word_of d s l n) ≡ d % 4
  direction_of_word = omega arith

  pub size_of_word : size_of (word_of d s l n) ≡ s % 16384
  size_of_word = omega arith

  pub letter_of_word : letter_of (word_of d s l n) ≡ l % 256
  letter_of_word = omega arith

  pub number_of_word : number_of (word_of d s l n) ≡ n % 256
  number_of_word = omega arith
