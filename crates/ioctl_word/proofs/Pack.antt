-- Fields put together by masks, shifts and ors are the sum of the fields at their places. Assumes nothing.
use mathlib.Core.Path.{◌≡◌, refl}
use Prim.Native.Nat.{ℕ, ◌+◌, ◌*◌, ◌%◌, ◌^◌, ◌<◌}
use native.Mathlib.Omega.{arith}
use lib.Bits.{bit_and, bit_or, and_mask, or_shifted}
use Rattle.ioctl_word.specs.Word.{word_of}

-- an or with what lies below a multiple of 2 ^ k is a sum
or_at : (k a b : ℕ) {x : ℕ} → x ≡ a * 2 ^ k → b < 2 ^ k → bit_or x b ≡ x + b
or_at k a b e h = rw e (or_shifted a k b h)

-- fields that are no wider than their places: a shift left is a product cut to 32 bits, and here nothing is cut
narrow : (d s l n : ℕ) → d < 4 → s < 16384 → l < 256 → n < 256
    → bit_or (bit_or (bit_or (d * 1073741824 % 4294967296) (s * 65536 % 4294967296)) (l * 256 % 4294967296)) n
    ≡ d * 1073741824 + s * 65536 + l * 256 + n
narrow d s l n hd hs hl hn =
    let e1 : d * 1073741824 % 4294967296 ≡ d * 1073741824 = omega arith in
    let e2 : s * 65536 % 4294967296 ≡ s * 65536 = omega arith in
    let e3 : l * 256 % 4294967296 ≡ l * 256 = omega arith in
    let o1 : bit_or (d * 1073741824) (s * 65536) ≡ d * 1073741824 + s * 65536 = or_at 30 d (s * 65536) refl (omega arith) in
    let o2 : bit_or (d * 1073741824 + s * 65536) (l * 256) ≡ d * 1073741824 + s * 65536 + l * 256 =
    or_at 16 (d * 16384 + s) (l * 256) (omega arith) (omega arith) in
    rw (e1, e2, e3, o1, o2) (or_at 8 (d * 4194304 + s * 256 + l) n (omega arith) hn)

-- any four parts: each mask is the remainder that cuts its part to its place
pub packed : (d s l n : ℕ)
    → bit_or (bit_or (bit_or (bit_and d 3 * 1073741824 % 4294967296) (bit_and s 16383 * 65536 % 4294967296)) (bit_and l 255 * 256 % 4294967296)) (bit_and n 255)
    ≡ word_of d s l n
packed d s l n =
    rw (and_mask d 2, and_mask s 14, and_mask l 8, and_mask n 8)
    (narrow (d % 4) (s % 16384) (l % 256) (n % 256) (omega arith) (omega arith) (omega arith) (omega arith))
