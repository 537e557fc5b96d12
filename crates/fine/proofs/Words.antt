-- Words: products of two numbers of 64 digits out of products of 32. Assumes nothing.
use mathlib.Core.Path.{◌≡◌}
use Prim.Native.Nat.{ℕ, ◌+◌, ◌*◌, ◌/◌, ◌%◌, ◌^◌}
use native.Mathlib.Omega.{arith}

-- the four products of the words, with their carries
pub product : (p t : ℕ) →
    let l = p % 4294967296 * (t % 4294967296) in
    let f = p / 4294967296 * (t % 4294967296) + l / 4294967296 in
    let s = p % 4294967296 * (t / 4294967296) + f % 4294967296 in
    p / 4294967296 * (t / 4294967296) + f / 4294967296 + s / 4294967296 ≡ p * t / 2 ^ 64
product p t =
    carried (p / 4294967296) (p % 4294967296) (t / 4294967296) (t % 4294967296) p t (omega arith) (omega arith)
  where
    carried : (a b c d p t : ℕ) → p ≡ a * 4294967296 + b → t ≡ c * 4294967296 + d →
        a * c + (a * d + b * d / 4294967296) / 4294967296
        + (b * c + (a * d + b * d / 4294967296) % 4294967296) / 4294967296 ≡ p * t / 2 ^ 64
    carried a b c d p t h k = rw (h, k) (omega arith)
