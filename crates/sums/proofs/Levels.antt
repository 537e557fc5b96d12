-- The number of levels: the least h with n ≤ 2 ^ h, never more than n - 1. Assumes nothing.
use mathlib.Core.Path.{◌≡◌, refl}
use Prim.Native.Nat.{ℕ, zero, suc, ◌+◌, ◌-◌, ◌^◌, ◌≤◌, ◌<◌}
use native.Mathlib.Omega.{arith}
use lib.Pow.{pow_pos}
use lib.Ieee.{size}
use lib.Ieee.Digits.{size-lt, size-le}
use Rattle.sums.specs.Dot.{levels}
use Rattle.sums.proofs.Rows.{twice}

-- 1, 2, 3, 64, 65 and 65,536 products have 0, 1, 2, 6, 7 and 16 levels, seen by computing
seen : (levels 1 ≡ 0) × (levels 2 ≡ 1) × (levels 3 ≡ 2) × (levels 64 ≡ 6) × (levels 65 ≡ 7) × (levels 65536 ≡ 16)
unfolding size
seen = (refl, refl, refl, refl, refl, refl)

-- it is enough
pub enough : (n : ℕ) → n ≤ 2 ^ levels n
enough n = let l = size-lt (n - 1) in omega arith

-- and nothing less is
pub least : (n k : ℕ) → n ≤ 2 ^ k → levels n ≤ k
least n k h = let p = pow_pos k in size-le (n - 1) k (omega arith)

grows : (m : ℕ) → m + 1 ≤ 2 ^ m
grows zero = omega arith
grows (suc m) = let h = grows m in let d = twice m in omega arith

-- with the product's own rounding no more than n
pub no_more : (n : ℕ) → 0 < n → levels n + 1 ≤ n
no_more n p = let g = grows (n - 1) in let l = least n (n - 1) (omega arith) in omega arith
