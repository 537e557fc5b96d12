-- How far two numbers are apart, said without subtracting: bounds add up, and a factor can be multiplied in.
-- `omega arith` shows most of these by itself, but not beside a number of more than 38 digits, such as 2 ^ 149: hence the names.
use Prim.Native.Nat.{ℕ, ◌+◌, ◌*◌, ◌≤◌}
use native.Mathlib.Nat.{mul-le-mul_right}
use native.Mathlib.Omega.{arith}

-- a and b are at most d apart
pub record Near (a b d : ℕ) : Type 0 where
  pub at_most : a ≤ b + d
  pub at_least : b ≤ a + d

-- either way round
pub near_sym : {a b d : ℕ} → Near a b d → Near b a d
near_sym h = record { at_most = h.at_least; at_least = h.at_most }

-- a factor multiplied in
pub near_scale : {a b d : ℕ} (k : ℕ) → Near a b d → Near (a * k) (b * k) (d * k)
near_scale {a} {b} {d} k h =
    let l : a * k ≤ (b + d) * k = mul-le-mul_right k h.at_most in
    let m : b * k ≤ (a + d) * k = mul-le-mul_right k h.at_least in
    omega arith
