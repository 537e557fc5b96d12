-- The float nearest to a whole number times a power of two. A reader of the promises need not read this. Definitions only.
use Rattle.std.specs.Prelude.{ℕ, ◌+◌, ◌-◌, ◌*◌, ◌/◌, ◌%◌, ◌^◌, ◌≤◌, ◌<◌, cond, eqb}
use Rattle.std.specs.Int.Count.{count_leading_zeros}

-- n * 2 ^ (e - 40) units, for n of at most 64 digits, are zero or a normal float's: from 2 ^ 23 units on, and below the infinity
pub record Normal (n e : ℕ) : Type 0 where
  pub least : 0 < n → 2 ^ 63 ≤ n * 2 ^ e
  pub most : e ≤ 252

-- the significand of the float nearest to n, 24 digits, for n of 64 - z digits
unfoldable pub nearest_digits : ℕ → ℕ → ℕ
nearest_digits n z = (n * 2 ^ z / 549755813888 + 1) / 2

-- the bit pattern of the float nearest to n * 2 ^ (e - 40) units
unfoldable pub nearest_bits : ℕ → ℕ → ℕ
nearest_bits n e = cond (eqb n 0) 0 ((e - count_leading_zeros 64 n) * 8388608 + nearest_digits n (count_leading_zeros 64 n))

-- ---- the same with ties to even, for n of at most 63 digits
-- m / 2 ^ 39 rounded to the nearest whole number, of two the even one
unfoldable pub even_digits : ℕ → ℕ
even_digits m = (m + 274877906943 + m / 549755813888 % 2) / 549755813888

unfoldable pub even_bits : ℕ → ℕ → ℕ
even_bits n e = cond (eqb n 0) 0 ((e - count_leading_zeros 64 n) * 8388608 + even_digits (n * 2 ^ (count_leading_zeros 64 n - 1)))
