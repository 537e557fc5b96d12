-- What the programs compute for the two roots. A reader of the promises need not read this: Sqrt and Rsqrt name `sqrt_of` and `rsqrt_of` and say all that is promised
-- of them. Definitions only.
use Rattle.std.specs.Prelude.{ℕ, zero, suc, ◌+◌, ◌-◌, ◌*◌, ◌/◌, ◌%◌, ◌^◌, ◌<◌, ◌≤◌, Bool, cond, ◌==◌, from_bits, nat_le, Float}
use Rattle.std.specs.Float.{binary32}
use Rattle.units.specs.Units.{mag}
use Rattle.fixed.specs.Parts.{significand, exponent}

-- the least of the numbers 0, 1, .., k - 1 that passes a test, and k where none does
unfoldable pub least_passing : (ℕ → Bool) → ℕ → ℕ
least_passing passes zero = zero
least_passing passes (suc k) = cond (passes (least_passing passes k)) (least_passing passes k) (suc (least_passing passes k))

-- ---- the square root of a float with the significand m and the exponent e

-- S is the whole number nearest to √n: S - 1/2 < √n < S + 1/2
pub record IsNear (n S : ℕ) : Type 0 where
  pub half_above : n ≤ S * S + S
  pub half_below : S * S < n + S

-- that number: the least q with √n ≤ q + 1/2
unfoldable pub near_root : ℕ → ℕ
near_root n = least_passing (λ q. nat_le n (q * q + q)) n

-- the 47 or 48 digits that the root is taken of: as many after the significand as leave an even exponent, whose half is the exponent of the result
abbrev pub shifted : ℕ → ℕ
shifted e = 23 + e % 2

abbrev pub radicand : ℕ → ℕ → ℕ
radicand m e = m * 2 ^ shifted e

abbrev pub halved : ℕ → ℕ
halved e = e / 2 + 51

-- the 24 digits of the root, put together with half the exponent: a bit pattern
unfoldable pub sqrt_bits : Float → ℕ
sqrt_bits x = halved (exponent x) * 8388608 + near_root (radicand (significand x) (exponent x))

-- and its float; of zero the same zero
unfoldable pub sqrt_of : Float → Float
sqrt_of x = cond (mag x == 0) x (from_bits binary32 (sqrt_bits x))

-- ---- the reciprocal root

-- h is the whole number nearest to √(t / m): h - 1/2 < √(t / m) ≤ h + 1/2
pub record IsNearRecip (t m h : ℕ) : Type 0 where
  pub half_above : 4 * t ≤ (2 * h + 1) * (2 * h + 1) * m
  pub half_below : (2 * h - 1) * (2 * h - 1) * m < 4 * t

-- that number: the least h with √(t / m) ≤ h + 1/2, looked for below 2 ^ 25
unfoldable pub near_recip : ℕ → ℕ → ℕ
near_recip t m = least_passing (λ h. nat_le (4 * t) ((2 * h + 1) * (2 * h + 1) * m)) (2 ^ 25)

-- minus the exponent: its parity goes into the power of two that the significand divides, and its half is the exponent of the result
abbrev pub parity : ℕ → ℕ
parity e = (401 - e) % 2

abbrev pub turned : ℕ → ℕ
turned e = (401 - e) / 2

-- the 24 digits of the reciprocal root, put together with minus half the exponent: a bit pattern
unfoldable pub rsqrt_bits : Float → ℕ
rsqrt_bits x = turned (exponent x) * 8388608 + near_recip (2 ^ (70 + parity (exponent x))) (significand x)

-- and its float
unfoldable pub rsqrt_of : Float → Float
rsqrt_of x = from_bits binary32 (rsqrt_bits x)
