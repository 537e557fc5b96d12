-- Bounds on cosine and sine from their first terms: 1 - t ^ 2 ≤ cos t ≤ 1 and 0 ≤ sin t ≤ t, for t = p / q not too large, by every partial sum from the fifth on.
use mathlib.Core.Path.{◌≡◌, refl}
use Prim.Native.Nat.{ℕ, ◌+◌, ◌*◌, ◌^◌, ◌≤◌, ◌<◌}
use native.Mathlib.Nat.{mul-pos, pow-suc, mul-le-mul, mul-le-mul_left, mul-le-mul_right, le_of_mul-le-mul_left, le_of_mul-le-mul_right}
use native.Mathlib.Omega.{arith}
use Rattle.exact.specs.Series.{partial, denominator, fourth}
use Rattle.exact.proofs.Series.{partial_grows, partial_tail, fourth_most}
use Rattle.exact.proofs.Power.{pow-one, pow-two}

pow_three : (p : ℕ) → p ^ 3 ≡ p * p * p
pow_three p = rw (pow-suc p 2, pow-two p) refl

pow_four : (p : ℕ) → p ^ 4 ≡ p * p * (p * p)
pow_four p = rw (pow-suc p 3, pow_three p) (omega arith)

pow_five : (p : ℕ) → p ^ 5 ≡ p * p * (p * p) * p
pow_five p = rw (pow-suc p 4, pow_four p) refl

-- ---- the four sums, as far as their first terms say

module _ (p q n : ℕ) (many : 5 ≤ n) where
  zeroth_least : denominator q n ≤ partial (fourth 0) p q n
  unfolding partial denominator fourth
  zeroth_least = omega (arith, partial_grows (fourth 0) p q 0 n (omega arith))

  zeroth_most : 2 * p ≤ 5 * q → partial (fourth 0) p q n * (12 * (q * q * (q * q))) ≤ (12 * (q * q * (q * q)) + p * p * (p * p)) * denominator q n
  unfolding partial denominator fourth
  zeroth_most small = omega (arith, rw (pow_four p) at (partial_tail (fourth 0) (fourth_most 0) p q 4 n small (omega arith)))

  first_least : p * denominator q n ≤ partial (fourth 1) p q n * q
  unfolding partial denominator fourth
  first_least = omega (arith, rw (pow-one p) at (partial_grows (fourth 1) p q 1 n (omega arith)))

  first_most : 2 * p ≤ 6 * q → partial (fourth 1) p q n * (60 * (q * q * (q * q) * q)) ≤ (60 * (q * q * (q * q) * p) + p * p * (p * p) * p) * denominator q n
  unfolding partial denominator fourth
  first_most small = omega (arith, rw (pow-one p, pow_five p) at (partial_tail (fourth 1) (fourth_most 1) p q 5 n small (omega arith)))

  second_least : p * p * denominator q n ≤ partial (fourth 2) p q n * (2 * (q * q))
  unfolding partial denominator fourth
  second_least = omega (arith, rw (pow-two p) at (partial_grows (fourth 2) p q 2 n (omega arith)))

  second_most : 2 * p ≤ 3 * q → partial (fourth 2) p q n * (q * q) ≤ p * p * denominator q n
  unfolding partial denominator fourth
  second_most small = omega (arith, rw (pow-two p) at (partial_tail (fourth 2) (fourth_most 2) p q 2 n small (omega arith)))

  third_least : p * p * p * denominator q n ≤ partial (fourth 3) p q n * (6 * (q * q * q))
  unfolding partial denominator fourth
  third_least = omega (arith, rw (pow_three p) at (partial_grows (fourth 3) p q 3 n (omega arith)))

  third_most : 2 * p ≤ 4 * q → partial (fourth 3) p q n * (3 * (q * q * q)) ≤ p * p * p * denominator q n
  unfolding partial denominator fourth
  third_most small = omega (arith, rw (pow_three p) at (partial_tail (fourth 3) (fourth_most 3) p q 3 n small (omega arith)))

  -- ---- cosine and sine, where t ≤ 8 / 5

  module _ (pos : 0 < q) (small : 5 * p ≤ 8 * q) where
    squares : 25 * (p * p) ≤ 64 * (q * q)
    squares = omega (arith, mul-le-mul_left p small, mul-le-mul_left q small)

    -- cos t ≤ 1
    pub cosine_most : partial (fourth 0) p q n ≤ partial (fourth 2) p q n + denominator q n
    cosine_most = le_of_mul-le-mul_right (through (partial (fourth 0) p q n) (partial (fourth 2) p q n) (denominator q n) (p * p) (q * q) (zeroth_most (omega arith)) second_least squares) (mul-pos (omega arith) (mul-pos (mul-pos pos pos) (mul-pos pos pos)))
      where
        through : (E F o P Q : ℕ) → E * (12 * (Q * Q)) ≤ (12 * (Q * Q) + P * P) * o → P * o ≤ F * (2 * Q) → 25 * P ≤ 64 * Q → E * (12 * (Q * Q)) ≤ (F + o) * (12 * (Q * Q))
        through E F o P Q x y z = omega (arith, mul-le-mul_left P y, mul-le-mul_left (F * Q) z)

    -- 1 - t ^ 2 ≤ cos t
    pub cosine_least : 2 * p ≤ 3 * q → q * q * (partial (fourth 2) p q n + denominator q n) ≤ q * q * partial (fourth 0) p q n + p * p * denominator q n
    cosine_least less = omega (arith, mul-le-mul_left (q * q) zeroth_least, second_most less)

    -- 0 ≤ cos t, where t ≤ 1
    pub cosine_plus : p ≤ q → partial (fourth 2) p q n ≤ partial (fourth 0) p q n
    cosine_plus less = le_of_mul-le-mul_left (omega (arith, cosine_least (omega arith), mul-le-mul_right (denominator q n) (mul-le-mul less less))) (mul-pos pos pos)

    -- 0 ≤ sin t
    pub sine_least : partial (fourth 3) p q n ≤ partial (fourth 1) p q n
    sine_least = le_of_mul-le-mul_right (through (partial (fourth 1) p q n) (partial (fourth 3) p q n) (denominator q n) (p * p) (q * q) (third_most (omega arith)) first_least squares) (mul-pos (omega arith) (mul-pos (mul-pos pos pos) pos))
      where
        through : (E F o P Q : ℕ) → F * (3 * (Q * q)) ≤ P * p * o → p * o ≤ E * q → 25 * P ≤ 64 * Q → F * (3 * (Q * q)) ≤ E * (3 * (Q * q))
        through E F o P Q x y z = omega (arith, mul-le-mul_left P y, mul-le-mul_left (E * q) z)

    -- sin t ≤ t
    pub sine_most : q * partial (fourth 1) p q n ≤ q * partial (fourth 3) p q n + p * denominator q n
    sine_most = le_of_mul-le-mul_right (through (partial (fourth 1) p q n) (partial (fourth 3) p q n) (denominator q n) (p * p) (q * q) (first_most (omega arith)) third_least squares) (mul-pos (omega arith) (mul-pos (mul-pos pos pos) (mul-pos pos pos)))
      where
        through : (E F o P Q : ℕ) → E * (60 * (Q * Q * q)) ≤ (60 * (Q * Q * p) + P * P * p) * o → P * p * o ≤ F * (6 * (Q * q)) → 25 * P ≤ 64 * Q → q * E * (60 * (Q * Q)) ≤ (q * F + p * o) * (60 * (Q * Q))
        through E F o P Q x y z = omega (arith, mul-le-mul_left P y, mul-le-mul_left (F * Q * q) z)
