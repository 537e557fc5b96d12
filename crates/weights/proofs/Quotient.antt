-- The weights u_i of powers t_i, scaled by r and c so that the sum of the powers is 1, against the exact quotient t_i / (sum of t_j), and their sum against 1.
-- All over any families of whole numbers. Assumes nothing.
use Prim.Native.Nat.{ℕ, ◌+◌, ◌-◌, ◌*◌, ◌^◌, ◌≤◌, ◌<◌}
use native.Mathlib.Nat.{mul-le-mul_left, mul-le-mul_right, le_of_mul-le-mul_right}
use native.Mathlib.Omega.{arith}
use lib.Dec.{lit<, lit≤}
use lib.Pow.{pow_pos, pow_mono}
use Rattle.powers.specs.Fixed.{fixed_above, fixed_below}
use Rattle.weights.specs.Lists.{sum}
use Rattle.weights.specs.Softmax.{softmax_error_num, softmax_error_den, whole_error_num, whole_error_den}
use Rattle.weights.proofs.Families.{sum-le, sum_within}
use Rattle.weights.proofs.Inverting.{Inverse}

module _ (t u : ℕ → ℕ) (n r c : ℕ) (inverse : Inverse (sum t n) r c)
    (most : (i : ℕ) → i < n → u i * 2 ^ 24 * 2 ^ c ≤ t i * r * 2 ^ 75 * (2 ^ 24 + 1))
    (least : (i : ℕ) → i < n → t i * r * 2 ^ 75 * (2 ^ 24 - 1) ≤ (u i + 1) * 2 ^ 24 * 2 ^ c) where
  abbrev T : ℕ
  T = sum t n

  -- u_i / 2 ^ 149 ≤ (1 + 2 ^ -24) t_i / T
  pub quotient_most : (i : ℕ) → i < n → u i * 2 ^ 24 * T ≤ t i * (2 ^ 24 + 1) * 2 ^ 149
  quotient_most i h = le_of_mul-le-mul_right (through (u i) (t i) T (2 ^ 24) (2 ^ 24 + 1) (2 ^ 75) (2 ^ 74) (2 ^ c) (most i h) inverse.most) (pow_pos c)
    where
      through : (u t T A K L M C : ℕ) → u * A * C ≤ t * r * L * K → T * r ≤ M * C → u * A * T * C ≤ t * K * (L * M) * C
      through u t T A K L M C a b = omega (arith, mul-le-mul_right T a, mul-le-mul_left (t * L * K) b)

  -- (1 - 2 ^ -24) (1 - 7 2 ^ -32) t_i / T ≤ (u_i + 1) / 2 ^ 149
  pub quotient_least : (i : ℕ) → i < n → t i * (2 ^ 24 - 1) * (2 ^ 32 - 7) * 2 ^ 149 ≤ (u i + 1) * 2 ^ 24 * 2 ^ 32 * T
  quotient_least i h = le_of_mul-le-mul_right (through (u i + 1) (t i) T (2 ^ 24) (2 ^ 24 - 1) (2 ^ 32 - 7) (2 ^ 32) (2 ^ 75) (2 ^ 74) (2 ^ c) (least i h) inverse.least) (pow_pos c)
    where
      through : (v t T A K J D L M C : ℕ) → t * r * L * K ≤ v * A * C → J * (M * C) ≤ D * (T * r) → t * K * J * (L * M) * C ≤ v * A * D * T * C
      through v t T A K J D L M C a b = omega (arith, mul-le-mul_right (T * D) a, mul-le-mul_left (t * K * L) b)

  -- ---- the sum
  abbrev W : ℕ
  W = sum u n

  total_most : W * (2 ^ 24 * 2 ^ c) ≤ T * (r * 2 ^ 75 * (2 ^ 24 + 1))
  total_most = sum-le u t (2 ^ 24 * 2 ^ c) (r * 2 ^ 75 * (2 ^ 24 + 1)) n (λ i h. turned (u i) (t i) (2 ^ 24) (2 ^ c) (2 ^ 75) (2 ^ 24 + 1) (most i h))
    where
      turned : (u t A C L K : ℕ) → u * A * C ≤ t * r * L * K → u * (A * C) ≤ t * (r * L * K)
      turned u t A C L K h = omega arith

  total_least : T * (r * 2 ^ 75 * (2 ^ 24 - 1)) ≤ (W + 1 * n) * (2 ^ 24 * 2 ^ c)
  total_least = sum_within t u (r * 2 ^ 75 * (2 ^ 24 - 1)) (2 ^ 24 * 2 ^ c) 1 n (λ i h. turned (u i) (t i) (2 ^ 24) (2 ^ c) (2 ^ 75) (2 ^ 24 - 1) (least i h))
    where
      turned : (u t A C L K : ℕ) → t * r * L * K ≤ (u + 1) * A * C → t * (r * L * K) ≤ (u + 1) * (A * C)
      turned u t A C L K h = omega arith

  -- at most 1 + 263 2 ^ -32
  pub whole_most : whole_error_den * W ≤ (whole_error_den + whole_error_num) * 2 ^ 149
  whole_most = enough W (2 ^ 149) (le_of_mul-le-mul_right (through W T (2 ^ 24) (2 ^ 24 + 1) (2 ^ 75) (2 ^ 74) (2 ^ c) total_most inverse.most) (pow_pos c))
    where
      through : (W T A K L M C : ℕ) → W * (A * C) ≤ T * (r * L * K) → T * r ≤ M * C → W * A * C ≤ L * M * K * C
      through W T A K L M C a b = omega (arith, mul-le-mul_left (L * K) b)

      enough : (W M : ℕ) → W * 2 ^ 24 ≤ M * (2 ^ 24 + 1) → whole_error_den * W ≤ (whole_error_den + whole_error_num) * M
      enough W M h = omega arith

  -- at least 1 - 263 2 ^ -32: the units that are cut off, one for each, count for nothing
  pub whole_least : n ≤ 1024 → (whole_error_den - whole_error_num) * 2 ^ 149 ≤ whole_error_den * W
  whole_least few = enough W (2 ^ 149) (pow_mono {i = 66} {j = 149} (omega arith)) (le_of_mul-le-mul_right (through W T (2 ^ 24) (2 ^ 24 - 1) (2 ^ 32 - 7) (2 ^ 32) (2 ^ 75) (2 ^ 74) (2 ^ c) total_least inverse.least) (pow_pos c))
    where
      through : (W T A K J D L M C : ℕ) → T * (r * L * K) ≤ (W + 1 * n) * (A * C) → J * (M * C) ≤ D * (T * r) → L * M * K * J * C ≤ D * (W + n) * A * C
      through W T A K J D L M C a b = omega (arith, mul-le-mul_left (L * K) b, mul-le-mul_left D a)

      enough : (W M : ℕ) → 2 ^ 66 ≤ M → M * (2 ^ 24 - 1) * (2 ^ 32 - 7) ≤ 2 ^ 32 * (W + n) * 2 ^ 24 → (whole_error_den - whole_error_num) * M ≤ whole_error_den * W
      enough W M l h = omega arith

-- ---- ratios

-- a is at most z / w of b, and b at most z' / w' of c
pub ratio_trans : (a b c w z w' z' : ℕ) → a * w ≤ b * z → b * w' ≤ c * z' → a * (w * w') ≤ c * (z * z')
ratio_trans a b c w z w' z' h g = omega (arith, mul-le-mul_right w' h, mul-le-mul_right z g)

-- and m / k is no less than z / w
pub ratio_weaker : (a c w z k m : ℕ) → 0 < z → a * w ≤ c * z → k * z ≤ m * w → k * a ≤ m * c
ratio_weaker a c w z k m pos h g = le_of_mul-le-mul_right (through z w h g) pos
  where
    through : (z w : ℕ) → a * w ≤ c * z → k * z ≤ m * w → k * a * z ≤ m * c * z
    through z w h g = omega (arith, mul-le-mul_left m h, mul-le-mul_left a g)

-- ---- from the powers in fixed point, t of T, to the real powers: for any enclosure of these over d, the one from l to u and the sum from L to R.
-- B is the unit of the powers, M that of the result p
module _ (p T t d B M : ℕ) (positive : 0 < B) where
  -- the powers' unit falls out
  without : (a b a' b' : ℕ) → a * (b * B) ≤ a' * (b' * B) → a * b ≤ a' * b'
  without a b a' b' h = le_of_mul-le-mul_right (grouped B h) positive
    where
      grouped : (B : ℕ) → a * (b * B) ≤ a' * (b' * B) → a * b * B ≤ a' * b' * B
      grouped B h = omega arith

  -- p ≤ (1 + 273 2 ^ -32) u / L
  pub near_most : (u L : ℕ) → L * (2 ^ 32 * B) ≤ T * ((2 ^ 32 + fixed_below) * d) → t * (2 ^ 32 * d) ≤ u * ((2 ^ 32 + fixed_above) * B) → p * 2 ^ 24 * T ≤ t * (2 ^ 24 + 1) * M
      → softmax_error_den * (p * L) ≤ (softmax_error_den + softmax_error_num) * (u * M)
  near_most u L lower upper quotient =
      without softmax_error_den (p * L) (softmax_error_den + softmax_error_num) (u * M)
      (ratio_weaker (p * L * B) (u * M * B) _ _ softmax_error_den (softmax_error_den + softmax_error_num) (lit< tt)
      (ratio_trans (p * L * B) (t * M * d) (u * M * B) _ _ _ _ (ratio_trans (p * L * B) (p * T * d) (t * M * d) _ _ _ _ first second) third) (lit≤ tt))
    where
      first : p * L * B * 2 ^ 32 ≤ p * T * d * (2 ^ 32 + fixed_below)
      first = omega (arith, mul-le-mul_right p lower)

      second : p * T * d * 2 ^ 24 ≤ t * M * d * (2 ^ 24 + 1)
      second = omega (arith, mul-le-mul_right d quotient)

      third : t * M * d * 2 ^ 32 ≤ u * M * B * (2 ^ 32 + fixed_above)
      third = omega (arith, mul-le-mul_right M upper)

  -- (1 - 273 2 ^ -32) l / R ≤ p, for p with one least float more
  pub near_least : (l R : ℕ) → l * (2 ^ 32 * B) ≤ t * ((2 ^ 32 + fixed_below) * d) → T * (2 ^ 32 * d) ≤ R * ((2 ^ 32 + fixed_above) * B) → t * (2 ^ 24 - 1) * (2 ^ 32 - 7) * M ≤ p * 2 ^ 24 * 2 ^ 32 * T
      → (softmax_error_den - softmax_error_num) * (l * M) ≤ softmax_error_den * (p * R)
  near_least l R lower upper quotient =
      without (softmax_error_den - softmax_error_num) (l * M) softmax_error_den (p * R)
      (ratio_weaker (l * M * B) (p * R * B) _ _ (softmax_error_den - softmax_error_num) softmax_error_den (lit< tt)
      (ratio_trans (l * M * B) (p * T * d) (p * R * B) _ _ _ _ (ratio_trans (l * M * B) (t * M * d) (p * T * d) _ _ _ _ first second) third) (lit≤ tt))
    where
      first : l * M * B * 2 ^ 32 ≤ t * M * d * (2 ^ 32 + fixed_below)
      first = omega (arith, mul-le-mul_right M lower)

      second : t * M * d * ((2 ^ 24 - 1) * (2 ^ 32 - 7)) ≤ p * T * d * (2 ^ 24 * 2 ^ 32)
      second = omega (arith, mul-le-mul_right d quotient)

      third : p * T * d * 2 ^ 32 ≤ p * R * B * (2 ^ 32 + fixed_above)
      third = omega (arith, mul-le-mul_right p upper)
