-- The natural logarithm of 2 to 96 digits, by two computed partial sums, and with it e ^ x between powers of two for every fraction x. Assumes nothing.
use Prim.Native.Nat.{ℕ, ◌+◌, ◌*◌, ◌^◌, ◌≤◌, ◌<◌}
use native.Mathlib.Nat.{le_of_lt, lt_of_not-le, one-le-mul, mul-le-mul_right, le_of_mul-le-mul_right}
use native.Mathlib.Decide.{dec_le}
use native.Mathlib.Omega.{arith}
use lib.Dec.{lit≤}
use lib.Pow.{pow_pos}
use Rattle.exact.specs.Series.{partial, denominator}
use Rattle.exact.specs.Power.{AtMost, AtLeast}
use Rattle.exact.specs.Exponential.{every, powers}
use Rattle.exact.proofs.Power.{most_of_less, least_of_more}
use Rattle.exact.proofs.Series.{over_pos, partial_grows, partial_tail}
use Rattle.exact.proofs.Exponential.{argument_order, two_most, two_least}

-- the whole part of ln 2 times 2 ^ 96
unfoldable pub ln_two : ℕ
ln_two = 0xb17217f7d1cf79abc9e3b398

-- and its denominator
unfoldable pub ln_unit : ℕ
ln_unit = 2 ^ 96

pub ln_unit_pos : 0 < ln_unit
unfolding ln_unit
ln_unit_pos = pow_pos 96

pub every_most : (k : ℕ) → every k ≤ 1
unfolding every
every_most k = omega arith

-- thirty terms, and what may follow them
settled : powers ln_two ln_unit 30 + ln_two ^ 30 ≤ 2 * denominator ln_unit 30
unfolding ln_two ln_unit partial denominator every
settled = lit≤ tt

reached : 2 * denominator ln_unit 30 ≤ powers (ln_two + 1) ln_unit 30
unfolding ln_two ln_unit partial denominator every
reached = lit≤ tt

halves : 2 * ln_two ≤ 31 * ln_unit
unfolding ln_two ln_unit
halves = lit≤ tt

-- e ^ ln_two is at most 2
below_two : (m : ℕ) → powers ln_two ln_unit m ≤ 2 * denominator ln_unit m
below_two m = elim (dec_le 30 m) [
  | yes l ↦ le_of_mul-le-mul_right (later (powers ln_two ln_unit m) (powers ln_two ln_unit 30) (denominator ln_unit 30) (denominator ln_unit m) (ln_two ^ 30) settled (partial_tail every every_most ln_two ln_unit 30 m halves l)) (over_pos ln_unit 30 ln_unit_pos)
  | no l ↦ le_of_mul-le-mul_right (sooner (powers ln_two ln_unit m) (powers ln_two ln_unit 30) (denominator ln_unit 30) (denominator ln_unit m) (ln_two ^ 30) settled (partial_grows every ln_two ln_unit m 30 (le_of_lt (lt_of_not-le l)))) (over_pos ln_unit 30 ln_unit_pos)
]
  where
    later : (S T D E P : ℕ) → T + P ≤ 2 * D → S * D ≤ (T + P) * E → S * D ≤ 2 * E * D
    later S T D E P h k = omega (arith, mul-le-mul_right E h)

    sooner : (S T D E P : ℕ) → T + P ≤ 2 * D → S * D ≤ T * E → S * D ≤ 2 * E * D
    sooner S T D E P h k = omega (arith, mul-le-mul_right E h)

-- ---- e ^ (p / q) against 2 ^ (u / v)
module _ (p q u v : ℕ) (qpos : 0 < q) (vpos : 0 < v) where
  -- p / q is at most ln 2 times u / v
  pub exponential_most : p * (ln_unit * v) ≤ ln_two * u * q → (n : ℕ) → AtMost (powers p q n) (denominator q n) u 0 v
  exponential_most h n = most_of_less (over_pos q n qpos) (argument_order p q (ln_two * u) (ln_unit * v) n qpos (one-le-mul ln_unit_pos vpos) h) (two_most ln_two ln_unit ln_unit_pos u v vpos below_two n)

  -- it is at least that
  pub exponential_least : (ln_two + 1) * u * q ≤ p * (ln_unit * v) → (from : ℕ) × ((n : ℕ) → from ≤ n → AtLeast (powers p q n) (denominator q n) u 0 v)
  exponential_least h =
      let r = two_least (ln_two + 1) ln_unit ln_unit_pos u v vpos 30 reached in
      (r.from, λ n l. least_of_more (over_pos q n qpos) (argument_order ((ln_two + 1) * u) (ln_unit * v) p q n (one-le-mul ln_unit_pos vpos) qpos h) (r.holds n l))
