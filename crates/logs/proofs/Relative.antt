-- The relative error, of either sign, of a logarithm in fixed point at the distance A above log2 1 or B below it, one of the two 0. Assumes nothing.
use Rattle.std.proofs.Common.{◌≡◌, ℕ, ◌+◌, ◌-◌, ◌*◌, ◌^◌, ◌<◌, ◌≤◌, ◌⊎◌, sym, ap, inl, inr, le_of_eq, mul-one, arith, lit<, lit≤}
use Rattle.exact.specs.Power.{AtMost, AtLeast}
use Rattle.exact.proofs.Power.{at_most, at_least, least_pos, most_of_larger, least_of_smaller, most_of_less, least_of_more, through_power, most_shift, least_shift}
use Rattle.units.proofs.Naturals.{le-or-lt}
use Rattle.logs.specs.Value.{steps_above, steps_below}
use Rattle.logs.proofs.Reduction.{Read, least_over, most_over}

-- ---- fractions against 1, which is 2 ^ 0
pub from_one : {n d : ℕ} → 0 < d → d ≤ n → AtLeast n d 0 0 1
from_one pos h = least_of_more {n = 1} {d = 1} pos (omega arith) (record { per = lit< tt; root = lit< tt; holds = lit≤ tt })

pub up_to_one : {n d : ℕ} → 0 < d → n ≤ d → AtMost n d 0 0 1
up_to_one pos h = most_of_less {n = 1} {d = 1} pos (omega arith) (record { per = lit< tt; root = lit< tt; holds = lit≤ tt })

pub at_most_one : {n d q : ℕ} → AtMost n d 0 0 q → n ≤ d
at_most_one {q} h = omega (arith, through_power (most_of_larger (lit< tt) (omega arith) h) (from_one {n = 1} {d = 1} (lit< tt) (lit≤ tt)))

-- ---- in fixed point: 15 parts in 2 ^ 33
-- F is at most 3/2 of the distance from log2 1, since it is at most 3/5
distance : (k F W : ℕ) → (W ≡ k * 2 ^ 54 + F) ⊎ (W + F ≡ k * 2 ^ 54) → 5 * F ≤ 3 * 2 ^ 54 → 2 * F ≤ 3 * (steps_above W + steps_below W)
distance k F W (inl e) s = elim (le-or-lt k 126) [ inl h ↦ omega arith | inr h ↦ omega arith ]
distance k F W (inr e) s = elim (le-or-lt k 127) [ inl h ↦ omega arith | inr h ↦ omega arith ]

twice : (p m q : ℕ) → 2 * p * q + m * (2 * q) ≡ p * (2 * q) + 2 * m * q
twice p m q = omega arith

module _ (w F : ℕ) (h : 2 * F ≤ 3 * (steps_above w + steps_below w)) where
  sum_below : (2 ^ 33 - 15) * steps_above w + 2 * (5 * F + 127 * 2 ^ 86) ≤ 2 * (2 ^ 32 * w + 0 * 2 ^ 86) + (2 ^ 33 + 15) * steps_below w
  sum_below = omega arith

  sum-above : 2 * (2 ^ 32 * w + 5 * F + 0 * 2 ^ 86) + (2 ^ 33 - 15) * steps_below w ≤ (2 ^ 33 + 15) * steps_above w + 2 * (0 + 127 * 2 ^ 86)
  sum-above = omega arith

-- log2 (n / d) is A - B steps of 2 ^ -54, one of the two 0, within 15 parts in 2 ^ 33 of them
pub record InSteps (n d A B : ℕ) : Type 0 where
  pub least : AtLeast n d ((2 ^ 33 - 15) * A) ((2 ^ 33 + 15) * B) (2 ^ 87)
  pub most : AtMost n d ((2 ^ 33 + 15) * A) ((2 ^ 33 - 15) * B) (2 ^ 87)

-- so is that of the reciprocal
pub mirrored : {n d A B : ℕ} → InSteps n d A B → InSteps d n B A
mirrored s = record { least = at_least (least_pos s.least) s.most; most = at_most s.least }

-- what was read from X / 2 ^ 22, of X / 2 ^ 149
pub over_one : (X W : ℕ) (r : Read X W) → AtLeast X (2 ^ 149) (2 ^ 32 * W + 0 * 2 ^ 86) (5 * r.F + 127 * 2 ^ 86) (2 ^ 86) × AtMost X (2 ^ 149) (2 ^ 32 * W + 5 * r.F + 0 * 2 ^ 86) (0 + 127 * 2 ^ 86) (2 ^ 86)
over_one X W r = (
  least_of_more (lit< tt) (le_of_eq (ap (λ (i : ℕ). i * 2 ^ 149) (mul-one X))) (least_shift 0 127 r.least),
  most_of_less (lit< tt) (le_of_eq (ap (λ (i : ℕ). i * 2 ^ 149) (sym (mul-one X)))) (most_shift 0 127 r.most),
)

-- so it is above log2 1 or below it
pub in_steps : (X W : ℕ) → Read X W → InSteps X (2 ^ 149) (steps_above W) (steps_below W)
in_steps X W r = record {
  least =
      least_over (sum_below W r.F near_one)
      (least_of_smaller (lit< tt) (le_of_eq (twice (2 ^ 32 * W + 0 * 2 ^ 86) (5 * r.F + 127 * 2 ^ 86) (2 ^ 86)))
      (over_one X W r).0);
  most =
      most_over (sum-above W r.F near_one)
      (most_of_larger (lit< tt) (le_of_eq (sym (twice (2 ^ 32 * W + 5 * r.F + 0 * 2 ^ 86) (0 + 127 * 2 ^ 86) (2 ^ 86))))
      (over_one X W r).1);
}
  where
    near_one : 2 * r.F ≤ 3 * (steps_above W + steps_below W)
    near_one = distance r.k r.F W r.place r.small
