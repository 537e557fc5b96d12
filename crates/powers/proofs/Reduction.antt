-- The argument: x + 126 cut to a whole number of 2 ^ -32, which loses less than one of them and so less than 7 / 10 of 2 ^ -32, relatively, of 2 ^ x.
-- Assumes nothing.
use Rattle.std.proofs.Common.{◌≡◌, ℕ, ◌+◌, ◌-◌, ◌*◌, ◌/◌, ◌^◌, ◌<◌, ◌≤◌, ◌⊎◌, ap, inl, inr, le_trans, mul-le-mul_right, div-mul-le_self, le_of_mul-le-mul_right, arith, lit<, lit≤, pow_pos}
use native.Mathlib.Nat.{lt-div-mul-add, add-mul-div_right}
use lib.Ieee.{Float}
use Rattle.units.specs.Units.{mag, P, N, Le}
use Rattle.units.proofs.Signs.{sides}
use Rattle.exact.specs.Power.{AtMost, AtLeast}
use Rattle.exact.specs.Polynomial.{value}
use Rattle.exact.proofs.Power.{least_of_more, at_most, most_mul, least_mul, most_of_larger, least_of_smaller}
use Rattle.exact.proofs.Tight.{upper, tight_above}
use Rattle.fixed.proofs.Horner.{quotients}
use Rattle.powers.specs.Exp2.{Accepts}
use Rattle.powers.specs.Value.{cut_of}
use Rattle.powers.proofs.Method.{D}

-- the units of a float that make one step of 2 ^ -32
abbrev pub K : ℕ
K = 2 ^ 117

-- ---- what was cut off of p - n, over plain numbers: d for D, k for K

abbrev cut : ℕ → ℕ → ℕ → ℕ → ℕ
cut d k p n = 126 * d + p / k - n / k

module _ (d k p n : ℕ) (pos : 0 < k) (small : n ≤ 126 * (d * k)) where
  -- there is room below 126 for what is taken away
  pub quotient : n / k ≤ 126 * d
  quotient = le_of_mul-le-mul_right (le_trans (div-mul-le_self n k) (omega arith)) pos

  -- what was cut to, less 126, is above p - n by less than a step
  cut_above : (cut d k p n + 0) * (d * k) + n * d ≤ p * d + (126 * d + 1) * (d * k)
  cut_above = through (p / k) (n / k) (cut d k p n) (omega (arith, quotient)) (div-mul-le_self p k) (lt-div-mul-add pos)
    where
      through : (a b X : ℕ) → X + b ≡ 126 * d + a → a * k ≤ p → n < b * k + k → (X + 0) * (d * k) + n * d ≤ p * d + (126 * d + 1) * (d * k)
      through a b X e h l =
          let m : X * k + n ≤ p + (126 * d + 1) * k = omega (arith, ap (λ (z : ℕ). z * k) e) in
          omega (arith, mul-le-mul_right d m)

  -- and below it by less than a step
  cut_below : p * d + (126 * d + 0) * (d * k) ≤ (cut d k p n + 1) * (d * k) + n * d
  cut_below = through (p / k) (n / k) (cut d k p n) (omega (arith, quotient)) (lt-div-mul-add pos) (div-mul-le_self n k)
    where
      through : (a b X : ℕ) → X + b ≡ 126 * d + a → p < a * k + k → b * k ≤ n → p * d + (126 * d + 0) * (d * k) ≤ (X + 1) * (d * k) + n * d
      through a b X e h l =
          let m : p + 126 * d * k ≤ (X + 1) * k + n = omega (arith, ap (λ (z : ℕ). z * k) e) in
          omega (arith, mul-le-mul_right d m)

  -- where p - n is a whole number i - j, it is i - j
  cut_exact : (i j : ℕ) → p + j * (d * k) ≡ n + i * (d * k) → cut d k p n + j * d ≡ (126 + i) * d
  cut_exact i j e =
      let w : (p + j * d * k) / k ≡ (n + i * d * k) / k = ap (λ (z : ℕ). z / k) (omega arith) in
      omega (arith, quotient, rw (add-mul-div_right p (j * d) pos, add-mul-div_right n (i * d) pos) at w)

-- ---- 2 ^ (2 ^ -32)

-- it is at most 1 + 7 / (10 D)
pub one_step : AtLeast (10 * D + 7) (10 * D) 1 0 D
unfolding upper value
one_step = least_of_more (lit< tt) (lit≤ tt) (tight_above.bound 1 D (lit< tt) (lit≤ tt))

-- ---- from the exponent that is left to x's own

module _ (x : Float) (a : Accepts x) where
  -- what is at most 2 ^ (what was cut to) is at most 2 ^ x, but for 7 / 10 of 2 ^ -32
  pub most_uncut : {n d : ℕ} → AtMost n d (cut_of x) (126 * D) D → AtMost (n * (10 * D)) (d * (10 * D + 7)) (P x) (N x) (2 ^ 149)
  unfolding cut_of
  most_uncut h = most_of_larger (lit< tt) (cut_above D K (P x) (N x) (pow_pos 117) a.at_least) (most_mul h (at_most one_step))

  -- and what is at least 2 ^ (what was cut to) is at least 2 ^ x, but for as much
  pub least_uncut : {n d : ℕ} → AtLeast n d (cut_of x) (126 * D) D → AtLeast (n * (10 * D + 7)) (d * (10 * D)) (P x) (N x) (2 ^ 149)
  unfolding cut_of
  least_uncut h = least_of_smaller (lit< tt) (cut_below D K (P x) (N x) (pow_pos 117) a.at_least) (least_mul h one_step)

  -- of a whole number n - m nothing is cut off
  pub cut_whole : (n m : ℕ) → P x + m * 2 ^ 149 ≡ N x + n * 2 ^ 149 → cut_of x + m * D ≡ (126 + n) * D
  unfolding cut_of
  cut_whole n m e = cut_exact D K (P x) (N x) (pow_pos 117) a.at_least n m e

  -- 127 is cut to 253 at most
  pub cut_top : cut_of x ≤ 253 * D
  unfolding cut_of
  cut_top = within (P x / K) (N x / K) (le_of_mul-le-mul_right (le_trans (div-mul-le_self (P x) K) a.at_most) (pow_pos 117))
    where
      within : (p n : ℕ) → p ≤ 127 * D → 126 * D + p - n ≤ 253 * D
      within p n h = omega arith

-- ---- Order

-- a larger x has no smaller positive and no larger negative part
pub part_order : (x x' : Float) → Le x' x → (P x' ≤ P x) × (N x ≤ N x')
part_order x x' l = go (sides x) (sides x')
  where
    go : ((P x ≡ mag x) × (N x ≡ 0)) ⊎ ((P x ≡ 0) × (N x ≡ mag x)) → ((P x' ≡ mag x') × (N x' ≡ 0)) ⊎ ((P x' ≡ 0) × (N x' ≡ mag x')) → (P x' ≤ P x) × (N x ≤ N x')
    go (inl h) (inl k) = (omega arith, omega arith)
    go (inl h) (inr k) = (omega arith, omega arith)
    go (inr h) (inl k) = (omega arith, omega arith)
    go (inr h) (inr k) = (omega arith, omega arith)

-- whatever never falls may count the parts
pub counted_order : (c a a' b b' : ℕ) → a' ≤ a → b ≤ b' → c + a' - b' ≤ c + a - b
counted_order c a a' b b' h k = omega arith

-- a larger x is never cut to less
pub cut_mono : (x x' : Float) → Le x' x → cut_of x' ≤ cut_of x
unfolding cut_of
cut_mono x x' l =
    let (h, k) = part_order x x' l in
    counted_order (126 * D) (P x / K) (P x' / K) (N x / K) (N x' / K) (quotients K (pow_pos 117) h) (quotients K (pow_pos 117) k)
