-- Open digits: the second evaluation is 63 units of 2 ^ -64 below the power at most, and the middles are 64 away, so that its digits tell the nearest float. Assumes nothing.
use Rattle.std.proofs.Common.{◌≡◌, ℕ, ◌+◌, ◌-◌, ◌*◌, ◌^◌, ◌<◌, ◌≤◌, sym, ap, subst, le_of_eq, mul-pos, le_of_mul-le-mul_right, arith, lit<, pow_pos}
use lib.Ieee.{Float}
use Rattle.units.specs.Units.{P, N}
use Rattle.exact.specs.Power.{AtMost, AtLeast, LessThan}
use Rattle.exact.proofs.Power.{most_of_less, most_of_larger, least_of_smaller, most_shift, least_shift, through_power}
use Rattle.exact.proofs.Strict.{less_of_less, more_of_more}
use Rattle.gaps.specs.Apart.{Apart, above, below}
use Rattle.fine.specs.Value.{fine_of}
use Rattle.fine.proofs.Method.{fine_most, fine_least, fine_fits}
use Rattle.powers.specs.Value.{fine_digits}
use Rattle.powers.proofs.Middles.{Rounds}
use Rattle.powers.proofs.Told.{whole_most, at_first}
use Rattle.powers.proofs.Covered.{Point}

-- ---- E units of 2 ^ -64 above 1, rounded to 24 digits

rounding : (t : ℕ) → (2 ^ 64 + fine_of t < (2 * fine_digits t + 1) * 2 ^ 40) × (2 ^ 41 * fine_digits t ≤ 2 ^ 64 + fine_of t + 2 ^ 40)
unfolding fine_digits
rounding t = (omega arith, omega arith)

digits_from : (t : ℕ) → 2 ^ 23 ≤ fine_digits t
unfolding fine_digits
digits_from t = omega arith

digits_to : (t : ℕ) → fine_of t < 2 ^ 64 → fine_digits t ≤ 2 ^ 24
unfolding fine_digits
digits_to t h = omega arith

-- the odd number of half steps below S
under_steps : (S E : ℕ) → 2 ^ 23 ≤ S → 2 ^ 41 * S ≤ 2 ^ 64 + E + 2 ^ 40 → (T : ℕ) × (2 * S - 1 ≡ 2 * T + 1) × ((2 * T + 1) * 2 ^ 40 ≤ 2 ^ 64 + E)
under_steps S E l h = (S - 1, omega arith, omega arith)

-- a power above the middle above is not 63 units above E
above_clash : (S E : ℕ) → 2 ^ 64 + E < (2 * S + 1) * 2 ^ 40 → ((2 * S + 1) * 2 ^ 34 + 1) * 2 ^ 64 ≤ (2 ^ 64 + E + 63) * 2 ^ 58 → ⊥
above_clash S E l h = go (le_of_mul-le-mul_right (regroup ((2 * S + 1) * 2 ^ 34 + 1) (2 ^ 64 + E + 63) (2 ^ 58) h) (pow_pos 58))
  where
    regroup : (a b u : ℕ) → a * (64 * u) ≤ b * u → a * 64 * u ≤ b * u
    regroup a b u h = omega arith

    go : ((2 * S + 1) * 2 ^ 34 + 1) * 64 ≤ 2 ^ 64 + E + 63 → ⊥
    go k = omega arith

-- and one below the middle below not below E
below_clash : (T E : ℕ) → (2 * T + 1) * 2 ^ 40 ≤ 2 ^ 64 + E → (2 ^ 64 + E) * 2 ^ 58 ≤ ((2 * T + 1) * 2 ^ 34 - 1) * 2 ^ 64 → ⊥
below_clash T E l h = go (le_of_mul-le-mul_right (regroup ((2 * T + 1) * 2 ^ 34 - 1) (2 ^ 64 + E) (2 ^ 58) h) (pow_pos 58))
  where
    regroup : (a b u : ℕ) → b * u ≤ a * (64 * u) → b * u ≤ a * 64 * u
    regroup a b u h = omega arith

    go : 2 ^ 64 + E ≤ ((2 * T + 1) * 2 ^ 34 - 1) * 64 → ⊥
    go k = omega arith

-- ---- the power of a fraction t / 2 ^ 64 that keeps away
module _ (t : ℕ) (small : t < 2 ^ 64) (point : Point t) where
  most_at : {n d : ℕ} → AtMost n d point.p 0 point.q → AtMost n d t 0 (2 ^ 64)
  most_at h = most_of_larger (pow_pos 64) (same_exponent point.p point.q (2 ^ 64) t point.same) h
    where
      same_exponent : (p q u t : ℕ) → p * u ≡ t * q → p * u + 0 * q ≤ t * q + 0 * u
      same_exponent p q u t e = omega arith

  least_at : {n d : ℕ} → AtLeast n d point.p 0 point.q → AtLeast n d t 0 (2 ^ 64)
  least_at h = least_of_smaller (pow_pos 64) (same_exponent point.p point.q (2 ^ 64) t point.same) h
    where
      same_exponent : (p q u t : ℕ) → p * u ≡ t * q → t * q + 0 * u ≤ p * u + 0 * q
      same_exponent p q u t e = omega arith

  -- it is below the middle above
  below-above : (S : ℕ) → 2 ^ 64 + fine_of t < (2 * S + 1) * 2 ^ 40 → AtLeast ((2 * S + 1) * 2 ^ 34 - 1) (2 ^ 58) t 0 (2 ^ 64)
  below-above S l = go (point.off S)
    where
      go : Apart ((2 * S + 1) * 2 ^ 34) (2 ^ 58) point.p point.q → AtLeast ((2 * S + 1) * 2 ^ 34 - 1) (2 ^ 58) t 0 (2 ^ 64)
      go (above h) = absurd (above_clash S (fine_of t) l (through_power (most_at h) (fine_least t small)))
      go (below h) = least_at h

  -- and above the middle below
  above-below : (T : ℕ) → (2 * T + 1) * 2 ^ 40 ≤ 2 ^ 64 + fine_of t → AtMost ((2 * T + 1) * 2 ^ 34 + 1) (2 ^ 58) t 0 (2 ^ 64)
  above-below T l = go (point.off T)
    where
      go : Apart ((2 * T + 1) * 2 ^ 34) (2 ^ 58) point.p point.q → AtMost ((2 * T + 1) * 2 ^ 34 + 1) (2 ^ 58) t 0 (2 ^ 64)
      go (above h) = most_at h
      go (below h) = absurd (below_clash T (fine_of t) l (through_power (fine_most t small) (least_at h)))

-- ---- from the fraction to x, whose whole part is g - 126

-- one exponent in two ways
exponents : (g t p n v u : ℕ) → g * (v * u) + t * u + n ≡ p + 126 * (v * u) → p * v + (0 + 126 * v) * (v * u) ≡ (t + g * v) * (v * u) + n * v
exponents g t p n v u e = omega (arith, ap (λ (a : ℕ). a * v) e)

least_by : (c h G W : ℕ) → 0 < c * h → 0 < G * W → (c * h - 1) * G * W < c * G * (h * W)
least_by c h G W pos unit = go (c * h - 1) (omega arith)
  where
    go : (n : ℕ) → n + 1 ≡ c * h → n * G * W < c * G * (h * W)
    go n e = omega (arith, ap (λ (a : ℕ). a * (G * W)) e)

most_by : (c h G W : ℕ) → 0 < G * W → c * G * (h * W) < (c * h + 1) * G * W
most_by c h G W unit = omega arith

odd_above : (S : ℕ) → 0 < (2 * S + 1) * 2 ^ 34
odd_above S = omega arith

module _ (x : Float) (g t : ℕ) (small : t < 2 ^ 64) (whole : g * 2 ^ 149 + t * 2 ^ 85 + N x ≡ P x + 126 * 2 ^ 149) (point : Point t) where
  unit : 0 < 2 ^ g * (2 * 2 ^ 149)
  unit = mul-pos (pow_pos g) (lit< tt)

  most_x : {n : ℕ} → AtMost n (2 ^ 58) t 0 (2 ^ 64) → AtMost (n * 2 ^ g) (2 ^ 58 * 2 ^ 126) (P x) (N x) (2 ^ 149)
  most_x h = most_of_larger (pow_pos 149) (le_of_eq (sym (exponents g t (P x) (N x) (2 ^ 64) (2 ^ 85) whole))) (most_shift g 126 h)

  least_x : {n : ℕ} → AtLeast n (2 ^ 58) t 0 (2 ^ 64) → AtLeast (n * 2 ^ g) (2 ^ 58 * 2 ^ 126) (P x) (N x) (2 ^ 149)
  least_x h = least_of_smaller (pow_pos 149) (le_of_eq (exponents g t (P x) (N x) (2 ^ 64) (2 ^ 85) whole)) (least_shift g 126 h)

  pub decided : Rounds x (fine_digits t) g
  decided =
      let S = fine_digits t in
      let (up, down) = rounding t in
      let (T, e, from) = under_steps S (fine_of t) (digits_from t) down in
      record {
        least = digits_from t;
        most = digits_to t (fine_fits t small);
        over = more_of_more (lit< tt) (least_by (2 * S + 1) (2 ^ 34) (2 ^ g) (2 * 2 ^ 149) (odd_above S) unit) (least_x (below-above t small point S up));
        under =
            subst (λ (n : ℕ). LessThan (n * 2 ^ g) (2 * 2 ^ 149) (P x) (N x) (2 ^ 149)) (sym e)
            (less_of_less (lit< tt) (most_by (2 * T + 1) (2 ^ 34) (2 ^ g) (2 * 2 ^ 149) unit) (most_x (above-below t small point T from)));
        first = λ c. most_of_less (lit< tt) (at_first S (2 ^ g) (2 ^ 126) c) (whole_most x g (no_less (g * 2 ^ 149) (t * 2 ^ 85) (N x) (P x + 126 * 2 ^ 149) whole));
      }
    where
      no_less : (a b n c : ℕ) → a + b + n ≡ c → a + n ≤ c
      no_less a b n c e = omega arith
