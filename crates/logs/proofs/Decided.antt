-- Where the middle's power is known to 58 digits, and keeps 2 ^ -53 off every float, one comparison tells on which side of the middle the logarithm is. Assumes nothing.
use Rattle.std.proofs.Common.{◌≡◌, ℕ, ◌+◌, ◌-◌, ◌*◌, ◌^◌, ◌<◌, ◌≤◌, sym, ap, le_of_eq, mul-pos, le_of_mul-le-mul_right, arith, lit<, pow_pos}
use Rattle.exact.specs.Power.{AtMost, AtLeast, LessThan, MoreThan}
use Rattle.exact.proofs.Power.{most_of_larger, least_of_smaller, most_shift, least_shift, through_power}
use Rattle.exact.proofs.Strict.{less_of_less, more_of_more}
use Rattle.gaps.specs.Apart.{Apart, above, below, OffFloats}
use Rattle.fine.specs.Value.{fine_of}
use Rattle.fine.proofs.Method.{U, fine_most, fine_least}

-- ---- over plain numbers: m / 2 ^ 23 against (U + f) / U, with K for 2 ^ 53

too_high : (m f K : ℕ) → 0 < K → (m * 2 ^ 30 + 1) * (2 ^ 11 * K) ≤ (2 ^ 64 + f + 63) * K → 2 ^ 64 + f < m * 2 ^ 41 → ⊥
too_high m f K pos h l = let k : (m * 2 ^ 30 + 1) * 2 ^ 11 ≤ 2 ^ 64 + f + 63 = le_of_mul-le-mul_right (omega arith) pos in omega arith

too_low : (m f K : ℕ) → 0 < K → 0 < m → (2 ^ 64 + f) * K ≤ (m * 2 ^ 30 - 1) * (2 ^ 11 * K) → m * 2 ^ 41 ≤ 2 ^ 64 + f → ⊥
too_low m f K pos some h l = let k : 2 ^ 64 + f ≤ (m * 2 ^ 30 - 1) * 2 ^ 11 = le_of_mul-le-mul_right (omega arith) pos in omega arith

-- a number X with X * 2 = m E, against m / 2 ^ 23 a little less and a little more
less : (X m E K : ℕ) → X * 2 ≡ m * E → 0 < m → 0 < E * K → (m * 2 ^ 30 - 1) * E * K < X * (2 ^ 31 * K)
less X m E K e some pos = through (m * 2 ^ 30 - 1) (omega arith)
  where
    through : (j : ℕ) → j + 1 ≡ m * 2 ^ 30 → j * E * K < X * (2 ^ 31 * K)
    through j h = omega (arith, ap (λ (i : ℕ). i * (2 ^ 30 * K)) e, ap (λ (i : ℕ). i * (E * K)) h)

more : (X m E K : ℕ) → X * 2 ≡ m * E → 0 < E * K → X * (2 ^ 31 * K) < (m * 2 ^ 30 + 1) * E * K
more X m E K e pos = omega (arith, ap (λ (i : ℕ). i * (2 ^ 30 * K)) e)

crossed : (a b c d : ℕ) → a * b ≤ c * d → a * b + 0 * d ≤ c * d + 0 * b
crossed a b c d h = omega arith

-- a float of X units, m / 2 ^ 23 times 2 ^ (e - 127), and the power of v / C; t is that fraction in units of 2 ^ -64
module _ (X m e v C t : ℕ) (is : X * 2 ≡ m * 2 ^ e) (some : 0 < m) (Cpos : 0 < C) (small : t < U) (same : t * C ≡ v * U) (off : OffFloats v C) where
  power_most : AtMost (U + fine_of t) U v 0 C
  power_most = most_of_larger Cpos (crossed t C v U (le_of_eq same)) (fine_most t small)

  power_least : AtLeast (U + fine_of t + 63) U v 0 C
  power_least = least_of_smaller Cpos (crossed v U t C (le_of_eq (sym same))) (fine_least t small)

  -- the float is above the power
  pub decided_above : U + fine_of t < m * 2 ^ 41 → MoreThan X (2 ^ 149) (v + e * C) (0 + 127 * C) C
  decided_above h = go (off m)
    where
      go : Apart (m * 2 ^ 30) (2 ^ 53) v C → MoreThan X (2 ^ 149) (v + e * C) (0 + 127 * C) C
      go (above l) = absurd (too_high m (fine_of t) (2 ^ 53) (lit< tt) (through_power l power_least) h)
      go (below l) = more_of_more (lit< tt) (less X m (2 ^ e) (2 ^ 149) is some (mul-pos (pow_pos e) (lit< tt))) (least_shift e 127 l)

  -- below it
  pub decided_below : m * 2 ^ 41 ≤ U + fine_of t → LessThan X (2 ^ 149) (v + e * C) (0 + 127 * C) C
  decided_below h = go (off m)
    where
      go : Apart (m * 2 ^ 30) (2 ^ 53) v C → LessThan X (2 ^ 149) (v + e * C) (0 + 127 * C) C
      go (above l) = less_of_less (lit< tt) (more X m (2 ^ e) (2 ^ 149) is (mul-pos (pow_pos e) (lit< tt))) (most_shift e 127 l)
      go (below l) = absurd (too_low m (fine_of t) (2 ^ 53) (lit< tt) some (through_power power_most l) h)
