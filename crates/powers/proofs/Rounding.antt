-- The last rounding: 24 digits of what was raised, within half a step of it; with the floors of `raised` the digits are within 257 2 ^ -32 of 2 ^ t.
-- Assumes nothing.
use Rattle.std.proofs.Common.{◌≡◌, ℕ, ◌+◌, ◌*◌, ◌^◌, ◌≤◌, sym, le_trans, le_of_eq, mul-le-mul_right, mul-le-mul_left, arith, lit<}
use Rattle.exact.specs.Power.{AtMost, AtLeast}
use Rattle.exact.proofs.Power.{least_of_more, most_of_less}
use Rattle.powers.specs.Value.{power_digits}
use Rattle.powers.specs.Raised.{raised}
use Rattle.powers.proofs.Method.{D, raised-zero, raised_mono, raised_top, raised_rises, raised_most, raised_least}

-- ---- digits

-- at a whole number the digits are those of 1
pub digits_zero : power_digits 0 ≡ 2 ^ 23
unfolding power_digits
digits_zero = rw raised-zero

-- a larger fraction never has smaller digits
pub digits_mono : {f g : ℕ} → f ≤ g → power_digits f ≤ power_digits g
unfolding power_digits
digits_mono {f} {g} h = omega (arith, raised_mono h)

-- there are 24 of them
pub digits_first : (f : ℕ) → 2 ^ 23 ≤ power_digits f
digits_first f = le_trans (le_of_eq (sym digits_zero)) (digits_mono (omega arith))

-- or the carry
pub digits_last : (f : ℕ) → f ≤ D → power_digits f ≤ 2 ^ 24
unfolding power_digits
digits_last f h = omega (arith, raised_top f h)

-- ---- error

module _ (f : ℕ) (small : f ≤ D) where
  least : D ≤ raised f
  least = le_trans (le_of_eq (sym raised-zero)) (raised_mono (omega arith))

  -- the digits are more by half a step at most
  half_above : 512 * power_digits f * D ≤ raised f * (D + 256)
  unfolding power_digits
  half_above = omega (arith, least)

  -- with the floors they are less by half a step and a quarter of a unit at most, and a little that a hundredth of a quarter covers: what the floors lose in proportion to f, the power has gained
  half_below : 100 * ((4 * raised f + 5) * D + 21 * f) ≤ 512 * power_digits f * (400 * D + 102501)
  unfolding power_digits
  half_below = omega (arith, digits_first f, raised_rises f)

  -- digits / 2 ^ 23 ≤ (1 + 256 / D) (1 + 1 / (2 D)) 2 ^ (f / D)
  pub digits_most : AtMost (2 * D * D * (512 * power_digits f)) ((2 * D + 1) * (D + 256) * D) f 0 D
  digits_most = most_of_less (lit< tt) (through D (D + 256) (512 * power_digits f) (raised f) half_above) (raised_most f small)
    where
      through : (d h s r : ℕ) → s * d ≤ r * h → 2 * d * d * s * ((2 * d + 1) * d) ≤ 2 * d * r * ((2 * d + 1) * h * d)
      through d h s r l = omega (arith, mul-le-mul_right (2 * d * ((2 * d + 1) * d)) l)

  -- 2 ^ (f / D) ≤ (1 + 102501 / (400 D)) (1 + 1 / (2 D)) digits / 2 ^ 23
  pub digits_least : AtLeast ((2 * D + 1) * (400 * D + 102501) * (512 * power_digits f)) (2 * D * (400 * D * D)) f 0 D
  digits_least =
      least_of_more (lit< tt)
      (through D (400 * D + 102501) (512 * power_digits f) ((4 * raised f + 5) * D + 21 * f) half_below) (raised_least f small)
    where
      through : (d h s r : ℕ) → 100 * r ≤ s * h → (2 * d + 1) * r * (2 * d * (400 * d * d)) ≤ (2 * d + 1) * h * s * (2 * d * (4 * d * d))
      through d h s r l = omega (arith, mul-le-mul_left (2 * d * ((2 * d + 1) * (4 * d * d))) l)
