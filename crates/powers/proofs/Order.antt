-- The digits put together with the whole part: a chain of functions that never fall, whose pieces meet at whole numbers. Assumes nothing.
use Rattle.std.proofs.Common.{◌≡◌, ℕ, ◌+◌, ◌*◌, ◌/◌, ◌%◌, ◌^◌, ◌<◌, ◌≤◌, false, sym, ap, ◌∙◌, inl, inr, le_trans, le_of_eq, mul-le-mul_right, mul-le-mul_left, pow-suc, arith, pow_mono}
use lib.Ieee.{binary32, of_bits}
use Rattle.units.proofs.Naturals.{le-or-lt}
use Rattle.units.proofs.Bits.{Is, put_positive}
use Rattle.powers.specs.Value.{power_digits}
use Rattle.powers.proofs.Method.{D}
use Rattle.powers.proofs.Rounding.{digits_zero, digits_mono, digits_first, digits_last}

-- the whole part of what x was cut to
abbrev pub exponent_of : ℕ → ℕ
exponent_of X = X / 2 ^ 32

-- the digits of its fraction's power
abbrev pub fraction_digits : ℕ → ℕ
fraction_digits X = power_digits (X % 2 ^ 32)

-- these are 24
pub first : (X : ℕ) → 2 ^ 23 ≤ fraction_digits X
first X = digits_first (X % D)

-- or the carry
pub last : (X : ℕ) → fraction_digits X ≤ 2 ^ 24
last X = digits_last (X % D) (omega arith)

-- at 127 the digits are those of 1: the greatest pattern is a finite float's
pub pattern_in : (X : ℕ) → X ≤ 253 * D → exponent_of X * 8388608 + fraction_digits X < 255 * 8388608
pattern_in X h = elim (le-or-lt (253 * D) X) [
  | inl l ↦
      let z : X % D ≡ 0 = omega arith in
      let d : fraction_digits X ≡ 8388608 = ap power_digits z ∙ digits_zero in
      omega arith
  | inr l ↦ omega (arith, last X)
]

-- the pattern's units
pub pattern_is : (X : ℕ) → X ≤ 253 * D → Is (of_bits binary32 (exponent_of X * 8388608 + fraction_digits X)) false (fraction_digits X * 2 ^ exponent_of X)
pattern_is X h = put_positive (fraction_digits X) (exponent_of X) (inr (first X)) (last X) (pattern_in X h)

-- a function of the fraction that never falls, put together with the whole part, never falls: the last value of a piece is at most the first of the next
pub pieces_mono : (h : ℕ → ℕ) (L : ℕ) → ((f g : ℕ) → f ≤ g → h f ≤ h g) → ((f : ℕ) → L ≤ h f) → ((f : ℕ) → f ≤ D → h f ≤ 2 * L) → (X X' : ℕ) → X' ≤ X
    → h (X' % D) * 2 ^ exponent_of X' ≤ h (X % D) * 2 ^ exponent_of X
pieces_mono h L grows first last X X' l = elim (le-or-lt (exponent_of X) (exponent_of X')) [
  | inl k ↦
      let e : exponent_of X' ≡ exponent_of X = omega arith in
      rw e (mul-le-mul_right (2 ^ exponent_of X) (grows (X' % D) (X % D) (omega arith)))
  | inr k ↦
      le_trans (mul-le-mul_right (2 ^ exponent_of X') (last (X' % D) (omega arith)))
      (le_trans (carried (2 ^ exponent_of X') (2 ^ exponent_of X) (le_trans (le_of_eq (sym (pow-suc 2 (exponent_of X')))) (pow_mono k))) (mul-le-mul_right (2 ^ exponent_of X) (first (X % D))))
]
  where
    carried : (u v : ℕ) → u * 2 ≤ v → 2 * L * u ≤ L * v
    carried u v k = omega (arith, mul-le-mul_left L k)

-- a larger number has no fewer units
pub units_mono : (X X' : ℕ) → X' ≤ X → fraction_digits X' * 2 ^ exponent_of X' ≤ fraction_digits X * 2 ^ exponent_of X
units_mono = pieces_mono power_digits (2 ^ 23) (λ f g l. digits_mono l) digits_first digits_last
