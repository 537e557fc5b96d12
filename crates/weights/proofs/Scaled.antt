-- The scale of an accepted list: the largest element's exponent is that of the sum's steps, and the sum's reciprocal that of the powers. Assumes nothing.
use mathlib.Core.Path.{sym, ap, subst}
use mathlib.Core.List.{List}
use Prim.Native.Nat.{ℕ, ◌-◌, ◌^◌, ◌≤◌, ◌<◌}
use native.Mathlib.Nat.{le_trans, le_of_eq, lt_of_lt_of_le, mul-le-mul_right}
use native.Mathlib.Omega.{arith}
use lib.Count.{count_leading_zeros}
use lib.Dec.{lit<}
use lib.ListN.{length}
use lib.Ieee.{Float}
use Rattle.fixed.proofs.Rounding as rounding
use Rattle.powers.specs.Base.{Base}
use Rattle.powers.specs.Fixed.{fixed_exponent, fixed_power}
use Rattle.weights.specs.Lists.{at, sum}
use Rattle.weights.specs.Softmax.{Element, Elements}
use Rattle.weights.specs.Value.{top_of, top_exponent, power_at, total_of, factor_of, places_of}
use Rattle.weights.specs.Weight.{Scaling}
use Rattle.weights.proofs.Range.{power, exponent_low, exponent_high}
use Rattle.weights.proofs.Families.{member}
use Rattle.weights.proofs.Keys.{Largest, top_largest}
use Rattle.weights.proofs.Aligning.{Aligned, sum_aligned, sum_fits, aligned_many}
use Rattle.weights.proofs.Inverting.{Inverse, inverse_least, inverse_most, reciprocal_of, inverse_of_lem}

module _ (base : Base) (xs : List Float) (all : Elements xs) (some : 0 < length xs) where
  abbrev s : ℕ
  s = total_of base xs

  abbrev z : ℕ
  z = count_leading_zeros 64 s

  abbrev e : ℕ
  e = top_exponent base xs

  largest : Largest xs (top_of xs)
  largest = top_largest xs all some

  -- the largest element is one
  pub top_element : Element (top_of xs)
  top_element = subst Element largest.there (all.each largest.place largest.within)

  pub top_low : 33 ≤ e
  top_low = exponent_low (top_of xs) top_element base

  -- no element has a larger exponent
  pub top_most : (i : ℕ) → i < length xs → fixed_exponent base (at xs i) ≤ e
  top_most i h = (power (top_of xs) top_element base).exponents _ (largest.most i h)

  aligned : Aligned (sum (power_at base xs) (length xs)) e (length xs) s
  unfolding total_of
  aligned = sum_aligned base xs e (length xs) (λ i h. (all.each i h, top_most i h))

  -- its power is among those of the sum
  pub many : 2 ^ 52 ≤ s
  many =
      aligned_many _ _ _ _ aligned
      (le_trans (mul-le-mul_right (2 ^ e) (power (top_of xs) top_element base).least)
      (le_trans (le_of_eq (ap (fixed_power base) (sym largest.there))) (member (power_at base xs) (length xs) largest.place largest.within)))

  module _ (few : length xs ≤ 1024) where
    -- the sum has 64 digits at most, and 53 at least
    fits : s < 2 ^ 64
    unfolding total_of
    fits = omega (arith, sum_fits base xs e (length xs) few (λ i h. (all.each i h, top_most i h)))

    digits : rounding.Placed s z
    digits = rounding.placed s (lt_of_lt_of_le (lit< tt) many) fits

    zeros : z ≤ 11
    zeros = rounding.few_zeros s z 11 digits (omega (arith, many))

    pub scaling : Scaling (factor_of base xs) (places_of base xs)
    unfolding factor_of places_of
    scaling = record {
      least = inverse_least s z digits.low digits.high;
      most = inverse_most s z digits.low digits.high;
      high = omega (arith, exponent_high (top_of xs) top_element base);
    }

    pub inverse : Inverse (sum (power_at base xs) (length xs)) (factor_of base xs) (places_of base xs)
    unfolding factor_of places_of
    inverse = let f = zeros in let l = top_low in inverse_of_lem _ _ _ _ _ _ aligned (reciprocal_of s z digits.low digits.high e (e - z) (omega arith)) many few
