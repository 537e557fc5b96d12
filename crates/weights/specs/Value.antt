-- What the program computes for softmax, of either base. A reader of the promise need not read this: Softmax names `softmax_of` and says all that is promised of it. Definitions only.
use Rattle.std.specs.Prelude.{cond, List, map, ℕ, zero, suc, ◌+◌, ◌-◌, ◌*◌, ◌/◌, ◌^◌, ltb, length, Float}
use Rattle.std.specs.Int.Count.{count_leading_zeros}
use Rattle.std.specs.Float.{binary32}
use Rattle.std.specs.Float.Ieee.{of_bits}
use Rattle.units.specs.Answers.{float_bits}
use Rattle.fixed.specs.Rounded.{nearest_bits}
use Rattle.powers.specs.Base.{Base}
use Rattle.powers.specs.Fixed.{fixed_digits, fixed_exponent, fixed_power}
use Rattle.weights.specs.Lists.{at, sum}

-- ---- the largest element
-- a number in the order of the floats, of the pattern b
unfoldable pub key_of : ℕ → ℕ
key_of b = cond (ltb b 2147483648) (b + 2147483648) (4294967295 - b)

-- and the pattern again
unfoldable pub pattern_of : ℕ → ℕ
pattern_of k = cond (ltb k 2147483648) (4294967295 - k) (k - 2147483648)

-- the larger of two numbers
abbrev pub larger : ℕ → ℕ → ℕ
larger a b = cond (ltb a b) b a

-- the largest of f 0, f 1, ..., f (n - 1)
unfoldable pub largest : (ℕ → ℕ) → ℕ → ℕ
largest f zero = 0
largest f (suc n) = larger (largest f n) (f n)

abbrev pub key_at : List Float → ℕ → ℕ
key_at xs i = key_of (float_bits (at xs i))

-- the largest key of all elements
abbrev pub top_key : List Float → ℕ
top_key xs = largest (key_at xs) (length xs)

-- the largest element, and the exponent of its power
unfoldable pub top_of : List Float → Float
top_of xs = of_bits binary32 (pattern_of (top_key xs))

abbrev pub top_exponent : Base → List Float → ℕ
top_exponent base xs = fixed_exponent base (top_of xs)

-- ---- the sum of the powers
-- each a whole number of 2 ^ -158
abbrev pub power_at : Base → List Float → ℕ → ℕ
power_at base xs i = fixed_power base (at xs i)

-- the power of x in steps of 2 ^ (e - 178), what is left of its digits and one step more
unfoldable pub share_of : Base → ℕ → Float → ℕ
share_of base e x = fixed_digits base x * 1048576 / 2 ^ (e - fixed_exponent base x) + 1

abbrev pub share_at : Base → ℕ → List Float → ℕ → ℕ
share_at base e xs i = share_of base e (at xs i)

-- the sum of all of them
unfoldable pub total_of : Base → List Float → ℕ
total_of base xs = sum (share_at base (top_exponent base xs) xs) (length xs)

-- ---- its reciprocal, r * 2 ^ -c up to a constant
-- 31 digits of one over a number s of 64 - z digits
unfoldable pub inverse_of : ℕ → ℕ → ℕ
inverse_of s z = 4611686018427387904 / (s * 2 ^ z / 4294967296 + 1)

unfoldable pub factor_of : Base → List Float → ℕ
factor_of base xs = inverse_of (total_of base xs) (count_leading_zeros 64 (total_of base xs))

unfoldable pub places_of : Base → List Float → ℕ
places_of base xs = top_exponent base xs - count_leading_zeros 64 (total_of base xs)

-- ---- the weights
-- n 2 ^ (e - 40 - c) units as a bit pattern: rounded to 24 digits, or, where there are no more than these, cut off to a whole unit
unfoldable pub unit_bits : ℕ → ℕ → ℕ → ℕ
unit_bits n e c = cond (ltb c e) (nearest_bits n (e - c)) (n / 2 ^ (c + 40 - e))

-- the power of x, scaled by r and c
unfoldable pub weight_bits : Base → ℕ → ℕ → Float → ℕ
weight_bits base r c x = unit_bits (fixed_digits base x * r) (fixed_exponent base x + 115) c

unfoldable pub weight_of : Base → ℕ → ℕ → Float → Float
weight_of base r c x = of_bits binary32 (weight_bits base r c x)

-- of every element
unfoldable pub softmax_of : Base → List Float → List Float
softmax_of base xs = map (weight_of base (factor_of base xs) (places_of base xs)) xs
