-- What the arguments of either base share, by the laws of each. Assumes nothing.
use Rattle.std.proofs.Common.{◌≡◌, ℕ, ◌+◌, ◌-◌, ◌*◌, ◌%◌, ◌^◌, ◌<◌, ◌≤◌, T, true, false, leb, sym, inl, inr, le_trans}
use Rattle.std.proofs.Common.{le_of_eq, not-le_of_lt, mul-le-mul_right, arith, leb-true}
use lib.Ieee.{Float, binary32, fits, to_bits}
use Rattle.units.specs.Units.{Number, Between}
use Rattle.units.specs.Tests.{Tells}
use Rattle.units.proofs.Naturals.{le-or-lt}
use Rattle.units.proofs.Patterns.{Shape, packed, within, beyond}
use Rattle.units.proofs.Between.{clear_test, sign_set, size-between}
use Rattle.powers.specs.Exp.{Accepts}
use Rattle.powers.specs.Base.{Base}
use Rattle.powers.specs.Fixed.{argument_of}
use Rattle.powers.specs.Bases.{Accepted, steps_in, least_of, most_of}
use Rattle.powers.proofs.Taken.{pattern_small, cut_plus, cut_minus}
use Rattle.powers.proofs.Reduction.{cut_top}
use Rattle.powers.proofs.NaturalTaken.{size_small, natural_top, natural_plus, natural_minus}
use Rattle.powers.proofs.Base.{accepts}

-- ---- accepted floats
pub number_of : (base : Base) {x : Float} → Accepted base x → Number x
number_of false a = a.number
number_of true a = a.number

-- what e ^ x accepts is accepted by either base
pub by_both : (base : Base) {x : Float} → Accepts x → Accepted base x
by_both false a = accepts a
by_both true a = a

-- ---- the test of the pattern: l and h are the digits of the two ends, as 132 is the exponent of both
module _ (l h : ℕ) (low : Shape l 132) (high : Shape h 132) (order : l ≤ h) (x : Float) (f : T (fits binary32 x)) where
  abbrev Inside : Type 0
  Inside = Between (l * 2 ^ 132) (h * 2 ^ 132) x

  -- up to the least one's size x is accepted
  near : packed l 132 < 2139095040 → to_bits binary32 x % 2147483648 ≤ packed l 132 → Inside
  near top e =
      let (n, m) = within l 132 low x top f e in
      let b = size-between n m in
      record { number = n; at_least = b.at_least; at_most = le_trans b.at_most (mul-le-mul_right (2 ^ 132) order) }

  -- above it only a positive x may be
  far : packed h 132 < 2139095040 → packed l 132 < to_bits binary32 x % 2147483648
      → Tells Inside (leb (to_bits binary32 x) (packed h 132))
  far top e = elim (le-or-lt 2147483648 (to_bits binary32 x)) [
    | inl s ↦ record {
      if_true = λ t. absurd (omega (arith, leb-true (to_bits binary32 x) (packed h 132) t));
      if_false = λ t a.
          not-le_of_lt (beyond l 132 low x a.number e) (le_trans (le_of_eq (sym (sign_set x a.number s).1)) a.at_least);
    }
    | inr s ↦ clear_test l 132 h 132 low high x f top s
  ]

shape : (m : ℕ) → 8388608 ≤ m → m < 16777216 → Shape m 132
shape m first few = record { few = few; first = inr first }

-- the ends of the base 2, and those of the base e
two_low : Shape 0xfc0000 132
two_low = shape 0xfc0000 (omega arith) (omega arith)

two_high : Shape 0xfe0000 132
two_high = shape 0xfe0000 (omega arith) (omega arith)

natural_low : Shape 0xae0000 132
natural_low = shape 0xae0000 (omega arith) (omega arith)

natural_high : Shape 0xb00000 132
natural_high = shape 0xb00000 (omega arith) (omega arith)

pub near_of : (base : Base) (x : Float) → T (fits binary32 x)
    → to_bits binary32 x % 2147483648 ≤ least_of base → Accepted base x
near_of false x f e = near 0xfc0000 0xfe0000 two_low two_high (omega arith) x f (omega arith) e
near_of true x f e = near 0xae0000 0xb00000 natural_low natural_high (omega arith) x f (omega arith) e

pub far_of : (base : Base) (x : Float) → T (fits binary32 x)
    → least_of base < to_bits binary32 x % 2147483648
    → Tells (Accepted base x) (leb (to_bits binary32 x) (most_of base))
far_of false x f e = far 0xfc0000 0xfe0000 two_low two_high (omega arith) x f (omega arith) e
far_of true x f e = far 0xae0000 0xb00000 natural_low natural_high (omega arith) x f (omega arith) e

-- ---- the argument
module _ (x : Float) where
  abbrev steps : Base → ℕ
  steps base = steps_in base (to_bits binary32 x % 2147483648)

  pub small_of : (base : Base) → Accepted base x → to_bits binary32 x % 2147483648 < 134 * 8388608
  small_of false a = pattern_small x a
  small_of true a = size_small x a

  pub top_of : (base : Base) → Accepted base x → argument_of base x ≤ 253 * 2 ^ 32
  unfolding argument_of
  top_of false a = cut_top x a
  top_of true a = natural_top x a

  -- without the sign's bit the steps are added
  pub plus_of : (base : Base) → Accepted base x → to_bits binary32 x < 2147483648
      → 126 * 2 ^ 32 + steps base ≡ argument_of base x
  unfolding argument_of steps_in
  plus_of false a l = cut_plus x a l
  plus_of true a l = natural_plus x a l

  -- with it they are taken away
  pub minus_of : (base : Base) → Accepted base x → 2147483648 ≤ to_bits binary32 x
      → (steps base ≤ 126 * 2 ^ 32) × (126 * 2 ^ 32 - steps base ≡ argument_of base x)
  unfolding argument_of steps_in
  minus_of false a l = cut_minus x a l
  minus_of true a l = natural_minus x a l
