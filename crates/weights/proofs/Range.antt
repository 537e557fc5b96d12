-- The test of an element's pattern accepts the finite floats from -64 to 64, and no others; the powers of both bases accept every such float, with an exponent from 33 to 218. Assumes nothing.
use mathlib.Core.Path.{◌≡◌, sym, ◌∙◌, subst}
use mathlib.Core.Logic.{inr}
use mathlib.Core.Bool.{Bool, not}
use Prim.Native.Nat.{ℕ, ◌%◌, ◌≤◌, ◌<◌}
use native.Mathlib.Nat.{le_trans, not-le_of_lt}
use native.Mathlib.Omega.{arith}
use borrow.Author.Tests.{leb-true, leb-false, le-ltb}
use lib.Dec.{T, leb, lit≤}
use lib.Ieee.{Float, binary32, of_bits, to_bits, nan_bits}
use lib.Ieee.Bits.{of_bits-fits, nan_bits_is, nan_bits_above}
use Rattle.units.specs.Units.{Number}
use Rattle.units.specs.Tests.{Tells}
use Rattle.units.proofs.Patterns.{Shape, within, beyond, pattern_back}
use Rattle.units.proofs.Between.{size-between, between-size}
use Rattle.fixed.proofs.Take.{no_nan}
use Rattle.powers.specs.Exp as exp
use Rattle.powers.specs.Base.{Base}
use Rattle.powers.specs.Fixed.{fixed_exponent, FixedPower}
use Rattle.powers.proofs.Fixed.{fixed, exponent_least, exponent_most}
use Rattle.weights.specs.Softmax.{Element}

-- the digits of 64, with 132 for their exponent
top : Shape 0x800000 132
top = record { few = omega arith; first = inr (omega arith) }

module _ (b : ℕ) where
  -- the pattern of a number is no NaN's
  pub not_nan : Number (of_bits binary32 b) → T (not (nan_bits binary32 b))
  not_nan n = subst (λ (t : Bool). T (not t)) (sym (nan_bits_is binary32 b)) (no_nan (of_bits binary32 b) n)

  module _ (small : b < 4294967296) where
    -- and that of its float
    pub own_pattern : Number (of_bits binary32 b) → to_bits binary32 (of_bits binary32 b) ≡ b
    own_pattern n = pattern_back b small (not_nan n)

    -- up to 64's it is a number's
    below : b % 2147483648 ≤ 0x42800000 → T (not (nan_bits binary32 b))
    below l = subst (λ (t : Bool). T (not t)) (sym (nan_bits_above binary32 b ∙ le-ltb 2139095040 (b % 2147483648) (omega arith))) tt

    pub accepted_test : Tells (Element (of_bits binary32 b)) (leb (b % 2147483648) 0x42800000)
    accepted_test = record {
      if_true = λ e.
          let l = leb-true _ _ e in
          let (n, m) = within 0x800000 132 top (of_bits binary32 b) (omega arith) (of_bits-fits binary32 b) (rw (pattern_back b small (below l)) l) in
          size-between n m;
      if_false = λ e a. not-le_of_lt (beyond 0x800000 132 top (of_bits binary32 b) a.number (rw (own_pattern a.number) (leb-false _ _ e))) (between-size a);
    }

module _ (x : Float) (a : Element x) where
  -- the powers accept it
  pub power_accepts : exp.Accepts x
  power_accepts = record { number = a.number; at_least = le_trans a.at_least (lit≤ tt); at_most = le_trans a.at_most (lit≤ tt) }

  -- the power in fixed point
  pub power : (base : Base) → FixedPower base x
  power base = fixed base x power_accepts

  pub exponent_low : (base : Base) → 33 ≤ fixed_exponent base x
  exponent_low base = exponent_least base x a.at_least

  pub exponent_high : (base : Base) → fixed_exponent base x ≤ 218
  exponent_high base = exponent_most base x a.at_most
