-- The powers of 2 and of e in fixed point, on which softmax is built: digits and an exponent, before any rounding to a float. A reader of the promises need not read this. Definitions only.
use Rattle.std.specs.Prelude.{ℕ, ◌+◌, ◌*◌, ◌/◌, ◌%◌, ◌^◌, ◌≤◌, true, false, Float}
use Rattle.units.specs.Units.{Le}
use Rattle.powers.specs.Raised.{raised}
use Rattle.powers.specs.Base.{Base, PowerAtMost, PowerAtLeast}
use Rattle.powers.specs.Value.{cut_of, natural_cut}

-- x + 126, or x log2 e + 126, as a whole number of 2 ^ -32
unfoldable pub argument_of : Base → Float → ℕ
argument_of false x = cut_of x
argument_of true x = natural_cut x

-- what the program computes: the power of its fraction, in units of 2 ^ -32
unfoldable pub fixed_digits : Base → Float → ℕ
fixed_digits base x = raised (argument_of base x % 2 ^ 32)

-- and its whole part
unfoldable pub fixed_exponent : Base → Float → ℕ
fixed_exponent base x = argument_of base x / 2 ^ 32

-- the power as one whole number of steps of 2 ^ -158
abbrev pub fixed_power : Base → Float → ℕ
fixed_power base x = fixed_digits base x * 2 ^ fixed_exponent base x

-- it is at most 2 parts in 2 ^ 32 above the real number
abbrev pub fixed_above : ℕ
fixed_above = 2

-- and at most 8 below it
abbrev pub fixed_below : ℕ
fixed_below = 8

-- these digits and this exponent are the base to the power x in fixed point
pub record FixedPower (base : Base) (x : Float) : Type 0 where
  -- from 1 to 2
  pub least : 2 ^ 32 ≤ fixed_digits base x
  pub most : fixed_digits base x ≤ 2 ^ 33
  -- over 2 ^ 158 it is at most (1 + 2 / 2 ^ 32) times the power
  pub at_most : PowerAtMost base (2 ^ 32 * fixed_power base x) ((2 ^ 32 + fixed_above) * 2 ^ 158) x
  -- and the power at most (1 + 8 / 2 ^ 32) of it
  pub at_least : PowerAtLeast base ((2 ^ 32 + fixed_below) * fixed_power base x) (2 ^ 32 * 2 ^ 158) x
  -- a larger input has no smaller exponent, and no smaller power
  pub exponents : (x' : Float) → Le x' x → fixed_exponent base x' ≤ fixed_exponent base x
  pub order : (x' : Float) → Le x' x → fixed_power base x' ≤ fixed_power base x
