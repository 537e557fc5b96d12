-- What the programs compute for 2 ^ x and e ^ x. A reader of the promises need not read this: they name `exp2_of` and `exp_of`, and say all that is promised of them. Definitions only.
use Rattle.std.specs.Prelude.{ℕ, ◌+◌, ◌-◌, ◌*◌, ◌/◌, ◌%◌, ◌^◌, Bool, cond, from_bits, nat_le, nat_lt, Float}
use Rattle.std.specs.Float.{binary32}
use Rattle.units.specs.Units.{P, N}
use Rattle.fine.specs.Value.{fine_of}
use Rattle.powers.specs.Raised.{raised}

-- the pattern b of a size below 2 ^ 7 as a whole number of 2 ^ -32, the rest cut off
unfoldable pub steps_of : ℕ → ℕ
steps_of b = cond (nat_lt b (94 * 8388608)) 0 ((b % 8388608 + 8388608) * 2 ^ (b / 8388608 - 94) / 16777216)

-- x + 126 as a whole number of 2 ^ -32, what is left of x's size cut off
unfoldable pub cut_of : Float → ℕ
cut_of x = 126 * 2 ^ 32 + P x / 2 ^ 117 - N x / 2 ^ 117

-- digits in units of 2 ^ -32, from 1 to 2, rounded to 24 of them
abbrev pub rounded_digits : ℕ → ℕ
rounded_digits r = (r + 256) / 512

-- the 24 digits of 2 ^ (f / 2 ^ 32), rounded to nearest
unfoldable pub power_digits : ℕ → ℕ
power_digits f = rounded_digits (raised f)

-- the digits of the fraction, put together with the whole part: a bit pattern
unfoldable pub rounded_power : ℕ → ℕ
rounded_power c = c / 2 ^ 32 * 8388608 + power_digits (c % 2 ^ 32)

-- how far below the middle of two floats, and how far above it, digits in units of 2 ^ -32 do not tell on which side of it the power is
abbrev pub open_lower : ℕ
open_lower = 8

abbrev pub open_upper : ℕ
open_upper = 2

-- whether the digits r are so near to a middle, an odd number of 256
unfoldable pub is_left_open : ℕ → Bool
is_left_open r = nat_le ((r + 256 + open_lower) % 512) (open_lower + open_upper)

-- the fraction of x as a whole number of 2 ^ -64
unfoldable pub fraction_of : Float → ℕ
fraction_of x = (126 * 2 ^ 149 + P x - N x) / 2 ^ 85 % 2 ^ 64

-- the 24 digits of 2 ^ (t / 2 ^ 64) by the second evaluation, rounded to nearest
unfoldable pub fine_digits : ℕ → ℕ
fine_digits t = rounded_digits (fine_of t / 2 ^ 32 + 2 ^ 32)

-- the 24 digits of 2 ^ x, by the second evaluation where the first does not tell them
unfoldable pub exp2_digits : Float → ℕ
exp2_digits x = cond (is_left_open (raised (cut_of x % 2 ^ 32))) (fine_digits (fraction_of x)) (power_digits (cut_of x % 2 ^ 32))

-- put together with the whole part
unfoldable pub exp2_bits : Float → ℕ
exp2_bits x = cut_of x / 2 ^ 32 * 8388608 + exp2_digits x

-- and its float
unfoldable pub exp2_of : Float → Float
exp2_of x = from_bits binary32 (exp2_bits x)

-- ---- e ^ x is 2 ^ (x log2 e)
-- log2 e in units of 2 ^ -39, cut off
abbrev pub log2E : ℕ
log2E = 0xb8aa3b295c

-- the size with the pattern a, times log2 e, as a whole number of 2 ^ -32
unfoldable pub natural_steps : ℕ → ℕ
natural_steps a = cond (nat_lt a (94 * 8388608)) 0 ((a % 8388608 + 8388608) * log2E / 2 ^ (157 - a / 8388608))

-- x log2 e + 126 as a whole number of 2 ^ -32, what is left of its size cut off
unfoldable pub natural_cut : Float → ℕ
natural_cut x = 126 * 2 ^ 32 + P x * log2E / 2 ^ 156 - N x * log2E / 2 ^ 156

-- and its power's float
unfoldable pub exp_of : Float → Float
exp_of x = from_bits binary32 (rounded_power (natural_cut x))
