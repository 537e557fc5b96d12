-- What the programs compute: the sine of a phase, a whole number of 2 ^ -64 turns below 2 ^ 64. A reader of the promises need not read this: they name `sin_pi_of` and the others, and say
-- all that is promised of them. Definitions only.
use Rattle.std.specs.Prelude.{ℕ, ◌+◌, ◌-◌, ◌*◌, ◌/◌, ◌%◌, ◌^◌, Bool, cond, ◌==◌, from_bits, to_bits, Float}
use Rattle.std.specs.Float.{binary32}
use Rattle.fixed.specs.Rounded.{nearest_bits}
use Rattle.circle.specs.Kernel.{quarter_sine}
use Rattle.circle.specs.Phase.{half_turns, radians}

-- the first and the third quarter are read from their beginning, the others from their end
unfoldable pub forward : ℕ → Bool
forward t = t / 2 ^ 62 % 2 == 0

-- how far into its quarter a phase is, in units of 2 ^ -32 quarters
unfoldable pub into_quarter : ℕ → ℕ
into_quarter t = t / 2 ^ 30 % 2 ^ 32

-- and where the quarter is read there
unfoldable pub place_of : ℕ → ℕ
place_of t = cond (forward t) (into_quarter t) (4294967295 - into_quarter t)

-- the size of the sine, in units of 2 ^ -32
unfoldable pub size_of : ℕ → ℕ
size_of t = quarter_sine (place_of t)

-- the bit pattern of the sine: nearest to that size, below zero in the second half of the turn, and +0 where nothing is left
unfoldable pub wave_bits : ℕ → ℕ
wave_bits t = cond (size_of t == 0) 0 (t / 2 ^ 63 * 2147483648 + nearest_bits (size_of t) 157)

-- as a float
unfoldable pub wave : ℕ → Float
wave t = from_bits binary32 (wave_bits t)

-- half a turn on from a phase, where the sign's bit is set
unfoldable pub half_on : ℕ → ℕ → ℕ
half_on t sign = (t + sign * 2 ^ 63) % 2 ^ 64

-- a quarter on
unfoldable pub quarter_on : ℕ → ℕ
quarter_on t = (t + 2 ^ 62) % 2 ^ 64

-- the sine of an angle below zero is that of its size, half a turn on
abbrev pub sine_of : (ℕ → ℕ) → Float → Float
sine_of phase x = let b = to_bits binary32 x in wave (half_on (phase (b % 2147483648)) (b / 2147483648))

-- the cosine, whatever the sign, is the sine a quarter on
abbrev pub cosine_of : (ℕ → ℕ) → Float → Float
cosine_of phase x = let b = to_bits binary32 x in wave (quarter_on (phase (b % 2147483648)))

-- the four value functions
unfoldable pub sin_pi_of : Float → Float
sin_pi_of = sine_of half_turns

unfoldable pub cos_pi_of : Float → Float
cos_pi_of = cosine_of half_turns

unfoldable pub sin_of : Float → Float
sin_of = sine_of radians

unfoldable pub cos_of : Float → Float
cos_of = cosine_of radians
