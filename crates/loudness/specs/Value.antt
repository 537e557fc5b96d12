-- What the program computes for the loudness map. A reader of the promise need not read this: Map names `step_of` and says all that is promised of it. Definitions only.
use Rattle.std.specs.Prelude.{ℕ, ◌+◌, ◌-◌, ◌*◌, ◌/◌, ◌^◌, cond, nat_le, Float}
use Rattle.std.specs.Int.Count.{count_leading_zeros}
use Rattle.logs.specs.Fixed.{fixed_of}
use Rattle.units.specs.Units.{P}

-- how far the logarithm of a is above that of b, in steps of 2 ^ -54
unfoldable pub rise_of : Float → Float → ℕ
rise_of b a = fixed_of a - fixed_of b

-- by how many places a rise d is shifted up to have 64 binary digits
unfoldable pub places_of : ℕ → ℕ
places_of d = count_leading_zeros 32 (d / 4294967296)

-- the upper half of a rise n that is shifted up by s places
unfoldable pub word_of : ℕ → ℕ → ℕ
word_of s n = n * 2 ^ s / 4294967296

-- k n / h, to the nearest whole number
unfoldable pub nearest_step : ℕ → ℕ → ℕ → ℕ
nearest_step k n h = (k * n + h / 2) / h

-- the steps of a rise n, of k steps over a rise of d
unfoldable pub steps_of : ℕ → ℕ → ℕ → ℕ
steps_of k n d = nearest_step k (word_of (places_of d) n) (word_of (places_of d) d)

-- the step: threshold up to b, comfort from m on, and between them in proportion to the rise
unfoldable pub step_of : (b m : Float) (t c : ℕ) → Float → ℕ
step_of b m t c a = cond (nat_le (P a) (P b)) t (cond (nat_le (P m) (P a)) c (t + steps_of (c - t) (rise_of b a) (rise_of b m)))

-- with a knee: one segment up to k, and another of the same kind from there on
unfoldable pub knee_of : (b k m : Float) (t s c : ℕ) → Float → ℕ
knee_of b k m t s c a = cond (nat_le (P a) (P k)) (step_of b k t s a) (step_of k m s c a)
