-- A float above zero, taken apart. A reader of the promises need not read this. Definitions only.
use Rattle.std.specs.Prelude.{◌≡◌, ℕ, ◌*◌, ◌/◌, ◌^◌, ◌≤◌, ◌<◌, Float}
use Rattle.std.specs.Float.Ieee.{size}
use Rattle.units.specs.Units.{mag}

-- x is m * 2 ^ (e - 173): a significand of 24 digits, the first of them set, and an exponent; subnormals have one too
pub record Apart (x : Float) (m e : ℕ) : Type 0 where
  pub same : mag x * 2 ^ 24 ≡ m * 2 ^ e
  pub least : 2 ^ 23 ≤ m
  pub digits : m < 2 ^ 24
  pub low : 1 ≤ e
  pub high : e ≤ 277

-- the exponent and the significand of a float above zero, by its units
unfoldable pub exponent : Float → ℕ
exponent x = size (mag x)

unfoldable pub significand : Float → ℕ
significand x = mag x * 2 ^ 24 / 2 ^ size (mag x)
