-- What number a float is: a whole number of units of 2 ^ -149, the least float above zero. Definitions only.
use Rattle.std.specs.Prelude.{◌≡◌, ℕ, ◌+◌, ◌*◌, ◌/◌, ◌^◌, ◌≤◌, ◌<◌, Bool, false, cond, T, Float}
use Rattle.std.specs.Float.{nan, inf, fin, binary32}
use Rattle.std.specs.Float.Ieee.{up, down, fits}
use Rattle.std.specs.Float.Ieee.Scale.{finite}

-- the size of a float in units, whatever its sign; an infinity counts as 2 ^ 277, twice the greatest power of two among the floats
unfoldable pub mag : Float → ℕ
mag nan = 0
mag (inf s) = 2 ^ 277
mag (fin s m e) = m * up e * 2 ^ 149 / down e

-- the float carries the sign -
unfoldable pub negative : Float → Bool
negative nan = false
negative (inf s) = s
negative (fin s m e) = s

-- the float is P - N units: P is its size where it is positive, N where it is negative, and the other of the two is 0
abbrev pub P : Float → ℕ
P x = cond (negative x) 0 (mag x)

abbrev pub N : Float → ℕ
N x = cond (negative x) (mag x) 0

-- x is a finite f32: one of the numbers that the format holds
pub record Number (x : Float) : Type 0 where
  pub fits32 : T (fits binary32 x)
  pub is_finite : T (finite x)

-- x is a finite float above zero
pub record Positive (x : Float) : Type 0 where
  pub number : Number x
  pub sign : negative x ≡ false
  pub above : 0 < mag x

-- x is a finite float from -low to high units
pub record Between (low high : ℕ) (x : Float) : Type 0 where
  pub number : Number x
  pub at_least : N x ≤ low
  pub at_most : P x ≤ high

-- x is at most y, and below y, as exact numbers
abbrev pub Le : Float → Float → Type 0
Le x y = P x + N y ≤ P y + N x

abbrev pub Lt : Float → Float → Type 0
Lt x y = P x + N y < P y + N x
