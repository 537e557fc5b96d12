-- What document 01 asks of log2: an absolute error from 1 / 2 to 2, and a relative one elsewhere. Change request Q2 asks for more, and the promise has it: a reader of that need not read this. Definitions only.
use Rattle.std.specs.Prelude.{ℕ, ◌+◌, ◌*◌, ◌^◌, ◌≤◌, Float}
use Rattle.exact.specs.Power.{AtMost, AtLeast}
use Rattle.units.specs.Units.{mag, P, N}

-- |log2 x| ≤ p / q
pub record LogUpTo (p q : ℕ) (x : Float) : Type 0 where
  pub least : AtLeast (mag x) (2 ^ 149) 0 p q
  pub most : AtMost (mag x) (2 ^ 149) p 0 q

-- |r - log2 x| ≤ (a / b) max (1, |log2 x|): (a / b) (p / q) is enough for every fraction p / q that is at least 1 and at least |log2 x|.
-- r is (P r - N r) / U with U = 2 ^ 149, so r - (a / b) (p / q) is (P r b q - (N r b q + a p U)) / (U b q), and likewise above
pub record NearLogOrOne (a b : ℕ) (x r : Float) : Type 0 where
  pub least : (p q : ℕ) → q ≤ p → LogUpTo p q x → AtLeast (mag x) (2 ^ 149) (P r * (b * q)) (N r * (b * q) + a * p * 2 ^ 149) (2 ^ 149 * (b * q))
  pub most : (p q : ℕ) → q ≤ p → LogUpTo p q x → AtMost (mag x) (2 ^ 149) (P r * (b * q) + a * p * 2 ^ 149) (N r * (b * q)) (2 ^ 149 * (b * q))
