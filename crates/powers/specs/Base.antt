-- The two bases, 2 and e: what it means that a fraction is at most, or at least, a power of the base whose exponent is a float. Definitions only.
use Rattle.std.specs.Prelude.{ℕ, ◌^◌, Bool, true, false, Float}
use Rattle.units.specs.Units.{P, N}
use Rattle.exact.specs.Power.{AtMost, AtLeast}
use Rattle.exact.specs.Exponential.{ExpAtMost, ExpAtLeast}

-- whether the base is e, and not 2
abbrev pub Base : Type 0
Base = Bool

-- the base 2
abbrev pub two : Base
two = false

-- the base e
abbrev pub natural : Base
natural = true

-- n / d ≤ 2 ^ x, or e ^ x: the exponent is x itself, P x - N x units of 2 ^ -149
pub data PowerAtMost : Base → ℕ → ℕ → Float → Type 0 where
  most_two : {n d : ℕ} {x : Float} → AtMost n d (P x) (N x) (2 ^ 149) → PowerAtMost two n d x
  most_natural : {n d : ℕ} {x : Float} → ExpAtMost n d (P x) (N x) (2 ^ 149) → PowerAtMost natural n d x

-- 2 ^ x, or e ^ x, ≤ n / d
pub data PowerAtLeast : Base → ℕ → ℕ → Float → Type 0 where
  least_two : {n d : ℕ} {x : Float} → AtLeast n d (P x) (N x) (2 ^ 149) → PowerAtLeast two n d x
  least_natural : {n d : ℕ} {x : Float} → ExpAtLeast n d (P x) (N x) (2 ^ 149) → PowerAtLeast natural n d x
