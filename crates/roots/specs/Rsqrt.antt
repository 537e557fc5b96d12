-- The promise of the reciprocal root. Definitions only.
use Rattle.std.specs.Prelude.{ℕ, ◌+◌, ◌-◌, ◌*◌, ◌^◌, ◌<◌, ◌≤◌, ◌⊎◌, Float}
use Rattle.units.specs.Units.{mag, P, N, Number, Le, Lt}
use Rattle.units.specs.Answers.{Answers}
use Rattle.units.specs.Units.{Positive}
use Rattle.roots.specs.Value.{rsqrt_of}

-- accepted: the finite floats above zero, the subnormals among them
abbrev pub Accepts : Float → Type 0
Accepts x = Positive x

-- 2 / √x is below s - t, for x of X units and s and t in units: s - t is above zero, and 4 is below x times its square
abbrev pub TwiceRecipBelow : ℕ → ℕ → ℕ → Type 0
TwiceRecipBelow X s t = (t < s) × (4 * 2 ^ 447 < X * ((s - t) * (s - t)))

-- 2 / √x is above s - t: s - t is below zero, or x times its square is below 4
abbrev pub TwiceRecipAbove : ℕ → ℕ → ℕ → Type 0
TwiceRecipAbove X s t = (s < t) ⊎ (X * ((s - t) * (s - t)) < 4 * 2 ^ 447)

-- r is the float nearest to 1 / √x: of every other finite float z, 1 / √x lies on r's side of the middle of r and z. So no float is nearer, and no tie occurs
pub record NearestRecip (x r : Float) : Type 0 where
  pub from_above : (z : Float) → Number z → Lt r z → TwiceRecipBelow (mag x) (P r + P z) (N r + N z)
  pub from_below : (z : Float) → Number z → Lt z r → TwiceRecipAbove (mag x) (P r + P z) (N r + N z)

-- r > 0 is within a / b of 1 / √x, relatively: (1 - a/b)² ≤ x r² ≤ (1 + a/b)²
pub record NearRecipRoot (a b : ℕ) (x r : Float) : Type 0 where
  pub above_zero : 0 < P r
  pub at_least : (b - a) * (b - a) * 2 ^ 447 ≤ b * b * (mag x * (P r * P r))
  pub at_most : b * b * (mag x * (P r * P r)) ≤ (b + a) * (b + a) * 2 ^ 447

-- the proved relative error, 1 / 2 ^ 24, half a step: document 01 asks for 1 / 2 ^ 22
abbrev pub rsqrt_error_num : ℕ
rsqrt_error_num = 1

abbrev pub rsqrt_error_den : ℕ
rsqrt_error_den = 2 ^ 24

-- the whole promise of x, answered by a code and the result r
pub record Rsqrt (x : Float) (code : ℕ) (r : Float) : Type 0 where
  -- codes, the value
  pub answers : Answers Accepts rsqrt_of x code r
  -- the nearest float
  pub nearest : Accepts x → NearestRecip x r
  -- and so within 1 / 2 ^ 24, relatively
  pub near : Accepts x → NearRecipRoot rsqrt_error_num rsqrt_error_den x r
  -- a larger input never gives a larger output
  pub order : Accepts x → (x' : Float) → Accepts x' → Le x' x → Le r (rsqrt_of x')
