-- The promise of 2 ^ x. Definitions only.
use Rattle.std.specs.Prelude.{◌≡◌, ℕ, ◌+◌, ◌-◌, ◌*◌, ◌^◌, ◌<◌, ◌≤◌, ◌⊎◌, Float}
use Rattle.units.specs.Units.{P, N, Number, Le, Lt, Between}
use Rattle.units.specs.Answers.{Answers}
use Rattle.exact.specs.Power.{AtMost, AtLeast, LessThan, MoreThan}
use Rattle.powers.specs.Value.{exp2_of}

-- accepted: the finite floats from -126 to 127
abbrev pub Accepts : Float → Type 0
Accepts = Between (126 * 2 ^ 149) (127 * 2 ^ 149)

-- 2 · 2 ^ x is below s - t, for s and t in units: s - t is above zero, and half of it is more than 2 ^ x. The exponent is x itself, P x - N x units of 2 ^ -149
abbrev pub TwicePowerBelow : Float → ℕ → ℕ → Type 0
TwicePowerBelow x s t = (t < s) × MoreThan (s - t) (2 * 2 ^ 149) (P x) (N x) (2 ^ 149)

-- 2 · 2 ^ x is above s - t: s - t is below zero, or half of it is less than 2 ^ x
abbrev pub TwicePowerAbove : Float → ℕ → ℕ → Type 0
TwicePowerAbove x s t = (s < t) ⊎ LessThan (s - t) (2 * 2 ^ 149) (P x) (N x) (2 ^ 149)

-- r is the float nearest to 2 ^ x: of every other finite float z, 2 ^ x lies on r's side of the middle of r and z. So no float is nearer, and no tie occurs
pub record NearestPower (x r : Float) : Type 0 where
  pub from_above : (z : Float) → Number z → Lt r z → TwicePowerBelow x (P r + P z) (N r + N z)
  pub from_below : (z : Float) → Number z → Lt z r → TwicePowerAbove x (P r + P z) (N r + N z)

-- r > 0 is within a / b of 2 ^ x, relatively: r / (1 + a / b) ≤ 2 ^ x ≤ r / (1 - a / b)
pub record NearPower (a b : ℕ) (x r : Float) : Type 0 where
  pub plus : N r ≡ 0
  pub at_most : AtMost (b * P r) ((b + a) * 2 ^ 149) (P x) (N x) (2 ^ 149)
  pub at_least : AtLeast (b * P r) ((b - a) * 2 ^ 149) (P x) (N x) (2 ^ 149)

-- the proved relative error, 1 / 2 ^ 24, half a step: document 01 asks for 1 / 2 ^ 22
abbrev pub exp2_error_num : ℕ
exp2_error_num = 1

abbrev pub exp2_error_den : ℕ
exp2_error_den = 2 ^ 24

-- the whole promise of x, answered by a code and the result r
pub record Exp2 (x : Float) (code : ℕ) (r : Float) : Type 0 where
  -- codes, the value
  pub answers : Answers Accepts exp2_of x code r
  -- the nearest float
  pub nearest : Accepts x → NearestPower x r
  -- and so within 1 / 2 ^ 24 of the real number 2 ^ x, relatively
  pub near : Accepts x → NearPower exp2_error_num exp2_error_den x r
  -- exactly 2 ^ x where x is a whole number, n - m
  pub whole : Accepts x → (n m : ℕ) → P x + m * 2 ^ 149 ≡ N x + n * 2 ^ 149 → P r * 2 ^ m ≡ 2 ^ n * 2 ^ 149
  -- a normal float, 2 ^ -126 at least
  pub normal : Accepts x → 2 ^ 23 ≤ P r
  -- a larger input never gives a smaller output
  pub order : Accepts x → (x' : Float) → Accepts x' → Le x' x → Le (exp2_of x') r
