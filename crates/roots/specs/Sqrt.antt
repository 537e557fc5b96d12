-- The promise of the square root. Definitions only.
use Rattle.std.specs.Prelude.{◌≡◌, ℕ, ◌+◌, ◌-◌, ◌*◌, ◌^◌, ◌<◌, ◌⊎◌, Float}
use Rattle.units.specs.Units.{mag, P, N, Number, Le, Lt}
use Rattle.units.specs.Answers.{Answers}
use Rattle.roots.specs.Value.{sqrt_of}

-- accepted: the finite floats that are at least zero; -0 and the subnormals are among them
pub record Accepts (x : Float) : Type 0 where
  pub number : Number x
  pub at_least_zero : N x ≡ 0

-- 2 √x is below s - t, for x of X units and s and t in units: s - t is above zero, and 4 x is below its square
abbrev pub TwiceRootBelow : ℕ → ℕ → ℕ → Type 0
TwiceRootBelow X s t = (t < s) × (4 * (X * 2 ^ 149) < (s - t) * (s - t))

-- 2 √x is above s - t: s - t is below zero, or its square is below 4 x
abbrev pub TwiceRootAbove : ℕ → ℕ → ℕ → Type 0
TwiceRootAbove X s t = (s < t) ⊎ ((s - t) * (s - t) < 4 * (X * 2 ^ 149))

-- r is the float nearest to √x: of every other finite float z, √x lies on r's side of the middle of r and z. So no float is nearer, and no tie occurs
pub record NearestRoot (x r : Float) : Type 0 where
  pub from_above : (z : Float) → Number z → Lt r z → TwiceRootBelow (mag x) (P r + P z) (N r + N z)
  pub from_below : (z : Float) → Number z → Lt z r → TwiceRootAbove (mag x) (P r + P z) (N r + N z)

-- the whole promise of x, answered by a code and the result r
pub record Sqrt (x : Float) (code : ℕ) (r : Float) : Type 0 where
  -- codes, the value
  pub answers : Answers Accepts sqrt_of x code r
  -- the nearest float
  pub nearest : Accepts x → NearestRoot x r
  -- of -0 it is -0, of +0 it is +0
  pub zero : Accepts x → mag x ≡ 0 → r ≡ x
  -- a larger input never gives a smaller output
  pub order : Accepts x → (x' : Float) → Accepts x' → Le x' x → Le (sqrt_of x') r
