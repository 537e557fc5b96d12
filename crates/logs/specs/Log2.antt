-- The promise of log2. Definitions only.
use Rattle.std.specs.Prelude.{◌≡◌, ℕ, ◌+◌, ◌-◌, ◌*◌, ◌^◌, ◌<◌, ◌≤◌, from_bits, Float}
use Rattle.std.specs.Float.{binary32}
use Rattle.exact.specs.Power.{AtMost, AtLeast, LessThan, MoreThan}
use Rattle.units.specs.Units.{mag, P, N, Number, Le, Lt}
use Rattle.units.specs.Answers.{Answers}
use Rattle.logs.specs.Value.{log2_of}

-- accepted: the finite floats that are at least 2 ^ -126
pub record Accepts (x : Float) : Type 0 where
  pub number : Number x
  pub at_least_zero : N x ≡ 0
  pub normal : 2 ^ 23 ≤ mag x

-- r is the float nearest to log2 x: of every other finite float z, log2 x lies on r's side of the middle of r and z, which is (P r + P z - (N r + N z)) / 2 units of 2 ^ -149.
-- So no float is nearer, and no tie occurs
pub record NearestLog (x r : Float) : Type 0 where
  pub from_above : (z : Float) → Number z → Lt r z → LessThan (mag x) (2 ^ 149) (P r + P z) (N r + N z) (2 * 2 ^ 149)
  pub from_below : (z : Float) → Number z → Lt z r → MoreThan (mag x) (2 ^ 149) (P r + P z) (N r + N z) (2 * 2 ^ 149)

-- t / (1 + a / b) ≤ log2 (n / d) ≤ t / (1 - a / b), for t of T units of 2 ^ -149
pub record AroundLog (a b T n d : ℕ) : Type 0 where
  pub least : AtLeast n d (T * b) 0 (2 ^ 149 * (b + a))
  pub most : AtMost n d (T * b) 0 (2 ^ 149 * (b - a))

-- r is within a / b of log2 x, relatively: from 1 on r / (1 + a / b) ≤ log2 x ≤ r / (1 - a / b), and up to 1 the same of -r and log2 (1 / x)
pub record NearLog (a b : ℕ) (x r : Float) : Type 0 where
  pub above : 2 ^ 149 ≤ mag x → AroundLog a b (P r) (mag x) (2 ^ 149)
  pub below : mag x ≤ 2 ^ 149 → AroundLog a b (N r) (2 ^ 149) (mag x)

-- the proved relative error, 1 / 2 ^ 24, half a step. Change request Q2 asks for 1 / 2 ^ 21
abbrev pub log2_error_num : ℕ
log2_error_num = 1

abbrev pub log2_error_den : ℕ
log2_error_den = 2 ^ 24

-- the whole promise of x, answered by a code and the result r
pub record Log2 (x : Float) (code : ℕ) (r : Float) : Type 0 where
  -- codes, the value
  pub answers : Answers Accepts log2_of x code r
  -- the nearest float
  pub nearest : Accepts x → NearestLog x r
  -- and so within 1 / 2 ^ 24 of the real number log2 x, relatively
  pub near : Accepts x → NearLog log2_error_num log2_error_den x r
  -- the logarithm's sign: negative below 1, +0 at 1, positive above
  pub below_one : Accepts x → mag x < 2 ^ 149 → 0 < N r
  pub one : Accepts x → mag x ≡ 2 ^ 149 → r ≡ from_bits binary32 0
  pub above_one : Accepts x → 2 ^ 149 < mag x → 0 < P r
  -- exact at powers of two: of 2 ^ k units it is k - 149
  pub whole : Accepts x → (k : ℕ) → mag x ≡ 2 ^ k → P r + 149 * 2 ^ 149 ≡ k * 2 ^ 149 + N r
  -- a larger input never gives a smaller output
  pub order : Accepts x → (x' : Float) → Accepts x' → Le x' x → Le (log2_of x') r
