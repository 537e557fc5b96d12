-- The promise of e ^ x. Definitions only.
use Rattle.std.specs.Prelude.{◌≡◌, ℕ, ◌+◌, ◌-◌, ◌*◌, ◌^◌, ◌≤◌, from_bits, Float}
use Rattle.std.specs.Float.{binary32}
use Rattle.units.specs.Units.{mag, P, N, Le, Between}
use Rattle.units.specs.Answers.{Answers}
use Rattle.exact.specs.Exponential.{ExpAtMost, ExpAtLeast}
use Rattle.powers.specs.Value.{exp_of}

-- accepted: the finite floats from -87 to 88
abbrev pub Accepts : Float → Type 0
Accepts = Between (87 * 2 ^ 149) (88 * 2 ^ 149)

-- r > 0 is within a / b of e ^ x, relatively: r / (1 + a / b) ≤ e ^ x ≤ r / (1 - a / b). The exponent is x itself, P x - N x units of 2 ^ -149
pub record NearExp (a b : ℕ) (x r : Float) : Type 0 where
  pub plus : N r ≡ 0
  pub at_most : ExpAtMost (b * P r) ((b + a) * 2 ^ 149) (P x) (N x) (2 ^ 149)
  pub at_least : ExpAtLeast (b * P r) ((b - a) * 2 ^ 149) (P x) (N x) (2 ^ 149)

-- the proved relative error, 515 / 2 ^ 33, as of 2 ^ x; asked are 1 / 2 ^ 22
abbrev pub exp_error_num : ℕ
exp_error_num = 515

abbrev pub exp_error_den : ℕ
exp_error_den = 2 ^ 33

-- the whole promise of x, answered by a code and the result r
pub record Exp (x : Float) (code : ℕ) (r : Float) : Type 0 where
  -- codes, the value
  pub answers : Answers Accepts exp_of x code r
  -- within 515 / 2 ^ 33 of the real number e ^ x, relatively
  pub near : Accepts x → NearExp exp_error_num exp_error_den x r
  -- exactly 1 at 0, of either sign
  pub one : Accepts x → mag x ≡ 0 → r ≡ from_bits binary32 0x3f800000
  -- a normal float, 2 ^ -126 at least
  pub normal : Accepts x → 2 ^ 23 ≤ P r
  -- a larger input never gives a smaller output
  pub order : Accepts x → (x' : Float) → Accepts x' → Le x' x → Le (exp_of x') r
