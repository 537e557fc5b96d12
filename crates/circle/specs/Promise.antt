-- The promises of sin (pi x), cos (pi x), sin x and cos x. Definitions only.
use Rattle.std.specs.Prelude.{◌≡◌, ℕ, ◌+◌, ◌*◌, ◌%◌, ◌^◌, ◌<◌, ◌≤◌, List, [], ◌∷◌, from_bits, slice_index, Float}
use Rattle.std.specs.Float.{binary32}
use Rattle.units.specs.Units.{mag, P, N, Number}
use Rattle.units.specs.Answers.{Answers}
use Rattle.exact.specs.Circle.{Signed, signed, bound, Sine, Cosine, quarter, quarter_unit}
use Rattle.circle.specs.Wave.{sin_pi_of, cos_pi_of, sin_of, cos_of}

-- accepted by sin (pi x) and cos (pi x): the finite floats below 2 ^ 22 in size
pub record AcceptsPi (x : Float) : Type 0 where
  pub number : Number x
  pub below : mag x < 2 ^ 22 * 2 ^ 149

-- accepted by sin x and cos x: every finite float
abbrev pub Accepts : Float → Type 0
Accepts = Number

-- the proved error of x itself, 17 / 2 ^ 29: half a step of a result up to 1 is 16, and all before the last rounding shares the rest. Document 01 asks for 1 / 2 ^ 22
abbrev pub wave_error_num : ℕ
wave_error_num = 17

abbrev pub wave_error_den : ℕ
wave_error_den = 2 ^ 29

-- that of pi x, 135 / 2 ^ 32 with pi / 2 cut off after 256 binary places. What is cut off moves the sine by less than 2 ^ -233, so that it is within 17 / 2 ^ 29 of the real one
abbrev pub pi_error_num : ℕ
pi_error_num = 135

abbrev pub pi_error_den : ℕ
pi_error_den = 2 ^ 32

-- a float as a fraction
abbrev pub as_fraction : Float → Signed
as_fraction x = signed (P x) (N x) (2 ^ 149)

-- pi x, which is 2 x quarter turns, where c / w stands for pi / 2
abbrev pub pi_times : ℕ → ℕ → Float → Signed
pi_times c w x = signed (c * (2 * P x)) (c * (2 * N x)) (w * 2 ^ 149)

-- the sine after so many quarter turns: +0, 1, +0, -1
abbrev pub quarter_bits : List ℕ
quarter_bits = 0 ∷ 0x3f800000 ∷ 0 ∷ 0xbf800000 ∷ []

abbrev pub at_quarter : ℕ → Float
at_quarter k = from_bits binary32 (slice_index quarter_bits (k % 4))

-- the whole promise of sin (pi x), answered by a code and the result r
pub record SinPi (x : Float) (code : ℕ) (r : Float) : Type 0 where
  -- codes, the value
  pub answers : Answers AcceptsPi sin_pi_of x code r
  -- within 17 / 2 ^ 29 of the real sin (pi x): within 135 / 2 ^ 32 by the 256 places of pi / 2
  pub near : AcceptsPi x → Sine (pi_times quarter quarter_unit x) (as_fraction r) (bound pi_error_num pi_error_den)
  -- exactly 0, 1 or -1 where 2 x is a whole number k - l: so many quarter turns, or k + 3 l but for whole turns; 0 is +0
  pub whole : AcceptsPi x → (k l : ℕ) → 2 * P x + l * 2 ^ 149 ≡ 2 * N x + k * 2 ^ 149 → r ≡ at_quarter (k + 3 * l)
  -- from -1 to 1
  pub inside : AcceptsPi x → mag r ≤ 2 ^ 149

-- the whole promise of cos (pi x): the same four clauses, of the cosine; it is the sine a quarter turn on
pub record CosPi (x : Float) (code : ℕ) (r : Float) : Type 0 where
  pub answers : Answers AcceptsPi cos_pi_of x code r
  pub near : AcceptsPi x → Cosine (pi_times quarter quarter_unit x) (as_fraction r) (bound pi_error_num pi_error_den)
  pub whole : AcceptsPi x → (k l : ℕ) → 2 * P x + l * 2 ^ 149 ≡ 2 * N x + k * 2 ^ 149 → r ≡ at_quarter (k + 3 * l + 1)
  pub inside : AcceptsPi x → mag r ≤ 2 ^ 149

-- the whole promise of sin x
pub record Sin (x : Float) (code : ℕ) (r : Float) : Type 0 where
  -- codes, the value
  pub answers : Answers Accepts sin_of x code r
  -- within 17 / 2 ^ 29 of the real sin x, the limit of its power series at x itself
  pub near : Accepts x → Sine (as_fraction x) (as_fraction r) (bound wave_error_num wave_error_den)
  -- from -1 to 1
  pub inside : Accepts x → mag r ≤ 2 ^ 149

-- the whole promise of cos x: the same three clauses, of the cosine
pub record Cos (x : Float) (code : ℕ) (r : Float) : Type 0 where
  pub answers : Answers Accepts cos_of x code r
  pub near : Accepts x → Cosine (as_fraction x) (as_fraction r) (bound wave_error_num wave_error_den)
  pub inside : Accepts x → mag r ≤ 2 ^ 149
