-- How near the four functions come, put together from the rooms: Method and Rounding (the kernel), Turn (every phase), Reduction and Taken (the argument), Join (the last rounding).
-- Assumes nothing.
use Rattle.std.proofs.Common.{◌≡◌, ℕ, ◌+◌, ◌*◌, ◌/◌, ◌%◌, ◌^◌, ◌<◌, ◌≤◌, Bool, true, false, cond, refl, ap, le_trans, le_of_eq, mod-lt, mul-zero, arith, lit<, lit≤, pow_pos}
use lib.Ieee.{Float}
use Rattle.units.specs.Units.{mag, negative, P, N, Number}
use Rattle.units.proofs.Size.{mag-lt}
use Rattle.exact.specs.Circle.{Bound, bound, Sine, Cosine, quarter, quarter_unit}
use Rattle.exact.proofs.Limits.{Both, both_wider}
use Rattle.fixed.proofs.Either.{top_bit}
use Rattle.circle.specs.Phase.{radians}
use Rattle.circle.specs.Wave.{size_of, wave, half_on, quarter_on, sin_pi_of, cos_pi_of, sin_of, cos_of}
use Rattle.circle.specs.Promise.{wave_error_num, wave_error_den, pi_error_num, pi_error_den, Accepts, as_fraction, pi_times}
use Rattle.circle.proofs.Pattern.{wave-signed, size_top, units_top}
use Rattle.circle.proofs.Reduction.{half-arrived}
use Rattle.circle.proofs.Taken.{size_bits, half_turns_taken, radians_taken}
use Rattle.circle.proofs.Join.{both_float, sine_joined, cosine_joined}

-- ---- every result

-- is finite, and from -1 to 1
module _ (t : ℕ) (few : t < 2 ^ 64) where
  pub wave-number : Number (wave t)
  wave-number = (wave-signed t few).number

  pub wave_inside : mag (wave t) ≤ 2 ^ 149
  wave_inside = le_trans (le_of_eq (wave-signed t few).size) (units_top (size_of t) (size_top t))

pub less : (n : ℕ) → n % 2 ^ 64 < 2 ^ 64
less n = mod-lt n (pow_pos 64)

-- ---- pi x

-- where pi / 2 is c / w and up to d / w more: 17 / 2 ^ 29 + 2 |x| d / w
abbrev pub open_bound : ℕ → ℕ → Float → Bound
open_bound d w x = bound (wave_error_num * (w * 2 ^ 149) + wave_error_den * (d * (2 * mag x))) (wave_error_den * (w * 2 ^ 149))

module _ (x : Float) (h : Number x) where
  abbrev pub half : ℕ
  half = mag x / 2 ^ 86

  pub sin_pi_is : sin_pi_of x ≡ wave ((half % 2 ^ 64 + cond (negative x) 1 0 * 2 ^ 63) % 2 ^ 64)
  unfolding sin_pi_of half_on
  sin_pi_is = rw (half_turns_taken x h, top_bit x h) refl

  pub cos_pi_is : cos_pi_of x ≡ wave ((half + 2 ^ 62) % 2 ^ 64)
  unfolding cos_pi_of quarter_on
  cos_pi_is = rw (half_turns_taken x h) (ap wave (on half))
    where
      on : (n : ℕ) → (n % 2 ^ 64 + 2 ^ 62) % 2 ^ 64 ≡ (n + 2 ^ 62) % 2 ^ 64
      on n = omega arith

  -- cosine and sine of 2 |x| times c / w are within e of the two floats
  abbrev pub Close : ℕ → ℕ → Bound → Type 0
  Close c w e =
      Both (c * (2 * mag x)) (w * 2 ^ 149) (P (wave ((half + 2 ^ 62) % 2 ^ 64))) (N (wave ((half + 2 ^ 62) % 2 ^ 64))) (P (wave (half % 2 ^ 64))) (N (wave (half % 2 ^ 64))) (2 ^ 149) e.num e.den

  -- so are those of either sign
  module _ (c w : ℕ) (e : Bound) (near : Close c w e) where
    side : (s : Bool) (m : ℕ) → (c * (2 * cond s 0 m) ≡ cond s 0 (c * (2 * m))) × (c * (2 * cond s m 0) ≡ cond s (c * (2 * m)) 0)
    side true m = (mul-zero c, refl)
    side false m = (refl, mul-zero c)

    pub sine_close : Sine (pi_times c w x) (as_fraction (sin_pi_of x)) e
    sine_close = let (i, j) = side (negative x) (mag x) in rw (i, j) (sine_joined (negative x) (half % 2 ^ 64) (less half) near (sin_pi_of x) sin_pi_is)

    pub cosine_close : Cosine (pi_times c w x) (as_fraction (cos_pi_of x)) e
    cosine_close = let (i, j) = side (negative x) (mag x) in rw (i, j) (cosine_joined (negative x) ((half + 2 ^ 62) % 2 ^ 64) near (cos_pi_of x) cos_pi_is)

  -- by our own pi / 2
  pub half_near : Close quarter quarter_unit (bound pi_error_num pi_error_den)
  half_near = both_float ((half + 2 ^ 62) % 2 ^ 64) (half % 2 ^ 64) (less (half + 2 ^ 62)) (less half) (half-arrived (mag x) (mag-lt x h))

  pub sin_pi_near : Sine (pi_times quarter quarter_unit x) (as_fraction (sin_pi_of x)) (bound pi_error_num pi_error_den)
  sin_pi_near = sine_close quarter quarter_unit (bound pi_error_num pi_error_den) half_near

  pub cos_pi_near : Cosine (pi_times quarter quarter_unit x) (as_fraction (cos_pi_of x)) (bound pi_error_num pi_error_den)
  cos_pi_near = cosine_close quarter quarter_unit (bound pi_error_num pi_error_den) half_near

-- ---- x itself

module _ (x : Float) (a : Accepts x) where
  abbrev t : ℕ
  t = radians (size_bits x)

  t_few : t < 2 ^ 64
  unfolding radians
  t_few = less _

  pub sin_is : sin_of x ≡ wave ((t + cond (negative x) 1 0 * 2 ^ 63) % 2 ^ 64)
  unfolding sin_of half_on
  sin_is = rw (top_bit x a) refl

  pub cos_is : cos_of x ≡ wave ((t + 2 ^ 62) % 2 ^ 64)
  unfolding cos_of quarter_on
  cos_is = refl

  both_near : Both (mag x) (2 ^ 149) (P (wave ((t + 2 ^ 62) % 2 ^ 64))) (N (wave ((t + 2 ^ 62) % 2 ^ 64))) (P (wave t)) (N (wave t)) (2 ^ 149) wave_error_num wave_error_den
  both_near = both_wider (lit< tt) (lit≤ tt) (both_float ((t + 2 ^ 62) % 2 ^ 64) t (less (t + 2 ^ 62)) t_few (radians_taken x a))

  pub sin_near : Sine (as_fraction x) (as_fraction (sin_of x)) (bound wave_error_num wave_error_den)
  sin_near = sine_joined (negative x) t t_few both_near (sin_of x) sin_is

  pub cos_near : Cosine (as_fraction x) (as_fraction (cos_of x)) (bound wave_error_num wave_error_den)
  cos_near = cosine_joined (negative x) ((t + 2 ^ 62) % 2 ^ 64) both_near (cos_of x) cos_is
