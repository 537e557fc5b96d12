-- The two functions of pi x by any enclosure of pi / 2: what is between it and our own has room in 17 / 2 ^ 29. Assumes nothing.
use Rattle.std.proofs.Common.{ℕ, ◌+◌, ◌*◌, ◌^◌, ◌<◌, ◌≤◌, le_trans, le_of_lt, mul-le-mul_right, arith, lit<, lit≤, pow_pos}
use lib.Ieee.{Float}
use Rattle.units.specs.Units.{mag, Number}
use Rattle.units.proofs.Size.{mag-lt}
use Rattle.exact.specs.Circle.{Sine, Cosine, QuarterTurn, quarter_unit}
use Rattle.exact.proofs.Zero.{enclosed}
use Rattle.circle.specs.Wave.{sin_pi_of, cos_pi_of}
use Rattle.circle.specs.Promise.{wave_error_num, wave_error_den, pi_error_num, pi_error_den, as_fraction, pi_times}
use Rattle.circle.proofs.Near.{Close, open_bound, sine_close, cosine_close, half_near}

module _ (x : Float) (h : Number x) where
  module _ (c d w : ℕ) (wpos : 0 < w) (turn : QuarterTurn c d w) where
    -- by any other; 17 / 2 ^ 29 is 136 / 2 ^ 32, so that there is room for what is between them
    any_near : Close x h c w (open_bound d w x)
    any_near = enclosed (2 * mag x) (2 ^ 149) (2 ^ 40) wave_error_num wave_error_den wpos (pow_pos 149) (lit< tt) (lit< tt) turn room (half_near x h)
      where
        room : pi_error_num * wave_error_den * (quarter_unit * 2 ^ 149 * 2 ^ 40) + pi_error_den * wave_error_den * (2 * mag x * 2 ^ 40 + quarter_unit * 2 ^ 149) ≤ wave_error_num * pi_error_den * (quarter_unit * 2 ^ 149 * 2 ^ 40)
        room = through (quarter_unit * 2 ^ 149) (mag x) (le_trans (mul-le-mul_right (2 ^ 34) (le_of_lt (mag-lt x h))) (unfold quarter_unit in lit≤ tt))
          where
            through : (Q M : ℕ) → M * 2 ^ 34 ≤ Q → pi_error_num * wave_error_den * (Q * 2 ^ 40) + pi_error_den * wave_error_den * (2 * M * 2 ^ 40 + Q) ≤ wave_error_num * pi_error_den * (Q * 2 ^ 40)
            through Q M l = omega arith

    pub sin_pi_enclosed : Sine (pi_times c w x) (as_fraction (sin_pi_of x)) (open_bound d w x)
    sin_pi_enclosed = sine_close x h c w (open_bound d w x) any_near

    pub cos_pi_enclosed : Cosine (pi_times c w x) (as_fraction (cos_pi_of x)) (open_bound d w x)
    cos_pi_enclosed = cosine_close x h c w (open_bound d w x) any_near
