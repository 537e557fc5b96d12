-- What is known of levels, from the logarithm in fixed point: 3 / 2 ^ 32 off, in steps of 2 ^ -54. Assumes nothing.
use Rattle.std.proofs.Common.{◌≡◌, ℕ, ◌+◌, ◌*◌, ◌^◌, ◌<◌, ◌≤◌, subst, inl, inr, le_trans, le_of_eq, lt_of_lt_of_le, mul-le-mul_right, not-le_of_lt, arith, pow_pos, pow_mono}
use lib.Ieee.{Float}
use Rattle.exact.specs.Power.{AtMost, AtLeast}
use Rattle.exact.proofs.Power.{most_of_larger}
use Rattle.units.specs.Units.{Number, mag, P, N}
use Rattle.units.proofs.Signs.{one_sided, size-sum}
use Rattle.logs.specs.Fixed.{Accepts, fixed_of, fixed_error}
use Rattle.logs.proofs.Order.{fixed_least, fixed_most, fixed_order}
use Rattle.loudness.specs.Map.{Levels}
use Rattle.loudness.specs.Value.{rise_of}
use Rattle.loudness.proofs.Steps.{Enclosed, span_least, span_most}

abbrev pub parts : ℕ
parts = 2 ^ 54

abbrev pub shift : ℕ
shift = fixed_error

abbrev pub width : ℕ
width = 2 * fixed_error

-- a float that has a level: from 2 ^ -24 to 1
pub record Sound (x : Float) : Type 0 where
  pub number : Number x
  pub quietest : 2 ^ 125 ≤ P x
  pub loudest : P x ≤ 2 ^ 149

-- both levels of a channel are sounds
pub low_sound : {b m : Float} → Levels b m → Sound b
low_sound h = let o = h.octave in record { number = h.b_number; quietest = h.quietest; loudest = le_trans (omega arith) h.loudest }

pub high_sound : {b m : Float} → Levels b m → Sound m
high_sound h = let o = h.octave in record { number = h.m_number; quietest = le_trans h.quietest (omega arith); loudest = h.loudest }

-- a float with something above zero has nothing below it
pub positive : (x : Float) → 0 < P x → N x ≡ 0
positive x h = elim (one_sided x) [ inl e ↦ absurd (not-le_of_lt h (le_of_eq e)) | inr e ↦ e ]

-- ---- a sound has a logarithm
module _ {x : Float} (s : Sound x) where
  pub above_zero : 0 < P x
  above_zero = lt_of_lt_of_le (pow_pos 125) s.quietest

  size : P x ≡ mag x
  size = let z = positive x above_zero in omega (arith, size-sum x)

  pub accepted : Accepts x
  accepted = record {
    number = s.number;
    at_least_zero = positive x above_zero;
    normal = le_trans (pow_mono {i = 23} {j = 125} (omega arith)) (subst (λ (n : ℕ). 2 ^ 125 ≤ n) size s.quietest);
  }

  -- the level lies within the width of the logarithm
  pub encloses : Enclosed (P x) (2 ^ 22) (fixed_of x) width shift parts
  encloses = rw size (enclosed (mag x) (fixed_of x) (fixed_least x accepted) (fixed_most x accepted))
    where
      enclosed : (A W : ℕ) → AtLeast A (2 ^ 22) W fixed_error (2 ^ 54) → AtMost A (2 ^ 22) (W + fixed_error) 0 (2 ^ 54) → Enclosed A (2 ^ 22) W width shift parts
      enclosed A W l m = record { at_most = most_of_larger (pow_pos 54) (omega arith) m; at_least = l }

-- ---- of two sounds
module _ {x y : Float} (s : Sound x) (s' : Sound y) (less : P x ≤ P y) where
  -- the louder has no smaller logarithm
  pub rises : fixed_of x ≤ fixed_of y
  rises = fixed_order y x (accepted s') (accepted s) (in_order (P x) (N x) (P y) (N y) (accepted s).at_least_zero (accepted s').at_least_zero less)
    where
      in_order : (p n p' n' : ℕ) → n ≡ 0 → n' ≡ 0 → p ≤ p' → p + n' ≤ p' + n
      in_order p n p' n' z z' h = omega arith

  -- its level is the other's and the rise
  pub level_sum : fixed_of y ≡ fixed_of x + rise_of x y
  unfolding rise_of
  level_sum = let l = rises in omega arith

  pub encloses_sum : Enclosed (P y) (2 ^ 22) (fixed_of x + rise_of x y) width shift parts
  encloses_sum = rw level_sum at (encloses s')

  -- a rise has 59 digits
  pub rise_few : rise_of x y < 2 ^ 59
  rise_few = few (rise_of x y) (span_most (P x) (P y) (2 ^ 22) (fixed_of x) (rise_of x y) width shift parts (encloses s) encloses_sum (le_trans s'.loudest (mul-le-mul_right (2 ^ 24) s.quietest)))
    where
      few : (d : ℕ) → d ≤ 24 * parts + width → d < 2 ^ 59
      few d h = omega arith

  -- and of an octave or more no less than that, but for the errors
  pub rise_octave : 2 * P x ≤ P y → parts ≤ rise_of x y + width
  rise_octave = span_least (P x) (P y) (2 ^ 22) (fixed_of x) (rise_of x y) width shift parts (encloses s) encloses_sum
